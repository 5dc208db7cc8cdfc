-- The next item, and then none is left.
use Rattle.std.proofs.Common.{ℕ, List, subst}
use Rattle.release_table.specs.declared.table.AppFiles.{AppFiles}
use Rattle.upgrade_review.proofs.Adding.{ends, goes_on}
use Rattle.upgrade_review.specs.Gathering.{Adds, FromEach, IsNotLoadedOf}
use Rattle.upgrade_review.specs.declared.finding.Finding.{Finding}
use Rattle.upgrade_review.proofs.modules.note_not_loaded.Goals as goal

pub loop-files-preserved : goal.loop-files-preserved
loop-files-preserved c =
    let apps = c.as_slice-apps.result.now in
    let R : ℕ → AppFiles → Finding → Type 0 = λ i files. IsNotLoadedOf c.args.left.now c.args.script.now files in
    goes_on R apps _ _ _ _ _ c.loop-files-test.true c.files-item.is c.loop-files.invariant c.in_ok-note_modules.ensures

pub returns : goal.returns
returns c =
    let apps = c.as_slice-apps.result.now in
    let old = c.args.found.now.items in
    let R : ℕ → AppFiles → Finding → Type 0 = λ i files. IsNotLoadedOf c.args.left.now c.args.script.now files in
    subst (λ (items : List AppFiles). Adds (FromEach R items) old c.loop-files.found.items) c.as_slice-apps.ensures
    (ends R apps _ _ _ c.loop-files-test.false c.loop-files.invariant)
