-- It is the one finding of its kind.
use Rattle.std.proofs.Common.{◌≡◌, ◌∙◌, false, sym, ap}
use Rattle.upgrade_review.proofs.Noting.{noted}
use Rattle.upgrade_review.specs.Codes.{is_started_with}
use Rattle.upgrade_review.specs.Gathering.{IsSameInBoth, IsLoadedAgain}
use Rattle.upgrade_review.specs.declared.finding.Finding.TheVariants.{LoadedAgain}
use Rattle.upgrade_review.proofs.script_findings.note_load.Goals as goal

pub returns : goal.returns
returns c =
    let left = c.args.left.now in
    let installed = c.args.installed.now in
    let script = c.args.script.now in
    let index = c.args.index in
    let name = c.args.name.now in
    let told = LoadedAgain index c.in_ok-module.«module» in
    let kept : IsSameInBoth name left installed = c.is_same_in_both.ensures.0 c.if-not-is_same_in_both.false in
    let still : is_started_with name installed script ≡ false = sym c.is_started_with.ensures ∙ c.if-is_started_with.false in
    let same : told ≡ LoadedAgain index name = ap (LoadedAgain index) c.in_ok-module.ensures in
    noted _ (IsLoadedAgain left installed script index name) told _ _ (kept, still, same) (λ f w. w.2 ∙ sym same) c.note.ensures
