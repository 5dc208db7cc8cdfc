-- It is the one finding of its kind.
use Rattle.std.proofs.Common.{◌≡◌, ◌∙◌, false, sym, ap}
use Rattle.upgrade_review.proofs.Noting.{noted}
use Rattle.upgrade_review.specs.Gathering.{IsNotUndone}
use Rattle.upgrade_review.specs.Scripts.{is_loaded, is_removed}
use Rattle.upgrade_review.specs.declared.finding.Finding.TheVariants.{NotUndone}
use Rattle.upgrade_review.proofs.script_findings.note_load_up.Goals as goal

pub returns : goal.returns
returns c =
    let down = c.args.down.now in
    let index = c.args.index in
    let name = c.args.name.now in
    let told = NotUndone index c.in_ok-module.«module» in
    let loaded : is_loaded name down ≡ false = sym c.is_loaded.ensures ∙ c.if-is_loaded.false in
    let removed : is_removed name down ≡ false = sym c.is_removed.ensures ∙ c.if-is_removed.false in
    let same : told ≡ NotUndone index name = ap (NotUndone index) c.in_ok-module.ensures in
    noted _ (IsNotUndone down index name) told _ _ (loaded, removed, same) (λ f w. w.2 ∙ sym same) c.note.ensures
