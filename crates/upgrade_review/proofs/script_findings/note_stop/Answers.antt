-- It is the one finding of its kind.
use Rattle.std.proofs.Common.{◌≡◌, ◌+◌, ◌-◌, ◌∙◌, false, sym, ap}
use Rattle.std.proofs.Common.{drop, length, length-drop, le_of_eq, take, take_all}
use Rattle.upgrade_review.proofs.Noting.{noted}
use Rattle.upgrade_review.specs.Gathering.{IsStop}
use Rattle.upgrade_review.specs.Scripts.{is_started}
use Rattle.upgrade_review.specs.declared.finding.Finding.TheVariants.{Stops}
use Rattle.upgrade_review.proofs.script_findings.note_stop.Goals as goal

pub returns : goal.returns
returns c =
    let script = c.args.script.now in
    let index = c.args.index in
    let app = c.args.app.now in
    let told = Stops index c.in_ok-application.application in
    let rest = drop (index + 1) script in
    let left = length script - (index + 1) in
    let all : take left rest ≡ rest = take_all left rest (le_of_eq (length-drop (index + 1) script)) in
    let gone : is_started app rest ≡ false = ap (is_started app) (sym all) ∙ sym c.is_started.ensures ∙ c.if-is_started.false in
    let same : told ≡ Stops index app = ap (Stops index) c.in_ok-application.ensures in
    noted _ (IsStop script index app) told _ _ (gone, same) (λ f w. w.1 ∙ sym same) c.note.ensures
