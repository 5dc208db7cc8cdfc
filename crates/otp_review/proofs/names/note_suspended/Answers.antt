-- It is the one finding of its kind.
use Rattle.std.proofs.Common.{◌≡◌, ◌+◌, ◌-◌, ◌∙◌, false, sym, ap}
use Rattle.std.proofs.Common.{drop, length, length-drop, le_of_eq, take, take_all}
use Rattle.upgrade_review.proofs.Noting.{noted}
use Rattle.otp_review.specs.OnOtp.{IsNotResumed, is_let_go}
use Rattle.upgrade_review.specs.declared.finding.Finding.TheVariants.{NotResumedOnOtp}
use Rattle.otp_review.proofs.names.note_suspended.Goals as goal

pub returns : goal.returns
returns c =
    let way = c.args.way in
    let script = c.args.script.now in
    let index = c.args.index in
    let name = c.args.name.now in
    let told = NotResumedOnOtp way index c.in_ok-module.«module» in
    let rest = drop (index + 1) script in
    let left = length script - (index + 1) in
    let all : take left rest ≡ rest = take_all left rest (le_of_eq (length-drop (index + 1) script)) in
    let gone : is_let_go name rest ≡ false = ap (is_let_go name) (sym all) ∙ sym c.is_let_go.ensures ∙ c.if-is_let_go.false in
    let same : told ≡ NotResumedOnOtp way index name = ap (NotResumedOnOtp way index) c.in_ok-module.ensures in
    noted _ (IsNotResumed way script index name) told _ _ (gone, same) (λ f w. w.1 ∙ sym same) c.note.ensures
