-- It is noted if it is so.
use Rattle.std.proofs.Common.{◌≡◌, ◌∙◌, true, Option, ap, sym, true≢false}
use Rattle.erl_term.specs.declared.term.Term.{Term}
use Rattle.node_questions.proofs.Turns.{noted_where, nothing_noted}
use Rattle.rehearsals.specs.OnOtp.{failure_of, is_passed_over}
use Rattle.rehearsals.specs.declared.observing.Observation.{Observation}
use Rattle.rehearsals.specs.declared.observing.Observation.TheVariants.{PassedOverOnOtp}
use Rattle.rehearsals.proofs.on_otp.note_passed_over.Goals as goal

pub returns-then-is_passed_over : goal.returns-then-is_passed_over
returns-then-is_passed_over c =
    let s = c.args.station.now in
    let asked = ap (λ (why : Option Term). is_passed_over s.instruction why) c.failure_of.ensures in
    noted_where c.note.result (is_passed_over s.instruction (failure_of s.outcome) ≡ true) (PassedOverOnOtp c.args.way c.args.index) _ _
    (sym asked ∙ sym c.is_passed_over.ensures ∙ c.if-is_passed_over.true) c.note.ensures

pub returns : goal.returns
returns c =
    let s = c.args.station.now in
    let asked = ap (λ (why : Option Term). is_passed_over s.instruction why) c.failure_of.ensures in
    nothing_noted (is_passed_over s.instruction (failure_of s.outcome) ≡ true) (λ (o : Observation). o ≡ PassedOverOnOtp c.args.way c.args.index)
    c.args.found.now.items
    (λ holds. true≢false (sym holds ∙ sym asked ∙ sym c.is_passed_over.ensures ∙ c.if-is_passed_over.false))
