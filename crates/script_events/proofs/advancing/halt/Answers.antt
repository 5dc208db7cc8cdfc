-- The script ends, is given up, or stays; or the node restarts.
use Rattle.std.proofs.Common.{◌≡◌, ◌∙◌, ℕ, Result, Err, refl, sym, ap, subst}
use Rattle.script_state.specs.Runner.{RunnerState}
use Rattle.script_steps.specs.declared.stepping.NoStep.{NoStep}
use Rattle.script_steps.specs.declared.stepping.NoStep.TheVariants.{AtEnd, Failed}
use Rattle.script_steps.specs.declared.stepping.Side.TheVariants.{Before, Behind}
use Rattle.undo_journal.specs.declared.reversible.Stepped.{Stepped}
use Rattle.values.specs.declared.failure.Failure.{Failure}
use Rattle.node_parts.specs.Changes.{IsStepOf, state_of}
use Rattle.node_parts.specs.declared.record.Record.{Record}
use Rattle.node_parts.specs.Node.{NodeState}
use Rattle.node_parts.specs.Scripts.{CanHalt, HaltsAs}
use Rattle.node_types.specs.declared.event.Answer.{Answer}
use Rattle.node_types.specs.Note.{Note}
use Rattle.node_types.specs.declared.event.Refusal.{Refusal}
use Rattle.node_types.specs.declared.event.Refusal.TheVariants as refusal
use Rattle.script_events.proofs.advancing.halt.Goals as goal

of_stop : (stop other : NoStep) (s : RunnerState) (k : ℕ) (n after : NodeState) (result : Result (Stepped Answer Note Record) (Failure Refusal)) → stop ≡ other → IsStepOf (HaltsAs other s n) (Unit {0}) k n after result → IsStepOf (HaltsAs stop s n) (Unit {0}) k n after result
of_stop stop other s k n after result is step = subst (λ (x : NoStep). IsStepOf (HaltsAs x s n) (Unit {0}) k n after result) (sym is) step

pub end_script-requires : goal.end_script-requires
end_script-requires c =
    let (s, there, can) = c.requires in
    (s, there, subst (λ (x : NoStep). CanHalt x s (state_of c.args.parts.now)) c.in-AtEnd.is can)

pub give_up_script-requires : goal.give_up_script-requires
give_up_script-requires c =
    let (s, there, can) = c.requires in
    let f = c.in-Failed-Before-default in
    (s, there, subst (λ (x : NoStep). CanHalt x s (state_of c.args.parts.now)) (f.is ∙ ap (λ side. Failed side f.reason) f.field-0-is) can)

pub returns-in-AtEnd : goal.returns-in-AtEnd
returns-in-AtEnd c = λ s there.
    of_stop c.args.stop AtEnd s c.args.n (state_of c.args.parts.now) (state_of c.end_script.new.parts) c.end_script.result c.in-AtEnd.is (c.end_script.ensures s there)

pub returns-in-Busy : goal.returns-in-Busy
returns-in-Busy c = λ s there.
    (subst (λ (x : NoStep). HaltsAs x s (state_of c.args.parts.now) (Err (refusal.Busy c.in-Busy.pid))) (sym c.in-Busy.is) refl, refl)

pub returns-in-Failed-Before-default : goal.returns-in-Failed-Before-default
returns-in-Failed-Before-default c = λ s there.
    let f = c.in-Failed-Before-default in
    of_stop c.args.stop (Failed Before f.reason) s c.args.n (state_of c.args.parts.now) (state_of c.give_up_script.new.parts) c.give_up_script.result
    (f.is ∙ ap (λ side. Failed side f.reason) f.field-0-is) (c.give_up_script.ensures s there)

pub returns-in-Failed-Behind-default : goal.returns-in-Failed-Behind-default
returns-in-Failed-Behind-default c = λ s there.
    let f = c.in-Failed-Behind-default in
    of_stop c.args.stop (Failed Behind f.reason) s c.args.n (state_of c.args.parts.now) (state_of c.fall_back.new.parts) c.fall_back.result
    (f.is ∙ ap (λ side. Failed side f.reason) f.field-0-is) c.fall_back.ensures

pub returns-in-CounterEnd : goal.returns-in-CounterEnd
returns-in-CounterEnd c = λ s there.
    (subst (λ (x : NoStep). HaltsAs x s (state_of c.args.parts.now) (Err refusal.CounterEnd)) (sym c.in-CounterEnd.is) refl, refl)
