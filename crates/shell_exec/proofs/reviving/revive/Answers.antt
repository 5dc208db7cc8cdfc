-- The child runs again, or it is told why it doesn't.
use Rattle.std.proofs.Common.{[], IfOk, refl, subst, sym}
use Rattle.std.specs.Str.{chars}
use Rattle.erl_term.specs.declared.term.Term.TheVariants as term
use Rattle.node_types.specs.declared.event.Event.{Event}
use Rattle.node_types.specs.declared.event.Event.TheVariants as event
use Rattle.shell_answers.specs.Answers.{line_of}
use Rattle.shell_answers.specs.Refusals.{naming_nothing}
use Rattle.shell_upgrades.proofs.Done.{IfOk-then}
use Rattle.shell_upgrades.proofs.Performing.{halted, performed}
use Rattle.shell_upgrades.specs.Performing.{Performs, revived_in}
use Rattle.shell_upgrades.specs.Done.{IsDone}
use Rattle.shell_upgrades.specs.State.{ShellState, carried, stepped}
use Rattle.shell_exec.proofs.reviving.revive.Goals as goal

pub returns-in_default : goal.returns-in_default
returns-in_default c =
    let s = c.args.held.now in
    let e = event.Revive (chars c.args.app.text.now) (term.Atom (chars c.args.id.text.now)) in
    IfOk-then c.tell_halt.result _ _ c.tell_halt.ensures (λ fate told. halted s e naming_nothing (λ a. carried (stepped a s) e (revived_in a.answer)) c.halt_of_revival.result fate c.args.out.now.items c.tell_halt.new.out.items c.halt_of_revival.ensures told)

pub returns-in-Ok-perform : goal.returns-in-Ok-perform
returns-in-Ok-perform c =
    let s = c.args.held.now in
    let e = c.in-Ok.event in
    subst (λ (x : Event). IfOk c.tell_revived.result (λ fate. IsDone (Performs s s x naming_nothing (λ a. carried (stepped a s) x (revived_in a.answer)) fate) c.perform.new.self c.args.out.now.items c.tell_revived.new.out.items)) c.in-Ok.ensures (IfOk-then c.tell_revived.result _ _ c.tell_revived.ensures (λ fate told. performed s c.perform.new.self e naming_nothing (λ a. carried (stepped a s) e (revived_in a.answer)) c.in-Ok-perform.answer fate c.perform.new.self c.args.out.now.items c.tell_revived.new.out.items (λ after a. after) (λ after a. line_of (revived_in a)) c.in-Ok-perform.ensures.stepped (λ a rule. refl) (told.0, refl, told.1)))

pub returns-in-Err : goal.returns-in-Err
returns-in-Err c =
    let s = c.args.held.now in
    let e = c.in-Ok.event in
    subst (λ (x : Event). IfOk c.tell_halt-in-Err.result (λ fate. IsDone (Performs s s x naming_nothing (λ a. carried (stepped a s) x (revived_in a.answer)) fate) c.perform.new.self c.args.out.now.items c.tell_halt-in-Err.new.out.items)) c.in-Ok.ensures (IfOk-then c.tell_halt-in-Err.result _ _ c.tell_halt-in-Err.ensures (λ fate told. subst (λ (u : ShellState). IsDone (Performs s s e naming_nothing (λ a. carried (stepped a s) e (revived_in a.answer)) fate) u c.args.out.now.items c.tell_halt-in-Err.new.out.items) (sym c.in-Err.ensures.err) (halted s e naming_nothing (λ a. carried (stepped a s) e (revived_in a.answer)) c.in-Err.halt fate c.args.out.now.items c.tell_halt-in-Err.new.out.items c.in-Err.ensures.halted told)))
