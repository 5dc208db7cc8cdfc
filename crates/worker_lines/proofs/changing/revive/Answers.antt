-- The child runs again, or it is told why it doesn't.
use Rattle.std.proofs.Common.{IfOk, ap, subst, ◌∙◌}
use Rattle.std.specs.Str.{chars}
use Rattle.node_history.specs.declared.command.Command.TheVariants as command
use Rattle.node_history.specs.declared.command.Said.TheVariants as said
use Rattle.worker_lines.specs.Asking.{event_told, IsAnswered}
use Rattle.node_types.specs.declared.event.Event.TheVariants as event
use Rattle.shell_answers.specs.Refusals.{naming_nothing}
use Rattle.shell_exec.specs.Performing.{revived_in}
use Rattle.erl_term.specs.declared.term.Term.TheVariants as term
use Rattle.node_types.specs.declared.event.Event.{Event}
use Rattle.worker_lines.specs.Execution.{Performs}
use Rattle.worker_lines.proofs.Heard.{IfOk-then, heard-told, memory-told, unheard-told}
use Rattle.worker_lines.proofs.changing.revive.Goals as goal

pub returns-in_default : goal.returns-in_default
returns-in_default g c =
    IfOk-then c.refuse.result _ _ c.refuse.ensures (λ fate told. memory-told (command.Perform (event.Revive (chars c.args.app.text.now) (term.Atom (chars c.args.id.text.now)))) naming_nothing (event_told revived_in) c.args.seat.now c.args.out.now.items c.refuse.new.out.items fate told)

pub returns-in-Ok-perform : goal.returns-in-Ok-perform
returns-in-Ok-perform g c =
    subst (λ (x : Event). IfOk c.tell_revived.result (λ fate. IsAnswered (Performs x naming_nothing revived_in fate) c.args.seat.now c.perform.new.seat c.args.out.now.items c.tell_revived.new.out.items)) c.in-Ok.ensures (IfOk-then c.tell_revived.result _ _ c.tell_revived.ensures (λ fate told. heard-told (command.Perform (c.in-Ok.event)) naming_nothing (event_told revived_in) c.args.seat.now c.perform.new.seat c.args.out.now.items c.tell_revived.new.out.items (said.Performed c.in-Ok-perform.answer) fate c.in-Ok-perform.ensures told))

pub returns-in-Err : goal.returns-in-Err
returns-in-Err g c =
    subst (λ (x : Event). IfOk c.tell_error.result (λ fate. IsAnswered (Performs x naming_nothing revived_in fate) c.args.seat.now c.perform.new.seat c.args.out.now.items c.tell_error.new.out.items)) c.in-Ok.ensures (IfOk-then c.tell_error.result _ _ c.tell_error.ensures (λ fate told. unheard-told (command.Perform (c.in-Ok.event)) naming_nothing (event_told revived_in) c.args.seat.now c.perform.new.seat c.args.out.now.items c.tell_error.new.out.items c.in-Err.error fate c.in-Err.ensures told))
