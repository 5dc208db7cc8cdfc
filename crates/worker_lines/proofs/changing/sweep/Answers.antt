-- What was swept is told, or why nothing was.
use Rattle.node_history.specs.declared.command.Command.TheVariants as command
use Rattle.node_history.specs.declared.command.Said.TheVariants as said
use Rattle.worker_lines.specs.Asking.{event_told}
use Rattle.node_types.specs.declared.event.Event.TheVariants as event
use Rattle.shell_answers.specs.Refusals.{naming_nothing}
use Rattle.shell_exec.specs.Performing.{swept_in}
use Rattle.worker_lines.proofs.Heard.{IfOk-then, heard-told, unheard-told}
use Rattle.worker_lines.proofs.changing.sweep.Goals as goal

pub returns-in-Ok : goal.returns-in-Ok
returns-in-Ok g c =
    IfOk-then c.tell_swept.result _ _ c.tell_swept.ensures (λ fate told. heard-told (command.Perform (event.Sweep)) naming_nothing (event_told swept_in) c.args.seat.now c.perform.new.seat c.args.out.now.items c.tell_swept.new.out.items (said.Performed c.in-Ok.answer) fate c.in-Ok.ensures told)

pub returns-in-Err : goal.returns-in-Err
returns-in-Err g c =
    IfOk-then c.tell_error.result _ _ c.tell_error.ensures (λ fate told. unheard-told (command.Perform (event.Sweep)) naming_nothing (event_told swept_in) c.args.seat.now c.perform.new.seat c.args.out.now.items c.tell_error.new.out.items c.in-Err.error fate c.in-Err.ensures told)
