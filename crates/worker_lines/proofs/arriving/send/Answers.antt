-- It has arrived, or it is told why it has not.
use Rattle.std.proofs.Common.{IfOk, ap, subst, ◌∙◌}
use Rattle.node_history.specs.declared.command.Command.TheVariants as command
use Rattle.node_history.specs.declared.command.Said.TheVariants as said
use Rattle.worker_lines.specs.Asking.{event_told, done, IsAnswered}
use Rattle.node_types.specs.declared.event.Event.TheVariants as event
use Rattle.shell_answers.specs.Refusals.{naming_nothing}
use Rattle.node_types.specs.declared.event.Event.{Event}
use Rattle.worker_lines.specs.Execution.{Performs}
use Rattle.worker_lines.proofs.Heard.{IfOk-then, heard-told, unheard-told}
use Rattle.worker_lines.proofs.arriving.send.Goals as goal

pub returns-in-Ok : goal.returns-in-Ok
returns-in-Ok g c =
    subst (λ (x : Event). IfOk c.say.result (λ fate. IsAnswered (Performs x naming_nothing done fate) c.args.seat.now c.perform.new.seat c.args.out.now.items c.say.new.out.items)) (ap (λ n. event.Arrive n c.args.name c.args.body) c.number.ensures) (IfOk-then c.say.result _ _ c.say.ensures (λ fate told. heard-told (command.Perform (event.Arrive c.number.result c.args.name c.args.body)) naming_nothing (event_told done) c.args.seat.now c.perform.new.seat c.args.out.now.items c.say.new.out.items (said.Performed c.in-Ok.field-0) fate c.in-Ok.ensures told))

pub returns : goal.returns
returns g c =
    subst (λ (x : Event). IfOk c.tell_error.result (λ fate. IsAnswered (Performs x naming_nothing done fate) c.args.seat.now c.perform.new.seat c.args.out.now.items c.tell_error.new.out.items)) (ap (λ n. event.Arrive n c.args.name c.args.body) c.number.ensures) (IfOk-then c.tell_error.result _ _ c.tell_error.ensures (λ fate told. unheard-told (command.Perform (event.Arrive c.number.result c.args.name c.args.body)) naming_nothing (event_told done) c.args.seat.now c.perform.new.seat c.args.out.now.items c.tell_error.new.out.items c.in-Err.error fate c.in-Err.ensures told))
