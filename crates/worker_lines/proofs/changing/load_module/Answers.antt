-- The module is loaded, or it is told why it isn't.
use Rattle.std.proofs.Common.{◌++◌, ap, ◌∙◌}
use Rattle.node_history.specs.declared.command.Command.TheVariants as command
use Rattle.node_history.specs.declared.command.Said.TheVariants as said
use Rattle.worker_lines.specs.Asking.{event_told}
use Rattle.node_types.specs.declared.event.Event.TheVariants as event
use Rattle.shell_answers.specs.Refusals.{naming_nothing}
use Rattle.shell_answers.specs.Answers.{line_of, loaded}
use Rattle.worker_lines.proofs.Heard.{IfOk-then, heard-told, memory-told, unheard-told}
use Rattle.worker_lines.proofs.changing.load_module.Goals as goal

pub returns-in_default : goal.returns-in_default
returns-in_default g c =
    IfOk-then c.refuse.result _ _ c.refuse.ensures (λ fate told. memory-told (command.Perform (event.Load c.args.code)) naming_nothing (event_told (λ _. loaded c.args.code.name)) c.args.seat.now c.args.out.now.items c.refuse.new.out.items fate told)

pub returns-in-Ok-perform : goal.returns-in-Ok-perform
returns-in-Ok-perform g c =
    IfOk-then c.tell_loaded.result _ _ c.tell_loaded.ensures (λ fate told. heard-told (command.Perform (event.Load c.args.code)) naming_nothing (event_told (λ _. loaded c.args.code.name)) c.args.seat.now c.perform.new.seat c.args.out.now.items c.tell_loaded.new.out.items (said.Performed c.in-Ok-perform.field-0) fate c.in-Ok-perform.ensures (told.0, told.1 ∙ ap (λ n. c.args.out.now.items ++ line_of (loaded n)) (c.in-Ok.ensures ∙ c.name.ensures)))

pub returns : goal.returns
returns g c =
    IfOk-then c.tell_error.result _ _ c.tell_error.ensures (λ fate told. unheard-told (command.Perform (event.Load c.args.code)) naming_nothing (event_told (λ _. loaded c.args.code.name)) c.args.seat.now c.perform.new.seat c.args.out.now.items c.tell_error.new.out.items c.in-Err.error fate c.in-Err.ensures told)
