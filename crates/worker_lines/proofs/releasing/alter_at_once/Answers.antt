-- The change is made, or it is told why it isn't.
use Rattle.std.proofs.Common.{◌++◌, ap, ◌∙◌}
use Rattle.std.specs.Str.{chars}
use Rattle.node_history.specs.declared.command.Command.TheVariants as command
use Rattle.node_history.specs.declared.command.Said.TheVariants as said
use Rattle.worker_lines.specs.Asking.{event_told, done}
use Rattle.shell_answers.specs.Refusals.{naming}
use Rattle.shell_answers.specs.Answers.{line_of}
use Rattle.worker_lines.specs.Telling.{error_told}
use Rattle.worker_lines.proofs.Heard.{IfOk-then, heard-told, unheard-told}
use Rattle.worker_lines.proofs.releasing.alter_at_once.Goals as goal

pub returns-in-Ok : goal.returns-in-Ok
returns-in-Ok g c =
    IfOk-then c.say.result _ _ c.say.ensures (λ fate told. heard-told (command.Perform (c.args.event)) (naming (chars c.args.vsn.now)) (event_told done) c.args.seat.now c.perform.new.seat c.args.out.now.items c.say.new.out.items (said.Performed c.in-Ok.field-0) fate c.in-Ok.ensures told)

pub returns : goal.returns
returns g c =
    IfOk-then c.tell_error_of.result _ _ c.tell_error_of.ensures (λ fate told. unheard-told (command.Perform (c.args.event)) (naming (chars c.args.vsn.now)) (event_told done) c.args.seat.now c.perform.new.seat c.args.out.now.items c.tell_error_of.new.out.items c.in-Err.error fate c.in-Err.ensures (told.0, told.1 ∙ ap (λ a. c.args.out.now.items ++ line_of (error_told a c.in-Err.error)) c.naming-about.ensures))
