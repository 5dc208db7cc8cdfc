-- What it came to was told.
use Rattle.std.proofs.Common.{◌++◌, ap, ◌∙◌}
use Rattle.shell_answers.specs.Answers.{line_of, undone_steps}
use Rattle.node_history.specs.declared.command.Command.TheVariants as command
use Rattle.node_history.specs.declared.command.Said.TheVariants as said
use Rattle.shell_answers.specs.Refusals.{naming_nothing}
use Rattle.worker_lines.specs.Asking.{undone_told}
use Rattle.worker_lines.proofs.Heard.{IfOk-then, heard-told, unheard-told}
use Rattle.worker_lines.proofs.undoing.undo.Goals as goal

pub returns-in-Ok : goal.returns-in-Ok
returns-in-Ok g c =
    IfOk-then c.say_undone.result _ _ c.say_undone.ensures (λ fate told. heard-told (command.Undo c.args.mark) naming_nothing undone_told c.args.seat.now c.undo.new.seat c.args.out.now.items c.say_undone.new.out.items (said.Undone c.in-Ok.report) fate c.in-Ok.ensures (told.0, told.1 ∙ ap (λ r. c.args.out.now.items ++ line_of (undone_steps r)) c.get.ensures))

pub returns-in-Err : goal.returns-in-Err
returns-in-Err g c =
    IfOk-then c.tell_error.result _ _ c.tell_error.ensures (λ fate told. unheard-told (command.Undo c.args.mark) naming_nothing undone_told c.args.seat.now c.undo.new.seat c.args.out.now.items c.tell_error.new.out.items c.in-Err.error fate c.in-Err.ensures told)
