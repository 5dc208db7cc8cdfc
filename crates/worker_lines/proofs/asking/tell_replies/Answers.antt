-- What it came to was told.
use Rattle.std.proofs.Common.{◌++◌, ap, ◌∙◌}
use Rattle.erl_term.specs.Tree.{list}
use Rattle.shell_answers.specs.Answers.{line_of, replies_in}
use Rattle.node_history.specs.declared.command.Command.TheVariants as command
use Rattle.node_history.specs.declared.command.Said.TheVariants as said
use Rattle.shell_answers.specs.Refusals.{naming_nothing}
use Rattle.worker_lines.specs.Asking.{replies_told}
use Rattle.worker_lines.proofs.Heard.{IfOk-then, heard-told, unheard-told}
use Rattle.worker_lines.proofs.asking.tell_replies.Goals as goal

pub returns-in-Ok : goal.returns-in-Ok
returns-in-Ok g c =
    IfOk-then c.say_replies.result _ _ c.say_replies.ensures (λ fate told. heard-told (command.Replies 0) naming_nothing replies_told c.args.seat.now c.replies.new.seat c.args.out.now.items c.say_replies.new.out.items (said.Replied c.in-Ok.replies) fate c.in-Ok.ensures (told.0, told.1 ∙ ap (λ rs. c.args.out.now.items ++ line_of (list (replies_in rs))) c.get.ensures))

pub returns-in-Err : goal.returns-in-Err
returns-in-Err g c =
    IfOk-then c.tell_error.result _ _ c.tell_error.ensures (λ fate told. unheard-told (command.Replies 0) naming_nothing replies_told c.args.seat.now c.replies.new.seat c.args.out.now.items c.tell_error.new.out.items c.in-Err.error fate c.in-Err.ensures told)
