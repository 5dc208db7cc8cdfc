-- The one row of replies is written.
use Rattle.std.proofs.Common.{List, ◌++◌, ap, refl, ◌∙◌}
use Rattle.erl_term.specs.Tree.{Trees, list}
use Rattle.process_effects.specs.declared.told.Reply.{Reply}
use Rattle.shell_answers.specs.Answers.{line_of, replies_in, rows_of}
use Rattle.worker_lines.proofs.Asked.{append-none}
use Rattle.worker_lines.proofs.asking.say_replies.Goals as goal

pub returns : goal.returns
returns c =
    let text = c.args.out.now.items in
    (refl, c.in_ok-write_replies.ensures ∙ ap (λ (rows : List (List Reply)). text ++ line_of (list (rows_of rows))) c.from_ref.ensures.value ∙ ap (λ (ts : Trees). text ++ line_of (list ts)) (append-none (replies_in c.args.replies.now)))
