-- What is left to be written is the text of those that are left.
use Rattle.std.proofs.Common.{◌≡◌, ◌++◌, drop}
use Rattle.erl_term.specs.Text.{elements_text, utf8}
use Rattle.shell_answers.specs.Answers.{rows_of, listed}
use Rattle.shell_answers.proofs.replies.put_rows.Given as goal

abbrev pub invariant-loop-row : goal.invariant-loop-row
invariant-loop-row l =
    l.initial.out.items ++ utf8 (elements_text (rows_of l.rows)) ≡ l.out.items ++ utf8 (listed l.is_first (rows_of (drop l.row-index l.rows)))
