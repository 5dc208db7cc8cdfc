-- The text of those so far.
use Rattle.std.proofs.Common.{◌≡◌, ◌++◌, take}
use Rattle.console_answers.specs.Rows.{others_text}
use Rattle.console_answers.proofs.rows.put_others.Given as goal

abbrev pub invariant-loop-row : goal.invariant-loop-row
invariant-loop-row l = l.out.items ≡ l.fn.out.items ++ others_text (take l.row-index l.rows)
