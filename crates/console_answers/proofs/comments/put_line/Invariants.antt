-- What is left is what was so far, without the newlines.
use Rattle.std.proofs.Common.{◌≡◌, ◌++◌, drop, filter}
use Rattle.console_answers.specs.Comments.{is_no_newline}
use Rattle.console_answers.proofs.comments.put_line.Given as goal

abbrev pub invariant-loop-byte : goal.invariant-loop-byte
invariant-loop-byte l = l.out.items ++ filter is_no_newline (drop l.byte-index l.text) ≡ l.fn.out.items ++ filter is_no_newline l.text
