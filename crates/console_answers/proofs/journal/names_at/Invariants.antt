-- The names so far, and those that are left.
use Rattle.std.proofs.Common.{◌≡◌, ◌++◌, drop}
use Rattle.console_answers.specs.Journal.{names_at}
use Rattle.console_answers.proofs.journal.names_at.Given as goal

abbrev pub invariant-loop-named : goal.invariant-loop-named
invariant-loop-named l = l.names.items ++ names_at l.mark (drop l.named-index l.marks) ≡ names_at l.mark l.marks
