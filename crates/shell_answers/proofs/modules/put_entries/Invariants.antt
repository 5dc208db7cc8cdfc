-- What is left to be written is the text of those that are left.
use Rattle.std.proofs.Common.{◌≡◌, ◌++◌, drop, eqb}
use Rattle.erl_term.specs.Text.{elements_text, utf8}
use Rattle.shell_answers.specs.Answers.{modules_of, listed}
use Rattle.shell_answers.proofs.modules.put_entries.Given as goal

abbrev pub invariant-loop-index : goal.invariant-loop-index
invariant-loop-index l =
    l.initial.out.items ++ utf8 (elements_text (modules_of l.modules.entries)) ≡ l.out.items ++ utf8 (listed (eqb l.index 0) (modules_of (drop l.index l.modules.entries)))
