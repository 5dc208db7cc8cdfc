-- What is left to be written is the text of those that are left.
use Rattle.std.proofs.Common.{◌≡◌, ◌++◌, drop, eqb}
use Rattle.erl_term.specs.Conversions.{rows}
use Rattle.erl_term.specs.Text.{elements_text, utf8}
use Rattle.erl_term.specs.Tree.{atom}
use Rattle.shell_answers.specs.Answers.{listed}
use Rattle.shell_answers.proofs.scripts.put_names.Given as goal

abbrev pub invariant-loop-index : goal.invariant-loop-index
invariant-loop-index l =
    l.initial.out.items ++ utf8 (elements_text (rows atom l.names)) ≡ l.out.items ++ utf8 (listed (eqb l.index 0) (rows atom (drop l.index l.names)))
