-- What is left to be written is the text of those that are left.
use Rattle.std.proofs.Common.{◌≡◌, ◌++◌, drop, eqb}
use Rattle.erl_term.specs.Text.{elements_text, utf8}
use Rattle.shell_answers.specs.Answers.{apps_of, listed}
use Rattle.shell_answers.proofs.apps.put_apps.Given as goal

abbrev pub invariant-loop-index : goal.invariant-loop-index
invariant-loop-index l =
    l.initial.out.items ++ utf8 (elements_text (apps_of l.apps)) ≡ l.out.items ++ utf8 (listed (eqb l.index 0) (apps_of (drop l.index l.apps)))
