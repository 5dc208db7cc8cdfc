-- What is left to be written is the text of those that are left.
use Rattle.std.proofs.Common.{◌≡◌, ◌++◌, drop, eqb, map}
use Rattle.erl_term.specs.Conversions.{rows}
use Rattle.erl_term.specs.Text.{elements_text, utf8}
use Rattle.release_words.specs.Words.{string_tree}
use Rattle.shell_answers.specs.Answers.{characters, listed}
use Rattle.shell_answers.proofs.releases.put_strings.Given as goal

abbrev pub invariant-loop-index : goal.invariant-loop-index
invariant-loop-index l =
    l.initial.out.items ++ utf8 (elements_text (rows string_tree (map characters l.texts))) ≡ l.out.items ++ utf8 (listed (eqb l.index 0) (rows string_tree (map characters (drop l.index l.texts))))
