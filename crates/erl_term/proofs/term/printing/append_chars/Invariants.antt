-- What is written so far is the text of the characters so far.
use Rattle.std.proofs.Common.{◌≡◌, ◌++◌, take}
use Rattle.std.specs.List.{flat_map}
use Rattle.erl_term.specs.Term.{trees}
use Rattle.erl_term.specs.Text.{utf8, string_char}
use Rattle.erl_term.specs.Strings.{printable_chars}
use Rattle.erl_term.proofs.term.printing.append_chars.Given as goal

abbrev pub invariant-loop-term : goal.invariant-loop-term
invariant-loop-term l =
    l.out.items ≡ l.initial.out.items ++ utf8 (flat_map string_char (printable_chars (trees (take l.term-index l.terms))))
