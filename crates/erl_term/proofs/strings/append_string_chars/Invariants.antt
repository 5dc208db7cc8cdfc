-- What is written so far is the text of the characters so far.
use Rattle.std.proofs.Common.{◌≡◌, ◌++◌}
use Rattle.std.specs.List.{flat_map}
use Rattle.erl_term.specs.Text.{utf8, string_char}
use Rattle.erl_term.proofs.strings.append_string_chars.Given as goal

abbrev pub invariant-loop-c : goal.invariant-loop-c
invariant-loop-c l = l.out.items ≡ l.initial.out.items ++ utf8 (flat_map string_char l.yielded)
