-- The bytes so far, and those of the characters that are left, are those of the whole.
use Rattle.std.proofs.Common.{◌≡◌, ◌++◌, drop, option_map}
use Rattle.std.specs.Prelude.{encode_utf8_all, string_bytes}
use Rattle.erl_term.specs.Accessors.{all_of, char_of}
use Rattle.erl_term.specs.Term.{trees}
use Rattle.erl_term.proofs.accessors.string.Given as goal

abbrev pub invariant-loop-term : goal.invariant-loop-term
invariant-loop-term l =
    option_map encode_utf8_all (all_of char_of (trees l.term-items)) ≡ option_map (λ r. string_bytes l.text ++ encode_utf8_all r) (all_of char_of (trees (drop l.term-index l.term-items)))
