-- The word and the term of `{Word,Term}`.
use Rattle.std.specs.Prelude.{ℕ, List, Option, option_and_then, option_map}
use Rattle.erl_term.specs.Accessors.{atom_of, tuple_of, two_of}
use Rattle.erl_term.specs.Tree.{Tree}

abbrev pub word_in : Tree × Tree → Option (List ℕ × Tree)
word_in it = option_map (λ cs. (cs, it.1)) (atom_of it.0)

abbrev pub tagged : Tree → Option (List ℕ × Tree)
tagged t = option_and_then word_in (option_and_then two_of (tuple_of t))
