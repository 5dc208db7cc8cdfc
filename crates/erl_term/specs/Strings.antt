-- Words for the steps of printing, which no public clause cites: the characters of a list that is a string, one by one,
-- and what all words that get quotes are like.
use Rattle.std.specs.Prelude.{ℕ, nat_le, ◌&&◌, Bool, true, false, length, List, [], ◌∷◌, ◌++◌, Option, Some, None, option_to_list}
use Rattle.erl_term.specs.Tree.{Trees, none, more}
use Rattle.std.specs.List.{list_all}
use Rattle.erl_term.specs.Text.{printable_char, is_lower}

-- the characters of those integers of a row that have one
abbrev pub printable_chars : Trees → List ℕ
printable_chars none = []
printable_chars (more t ts) = option_to_list (printable_char t) ++ printable_chars ts

-- whether a row that may have characters has some
abbrev pub has_chars : Option (List ℕ) → Bool
has_chars None = false
has_chars (Some []) = false
has_chars (Some (c ∷ cs)) = true

-- whether a text is as short as the words that get quotes, and of lower-case letters alone
abbrev pub is_like_word : List ℕ → Bool
is_like_word bs = nat_le (length bs) 7 && list_all is_lower bs

-- whether a character is printable: from 32 to 126
abbrev pub is_printable : ℕ → Bool
is_printable c = nat_le 32 c && nat_le c 126

-- whether there are characters, and all are printable
abbrev pub prints_as_string : List ℕ → Bool
prints_as_string [] = false
prints_as_string (c ∷ cs) = list_all is_printable (c ∷ cs)

-- what stands before an element: a comma, unless it is the first
abbrev pub comma : Bool → List ℕ
comma true = []
comma false = 44 ∷ []
