-- What stands between tokens: blanks, and comments from `%` (37) to the end of the line, which a newline (10) ends.
use Rattle.std.specs.Prelude.{ℕ, ◌==◌, Bool, true, false, not, if◌then◌else◌, List, [], ◌∷◌}
use Rattle.erl_chars.specs.Chars.{is_blank}

-- what is left behind the blanks and comments in front, outside a comment or in one
abbrev pub past_gap : Bool → List ℕ → List ℕ
past_gap is_comment [] = []
past_gap false (c ∷ cs) = if is_blank c then past_gap false cs else (if c == 37 then past_gap true cs else c ∷ cs)
past_gap true (c ∷ cs) = past_gap (not (c == 10)) cs

abbrev pub after_gap : List ℕ → List ℕ
after_gap cs = past_gap false cs
