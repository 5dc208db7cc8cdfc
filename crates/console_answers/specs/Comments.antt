-- Lines of comments: who reads the answers of the console as terms skips them.
use Rattle.std.specs.Prelude.{◌≡◌, ℕ, ◌==◌, codes, not, Bool, List, [], ◌∷◌, ◌++◌, filter, flat_map}

abbrev pub is_no_newline : ℕ → Bool
is_no_newline b = not (b == 10)

-- a text as a line of comment: what it has beside newlines (10)
abbrev pub comment : List ℕ → List ℕ
comment text = codes "% " ++ (filter is_no_newline text ++ 10 ∷ [])

-- Comments, and nothing else, were appended.
pub record AddsComments (before after : List ℕ) : Type 0 where
  pub texts : List (List ℕ)
  pub appended : after ≡ before ++ flat_map comment texts
