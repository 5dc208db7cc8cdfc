-- Names in their order, which is that of atoms: by the code points of their characters, a proper prefix first.
use Rattle.std.specs.Prelude.{◌≡◌, ℕ, Bool, true, if◌then◌else◌, List, [], ◌∷◌}
use Rattle.std.specs.List.{AllByRecursion, insert, list_any, position_or_len}
use Rattle.std.specs.Ordering.{is_lt, nat_cmp}
use Rattle.std.specs.Cmp.Lexicographic.{slice_cmp}
use Rattle.std.specs.Str.{bytes_eq}

-- A name stands before another where its characters do, code point by code point.
abbrev pub stands_before : List ℕ → List ℕ → Bool
stands_before m n = is_lt (slice_cmp nat_cmp m n)

-- The names rise strictly: each stands before all that follow it, so that none stands twice.
abbrev pub ByName : List (List ℕ) → Type 0
ByName [] = Unit {0}
ByName (m ∷ names) = AllByRecursion (λ n. stands_before m n ≡ true) names × ByName names

-- Whether a name is one of these.
abbrev pub is_among : List ℕ → List (List ℕ) → Bool
is_among m names = list_any (bytes_eq m) names

-- The index of a name among names that rise: that of the first that stands behind it, and past all where none does.
abbrev pub index_among : List ℕ → List (List ℕ) → ℕ
index_among m names = position_or_len (stands_before m) names

-- The names with one more at its index, where it isn't one of them.
abbrev pub with_name : List ℕ → List (List ℕ) → List (List ℕ)
with_name m names = if is_among m names then names else insert names (index_among m names) m
