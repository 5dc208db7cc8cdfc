-- Which numbers are in a set of numbers, by one flag for each.
use Rattle.std.specs.Prelude.{◌≡◌, ◌<◌, ◌≤◌, ℕ, Bool, true, false, List, length, get_or, Option, None, Some}

-- whether a number is in it; a number that is not there is not
abbrev pub is_in : List Bool → ℕ → Bool
is_in flags number = get_or flags number false

-- the least number in it from a given one on, or none where there is none
abbrev pub IsNext : ℕ → List Bool → Option ℕ → Type 0
IsNext from flags None = (number : ℕ) → from ≤ number → is_in flags number ≡ false
IsNext from flags (Some next) = (from ≤ next) × (next < length flags) × (is_in flags next ≡ true) ×
    ((number : ℕ) → from ≤ number → number < next → is_in flags number ≡ false)
