-- What is kept by pid, as a list: at each pid what lives there, or nothing.
use Rattle.std.specs.Prelude.{ℕ, zero, suc, List, [], ◌∷◌, Option, None, Some, map, option_and_then, slice_get}
use Rattle.values.specs.Edits.{changed_at}

module _ {T : Type 0} where
  -- what lives at each of so many pids, from a pid on
  abbrev pub standing : (ℕ → Option T) → ℕ → ℕ → List (Option T)
  standing at from zero = []
  standing at from (suc count) = at from ∷ standing at (suc from) count

  -- what lives at a pid
  abbrev pub stands_at : List (Option T) → ℕ → Option T
  stands_at slots pid = option_and_then (λ it. it) (slice_get slots pid)

  -- what lives, with its pid, in order; the first of the slots is that of a pid
  abbrev pub alive_from : ℕ → List (Option T) → List (ℕ × T)
  alive_from pid [] = []
  alive_from pid (None ∷ slots) = alive_from (suc pid) slots
  alive_from pid (Some it ∷ slots) = (pid, it) ∷ alive_from (suc pid) slots

  abbrev pub alive : List (Option T) → List (ℕ × T)
  alive slots = alive_from 0 slots

  -- as many pids, and nothing lives at any
  abbrev pub vacant : List (Option T) → List (Option T)
  vacant slots = map (λ o. None) slots

  -- with this at a pid, and with nothing there

  abbrev pub put_at : ℕ → T → List (Option T) → List (Option T)
  put_at pid it slots = changed_at (λ o. Some it) slots pid

  abbrev pub taken_at : ℕ → List (Option T) → List (Option T)
  taken_at pid slots = changed_at (λ o. None) slots pid
