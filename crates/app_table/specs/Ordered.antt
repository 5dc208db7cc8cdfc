-- The children of a supervisor in an order of their own: by the Id, or by the pid.
use Rattle.std.specs.Prelude.{◌≡◌, ℕ, false, true, List, [], ◌∷◌, Option, None, Some, All, IsPermutation, length, option_and_then, option_map, slice_get}
use Rattle.std.specs.List.{range_with_len}
use Rattle.std.specs.List.Sorted.{IsPartitionPoint}
use Rattle.std.specs.Option.{option_cmp}
use Rattle.std.specs.Ordering.{is_lt, nat_cmp, on, ordering_then}
use Rattle.std.specs.declared.cmp.Ordering.{Ordering}
use Rattle.erl_term.specs.Order.{tree_cmp}
use Rattle.erl_term.specs.Term.{tree}
use Rattle.erl_term.specs.declared.term.Term.{Term}
use Rattle.app_table.specs.declared.child.Child.{Child}
use Rattle.app_table.specs.declared.child.ChildState.{ChildState}
use Rattle.app_table.specs.declared.child.ChildState.TheVariants.{Running, Due, Stopped}

-- the Id of the child at an index, counted from 0
abbrev pub id_at : List Child → ℕ → Option Term
id_at row index = option_map (λ c. c.spec.id) (slice_get row index)

-- the pid that it runs as, where it runs

abbrev pub pid_in : ChildState → Option ℕ
pid_in (Running its) = Some its
pid_in Due = None
pid_in Stopped = None

abbrev pub pid_at : List Child → ℕ → Option ℕ
pid_at row index = option_and_then (λ c. pid_in c.state) (slice_get row index)

-- Indices by the order of their keys: of equal keys the lower index stands first.

abbrev pub by_key : {K : Type 0} → (K → K → Ordering) → (ℕ → K) → ℕ → ℕ → Ordering
by_key order key a b = ordering_then (order (key a) (key b)) (nat_cmp a b)

-- where no child runs stands before where one does
abbrev pub by_pid : List Child → ℕ → ℕ → Ordering
by_pid row = by_key (option_cmp nat_cmp) (pid_at row)

-- Ids in the order of terms
abbrev pub by_id : List Child → ℕ → ℕ → Ordering
by_id row = by_key (option_cmp (on tree tree_cmp)) (id_at row)

-- each index stands before all that follow it
abbrev pub Rises : (ℕ → ℕ → Ordering) → List ℕ → Type 0
Rises order [] = Unit {0}
Rises order (a ∷ indices) = All (λ b. is_lt (order a b) ≡ true) indices × Rises order indices

-- the indices from 0 up to a number, each once, in this order
pub record IsOrderOf (order : ℕ → ℕ → Ordering) (count : ℕ) (indices : List ℕ) : Type 0 where
  pub once : IsPermutation (range_with_len 0 count) indices
  pub rises : Rises order indices

-- an index belongs behind so many of these: they stand before it, and the others don't
abbrev pub BelongsAt : (ℕ → ℕ → Ordering) → List ℕ → ℕ → ℕ → Type 0
BelongsAt order indices index count =
    IsPartitionPoint (λ each. is_lt (order each index) ≡ true) (λ each. is_lt (order each index) ≡ false) indices count

-- all children by the Id and by the pid
pub record AreOrdersOf (row : List Child) (ids pids : List ℕ) : Type 0 where
  pub of_ids : IsOrderOf (by_id row) (length row) ids
  pub of_pids : IsOrderOf (by_pid row) (length row) pids
