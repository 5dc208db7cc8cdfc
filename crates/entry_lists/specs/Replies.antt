-- Replies in entries, and whom they are for.
use Rattle.std.specs.Prelude.{ℕ, nat_eq, List, filter, map}
use Rattle.std.specs.List.{flat_map}
use Rattle.entry_lists.specs.declared.entries.Run.{Run}

-- the replies to a client, of all entries, in order
abbrev pub replies_to : {E R : Type 0} → (E → List R) → (R → ℕ) → ℕ → List E → List R
replies_to replies_of client_of client entries = filter (λ r. nat_eq (client_of r) client) (flat_map replies_of entries)

-- the replies of each run's entry
abbrev pub replies_by_run : {E R : Type 0} → (E → List R) → List (Run E) → List (List R)
replies_by_run replies_of runs = map (λ run. replies_of run.entry) runs
