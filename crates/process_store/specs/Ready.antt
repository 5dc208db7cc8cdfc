-- The pids of the processes that could take a message now, as a set of numbers.
use Rattle.std.specs.Prelude.{◌≡◌, ℕ, ◌+◌, ◌-◌, ◌<◌, ◌≤◌, Bool, false, List, ◌++◌, length, map, replicate, Option, None}
use Rattle.ready_set.specs.Flags.{is_in}
use Rattle.process_store.specs.declared.living.ProcessEntry.{ProcessEntry}
use Rattle.process_store.specs.Living.{is_runnable}
use Rattle.process_store.specs.Table.{Table, living_at}

-- those of a table: for each pid that was given, whether its process could take a message now
abbrev pub ready : Table → List Bool
ready t = map is_runnable t.slots

-- The pids above one have numbers in a set, in order, the first that of the next pid. The pids up to that one are not in it.
abbrev pub set_above : ℕ → List Bool → List Bool
set_above below flags = replicate (below + 1) false ++ flags

-- the number of a pid
abbrev pub number_above : ℕ → ℕ → ℕ
number_above below pid = pid - below - 1

-- the number of a pid tells whether its process could take a message now
abbrev pub IsMarked : List Bool → ℕ → List (Option ProcessEntry) → ℕ → Type 0
IsMarked flags below slots pid = is_in flags (number_above below pid) ≡ is_runnable (living_at slots pid)

-- Each pid above one, up to the last that was given, has its number, which tells whether its process could take a message now.
-- Nobody lives under that one or a pid below it.
pub record IsReady (flags : List Bool) (below : ℕ) (slots : List (Option ProcessEntry)) : Type 0 where
  pub capacity : below + 1 + length flags ≡ length slots
  pub nobody : (pid : ℕ) → pid ≤ below → living_at slots pid ≡ None
  pub marked : (pid : ℕ) → below < pid → IsMarked flags below slots pid

-- the same, but that the number of one pid may tell what is not so
pub record IsReadyBut (changed : ℕ) (flags : List Bool) (below : ℕ) (slots : List (Option ProcessEntry)) : Type 0 where
  pub capacity : below + 1 + length flags ≡ length slots
  pub nobody : (pid : ℕ) → pid ≤ below → living_at slots pid ≡ None
  pub others : (pid : ℕ) → below < pid → (pid ≡ changed → ⊥) → IsMarked flags below slots pid
