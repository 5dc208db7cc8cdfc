-- What holds of every table of processes.
use Rattle.std.specs.Prelude.{◌≡◌, ℕ, true, List, slice_get, None, Some, IfSome}
use Rattle.process_index.specs.Calls.{AreInOrder}
use Rattle.process_index.specs.declared.calls.Call.{Call}
use Rattle.process_store.specs.Indexed.{HasPid, is_asked_by}
use Rattle.process_store.specs.Table.{Table, is_named, living}

-- A process stands under its own pid; a name is one process's, and a number the one of one open call of one process; the open
-- calls of a process are in order of client and number; nobody has pid 0.
pub record IsProcessTable (t : Table) : Type 0 where
  pub owned : (pid : ℕ) → IfSome (living pid t) (HasPid pid)
  pub named : (name : List ℕ) (pid other : ℕ) →
      is_named name (living pid t) ≡ true → is_named name (living other t) ≡ true → pid ≡ other
  pub asked : (c d : Call) (pid other : ℕ) →
      is_asked_by c (living pid t) ≡ true → is_asked_by d (living other t) ≡ true → c.number ≡ d.number →
      (pid ≡ other) × (c.client ≡ d.client)
  pub ordered : (pid : ℕ) → IfSome (living pid t) (λ l. AreInOrder l.calls)
  pub nobody : slice_get t.slots 0 ≡ Some None
