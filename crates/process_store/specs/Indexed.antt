-- How the table finds processes by key: words of its own type alone.
use Rattle.std.specs.Prelude.{◌≡◌, ℕ, ◌==◌, Bool, false, ◌&&◌, List, slice_get, Option, None, Some, IfSome}
use Rattle.std.specs.FinMap.{get}
use Rattle.process_index.specs.Calls.{AreInOrder, has}
use Rattle.process_index.specs.Index.{Names, put}
use Rattle.process_index.specs.Numbers.{Owners}
use Rattle.process_index.specs.declared.calls.Call.{Call}
use Rattle.process_index.specs.declared.numbers.Owner.{Owner}
use Rattle.process_store.specs.declared.living.ProcessEntry.{ProcessEntry}
use Rattle.process_store.specs.Table.{is_named, living_at}

abbrev pub is_pid : ℕ → Option ℕ → Bool
is_pid pid None = false
is_pid pid (Some p) = p == pid

abbrev pub is_owner : ℕ → ℕ → Option Owner → Bool
is_owner pid client None = false
is_owner pid client (Some o) = o.pid == pid && o.client == client

abbrev pub is_asked_by : Call → Option ProcessEntry → Bool
is_asked_by c None = false
is_asked_by c (Some l) = has c l.calls

-- a process stands under its own pid
abbrev pub HasPid : ℕ → ProcessEntry → Type 0
HasPid pid l = l.process.pid ≡ pid

-- Who has a name, and to whom the call of a number is open; a process stands under its own pid, and its calls are in order
-- of client and number; nobody has pid 0.
pub record IsIndexed (names : Names) (open_calls : Owners) (slots : List (Option ProcessEntry)) : Type 0 where
  pub named : (name : List ℕ) (pid : ℕ) → is_pid pid (get names name) ≡ is_named name (living_at slots pid)
  pub asked : (number client pid : ℕ) →
      is_owner pid client (get open_calls number) ≡ is_asked_by (record { client = client; number = number })
      (living_at slots pid)
  pub ordered : (pid : ℕ) → IfSome (living_at slots pid) (λ l. AreInOrder l.calls)
  pub owned : (pid : ℕ) → IfSome (living_at slots pid) (HasPid pid)
  pub nobody : slice_get slots 0 ≡ Some None

-- the names with one more, if it is one, and with one less

abbrev pub registered : Option (List ℕ) → ℕ → Names → Names
registered None pid names = names
registered (Some name) pid names = put name (Some pid) names

abbrev pub unregistered : Option (List ℕ) → Names → Names
unregistered None names = names
unregistered (Some name) names = put name None names

-- the open calls with one more, if it is one, and with one less

abbrev pub asked_of : ℕ → Option Call → Owners → Owners
asked_of pid None calls = calls
asked_of pid (Some c) calls = put c.number (Some (record { pid = pid; client = c.client })) calls

abbrev pub answered : Option Call → Owners → Owners
answered None calls = calls
answered (Some c) calls = put c.number None calls
