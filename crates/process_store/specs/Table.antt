-- The processes of a node, by pid (Erlang Reference Manual, Processes; gen_server behaviour), and what holds of them.
use Rattle.std.specs.Prelude.{ℕ, ◌-◌, ◌==◌, Bool, true, false, if◌then◌else◌, List, [], ◌∷◌, ◌++◌, take}
use Rattle.std.specs.Prelude.{length, position, slice_get, Option, None, Some, is_some, option_map, option_and_then}
use Rattle.erl_semantics.specs.declared.acts.Place.{Place}
use Rattle.erl_semantics.specs.declared.instance.Instance.{Instance}
use Rattle.process.specs.Process.{started}
use Rattle.std.specs.Str.{bytes_eq}
use Rattle.values.specs.Edits.{changed_at}
use Rattle.process_index.specs.Standing.{vacant}
use Rattle.process_index.specs.declared.calls.Call.{Call}
use Rattle.process_store.specs.declared.living.ProcessEntry.{ProcessEntry}

-- The processes by pid: the one of each pid that was given, and none where it has ended. Nobody has pid 0, which stands for
-- clients outside.
pub record Table : Type 0 where
  pub slots : List (Option ProcessEntry)

abbrev pub empty_table : Table
empty_table = record { slots = None ∷ [] }

-- nobody lives, and the pids go on: a node that restarts gives none a second time
abbrev pub emptied : Table → Table
emptied t = record { slots = vacant t.slots }

-- the pid that the next process gets
abbrev pub next_pid : Table → ℕ
next_pid t = length t.slots

-- the process of a pid, where it lives

abbrev pub living_at : List (Option ProcessEntry) → ℕ → Option ProcessEntry
living_at slots pid = option_and_then (λ l. l) (slice_get slots pid)

abbrev pub living : ℕ → Table → Option ProcessEntry
living pid t = living_at t.slots pid

-- the processes with the one of a pid changed, where it lives

abbrev pub changed_slots : (ProcessEntry → ProcessEntry) → ℕ → List (Option ProcessEntry) → List (Option ProcessEntry)
changed_slots f pid slots = changed_at (option_map f) slots pid

abbrev pub changed : (ProcessEntry → ProcessEntry) → ℕ → Table → Table
changed f pid t = record { slots = changed_slots f pid t.slots }

-- the process that is registered under a name

abbrev pub is_name : List ℕ → Option (List ℕ) → Bool
is_name name None = false
is_name name (Some n) = bytes_eq n name

abbrev pub is_named : List ℕ → Option ProcessEntry → Bool
is_named name None = false
is_named name (Some l) = is_name name l.process.name

abbrev pub pid_of : List ℕ → Table → Option ℕ
pid_of name t = position (is_named name) t.slots

-- whether a name, if it is one, is registered
abbrev pub is_taken : Option (List ℕ) → Table → Bool
is_taken None t = false
is_taken (Some name) t = is_some (pid_of name t)

-- with one more process, which rests at a place under the next pid; and without the last
abbrev pub added : Option (List ℕ) → Place → Option Instance → Table → Table
added name at rests t = record {
  slots = t.slots ++ Some (record { process = started (next_pid t) name at rests; calls = [] }) ∷ [];
}

abbrev pub without_last : Table → Table
without_last t = record { slots = take (length t.slots - 1) t.slots }

-- whether a call of a number is open, whoever asked whom

abbrev pub has_number : ℕ → List Call → Bool
has_number number [] = false
has_number number (c ∷ cs) = if c.number == number then true else has_number number cs

abbrev pub is_asked : ℕ → Option ProcessEntry → Bool
is_asked number None = false
is_asked number (Some l) = has_number number l.calls

abbrev pub is_open : ℕ → Table → Bool
is_open number t = is_some (position (is_asked number) t.slots)
