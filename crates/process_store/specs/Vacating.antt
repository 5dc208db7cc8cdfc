-- A process is taken out of the table, with its name and its open calls, and put back into its slot.
use Rattle.std.specs.Prelude.{◌≡◌, ℕ, ◌<◌, true, false, List, [], ◌∷◌, slice_get, Option, None, Some, IfSome}
use Rattle.std.specs.FinMap.{get}
use Rattle.values.specs.Edits.{changed_at}
use Rattle.process_index.specs.Calls.{has}
use Rattle.process_index.specs.Index.{Names, put}
use Rattle.process_index.specs.Numbers.{Owners}
use Rattle.process_index.specs.declared.calls.Call.{Call}
use Rattle.process_store.specs.declared.living.ProcessEntry.{ProcessEntry}
use Rattle.process_store.specs.Indexed.{HasPid}
use Rattle.process_store.specs.Table.{Table, has_number, is_open, pid_of}

-- the processes without the one of a pid, and with this one in its slot

abbrev pub vacated_slots : ℕ → List (Option ProcessEntry) → List (Option ProcessEntry)
vacated_slots pid slots = changed_at (λ o. None) slots pid

abbrev pub vacated : ℕ → Table → Table
vacated pid t = record { slots = vacated_slots pid t.slots }

abbrev pub occupied_slots : ℕ → ProcessEntry → List (Option ProcessEntry) → List (Option ProcessEntry)
occupied_slots pid l slots = changed_at (λ o. Some l) slots pid

abbrev pub occupied : ℕ → ProcessEntry → Table → Table
occupied pid l t = record { slots = occupied_slots pid l t.slots }

-- What a process needs to come back: the slot of its pid is empty, nobody has its name, and no call of the number of one of
-- its own is open. No two calls of its own have one number.

abbrev pub IsVacant : ℕ → Table → Type 0
IsVacant pid t = (0 < pid) × (slice_get t.slots pid ≡ Some None)

abbrev pub HasFreeName : ProcessEntry → Table → Type 0
HasFreeName l t = IfSome l.process.name (λ name. pid_of name t ≡ None)

abbrev pub AreOfOwnNumbers : List Call → Type 0
AreOfOwnNumbers calls =
    (c d : Call) → has c calls ≡ true → has d calls ≡ true → c.number ≡ d.number → c.client ≡ d.client

abbrev pub HasFreeCalls : ProcessEntry → Table → Type 0
HasFreeCalls l t = ((c : Call) → has c l.calls ≡ true → is_open c.number t ≡ false) × AreOfOwnNumbers l.calls

abbrev pub CanReturn : ℕ → ProcessEntry → Table → Type 0
CanReturn pid l t = IsVacant pid t × HasFreeName l t × HasFreeCalls l t × HasPid pid l

-- the index of open calls without these, and with these of one process

abbrev pub all_answered : List Call → Owners → Owners
all_answered [] owners = owners
all_answered (c ∷ cs) owners = all_answered cs (put c.number None owners)

abbrev pub all_asked : ℕ → List Call → Owners → Owners
all_asked pid [] owners = owners
all_asked pid (c ∷ cs) owners = all_asked pid cs (put c.number (Some (record { pid = pid; client = c.client })) owners)

-- the indexes have nothing under a name, if it is one, and under the numbers of calls

abbrev pub IsFreeName : Option (List ℕ) → Names → Type 0
IsFreeName name names = IfSome name (λ n. get names n ≡ None)

abbrev pub AreFreeNumbers : List Call → Owners → Type 0
AreFreeNumbers calls owners = (number : ℕ) → has_number number calls ≡ true → get owners number ≡ None

-- the indexes have the same under every other number
abbrev pub IsSameElsewhere : List Call → Owners → Owners → Type 0
IsSameElsewhere calls before after =
    (number : ℕ) → has_number number calls ≡ false → get after number ≡ get before number
