-- The code server's table: a module has one or two instances of code, the current one and the old one
-- (Erlang Reference Manual, Compilation and Code Loading, Code Replacement; code(3)).
use Rattle.std.specs.Prelude.{◌≡◌, ℕ, ◌+◌, ◌^◌, ◌<◌, ◌≤◌, ◌==◌, Bool, ◌&&◌, ◌||◌, if◌then◌else◌, IsTrue, List, [], ◌∷◌, ◌++◌}
use Rattle.std.specs.Prelude.{All, remove, position, Option, None, Some, is_some, option_and_then}
use Rattle.std.specs.List.{IsDistinct, sum_by}
use Rattle.std.specs.Map.{keys_of, lookup}
use Rattle.std.specs.Str.{bytes_eq}
use Rattle.values.specs.Edits.{changed_at}
use Rattle.code_server.specs.declared.modules.Instance.{Instance}
use Rattle.code_server.specs.declared.modules.Slots.{Slots}
use Rattle.code_server.specs.declared.error.CodeError.{CodeError}
use Rattle.code_server.specs.declared.error.CodeError.TheVariants.{NotLoaded, NotPurged, OldInUse, CounterEnd}
use Rattle.release_words.specs.declared.purge.Purge.{Purge}

-- A module as the table has it: its name, and its instances. A name is the list of its characters.
abbrev pub Entry : Type 0 → Type 0
Entry C = List ℕ × Slots C

-- The modules, first loaded first, and the serial that the next load gives.
pub record Table (C : Type 0) : Type 0 where
  pub entries : List (Entry C)
  pub next : ℕ

-- no module, and the first serial to be given is 1
abbrev pub empty_table : {C : Type 0} → Table C
empty_table = record { entries = []; next = 1 }

-- no module, and the serials go on: a node that restarts gives none a second time
abbrev pub emptied : {C : Type 0} → Table C → Table C
emptied t = record { entries = []; next = t.next }

-- the instances of a module, where it is in the table
abbrev pub slots_of : {C : Type 0} → List ℕ → Table C → Option (Slots C)
slots_of name t = lookup (bytes_eq name) t.entries

-- its current code
abbrev pub current_of : {C : Type 0} → List ℕ → Table C → Option (Instance C)
current_of name t = option_and_then (λ slots. slots.current) (slots_of name t)

-- its old code
abbrev pub old_of : {C : Type 0} → List ℕ → Table C → Option (Instance C)
old_of name t = option_and_then (λ slots. slots.former) (slots_of name t)

-- how its old code is purged later, if a script has left it (appup(4), PostPurge)
abbrev pub post_of : {C : Type 0} → List ℕ → Table C → Option Purge
post_of name t = option_and_then (λ slots. slots.post) (slots_of name t)

-- where it stands
abbrev pub index_of : {C : Type 0} → List ℕ → List (Entry C) → Option ℕ
index_of name entries = position (bytes_eq name) (keys_of entries)

-- the entries with a module's instances changed
abbrev pub with_slots : {C : Type 0} → (Slots C → Slots C) → List (Entry C) → ℕ → List (Entry C)
with_slots f entries index = changed_at (λ entry. (entry.0, f entry.1)) entries index

-- Load: the new code becomes current under the next serial, and what was current becomes old. A module
-- that is not in the table goes last. Where there is old code it has to be purged first.

abbrev pub load_refusal : {C : Type 0} → List ℕ → Table C → Option CodeError
load_refusal name t =
    if is_some (old_of name t) then Some NotPurged else (if t.next == 2 ^ 64 then Some CounterEnd else None)

-- How code that is no longer current is purged later: as PostPurge says, if there is such code.
abbrev pub noted : {C : Type 0} → Option Purge → Option (Instance C) → Option Purge
noted post current = option_and_then (λ _. post) current

-- the instances of a module that has this one alone
abbrev pub new_slots : {C : Type 0} → Instance C → Slots C
new_slots instance = record { current = Some instance; former = None; post = None }

-- the instances with a new one on top: what was current is old, and is purged later as PostPurge says
abbrev pub stacked : {C : Type 0} → Option Purge → Instance C → Slots C → Slots C
stacked post instance slots = record { current = Some instance; former = slots.current; post = noted post slots.current }

abbrev pub loaded_at : {C : Type 0} → Option ℕ → List ℕ → Option Purge → Instance C → List (Entry C) → List (Entry C)
loaded_at None name post instance entries = entries ++ (name, new_slots instance) ∷ []
loaded_at (Some index) name post instance entries = with_slots (stacked post instance) entries index

abbrev pub loaded : {C : Type 0} → List ℕ → C → Option Purge → Table C → Table C
loaded name code post t = record {
  entries = loaded_at (index_of name t.entries) name post (record { serial = t.next; code = code }) t.entries;
  next = t.next + 1;
}

-- Delete: the current code becomes old. A module without current code is not loaded; old code has to be
-- purged first.

abbrev pub delete_refusal : {C : Type 0} → List ℕ → Table C → Option CodeError
delete_refusal name t =
    if is_some (current_of name t) then (if is_some (old_of name t) then Some NotPurged else None) else Some NotLoaded

abbrev pub retired : {C : Type 0} → Option Purge → Slots C → Slots C
retired post slots = record { current = None; former = slots.current; post = noted post slots.current }

abbrev pub deleted_at : {C : Type 0} → Option ℕ → Option Purge → List (Entry C) → List (Entry C)
deleted_at None post entries = entries
deleted_at (Some index) post entries = with_slots (retired post) entries index

abbrev pub deleted : {C : Type 0} → List ℕ → Option Purge → Table C → Table C
deleted name post t = record { entries = deleted_at (index_of name t.entries) post t.entries; next = t.next }

-- Purge: the old code is gone, if there is any, and so is how it is purged later. A module that is left without code leaves the
-- table.

abbrev pub purged_slots : {C : Type 0} → Slots C → Slots C
purged_slots slots = record { current = slots.current; former = None; post = None }

abbrev pub purged_at : {C : Type 0} → Option ℕ → Bool → List (Entry C) → List (Entry C)
purged_at None has_current entries = entries
purged_at (Some index) has_current entries =
    if has_current then with_slots purged_slots entries index else remove entries index

abbrev pub purged : {C : Type 0} → List ℕ → Table C → Table C
purged name t = record {
  entries = purged_at (index_of name t.entries) (is_some (current_of name t)) t.entries;
  next = t.next;
}

-- Remove: a purge, and then a delete where there is current code. A module that has old code alone leaves the table.
abbrev pub removed : {C : Type 0} → List ℕ → Option Purge → Table C → Table C
removed name post t = deleted name post (purged name t)

-- Soft purge: a purge that is refused where there is old code and somebody uses it.
abbrev pub soft_purge_refusal : {C : Type 0} → List ℕ → Bool → Table C → Option CodeError
soft_purge_refusal name in_use t = if is_some (old_of name t) && in_use then Some OldInUse else None

-- What holds of every table.

-- a module has an instance (and no more than two, by its type)
abbrev pub HasCode : {C : Type 0} → Entry C → Type 0
HasCode entry = IsTrue (is_some entry.1.current || is_some entry.1.former)

-- only old code is purged later
abbrev pub NotesOldCode : {C : Type 0} → Entry C → Type 0
NotesOldCode entry = entry.1.former ≡ None → entry.1.post ≡ None

-- an instance's serial was given by a load
abbrev pub IsGiven : {C : Type 0} → ℕ → Option (Instance C) → Type 0
IsGiven next None = Unit {0}
IsGiven next (Some instance) = (1 ≤ instance.serial) × (instance.serial < next)

-- how often a serial stands in a slot, in an entry and in the table

abbrev pub in_slot : {C : Type 0} → ℕ → Option (Instance C) → ℕ
in_slot serial None = 0
in_slot serial (Some instance) = if instance.serial == serial then 1 else 0

abbrev pub in_entry : {C : Type 0} → ℕ → Entry C → ℕ
in_entry serial entry = in_slot serial entry.1.current + in_slot serial entry.1.former

abbrev pub in_entries : {C : Type 0} → ℕ → List (Entry C) → ℕ
in_entries serial entries = sum_by (in_entry serial) entries

-- Modules differ in name, and each has code; nothing is purged later where there is no old code; the instances' serials were
-- given by loads, and no two instances have one serial; the next serial is one that a load can give, or one past the last.
pub record IsModuleTable {C : Type 0} (t : Table C) : Type 0 where
  pub distinct : IsDistinct bytes_eq (keys_of t.entries)
  pub with_code : All HasCode t.entries
  pub notes : All NotesOldCode t.entries
  pub given : All (λ entry. IsGiven t.next entry.1.current × IsGiven t.next entry.1.former) t.entries
  pub once : (serial : ℕ) → in_entries serial t.entries ≤ 1
  pub counted : (1 ≤ t.next) × (t.next ≤ 2 ^ 64)
