-- What takes a change of the code server's table back, and what makes it again.
use Rattle.std.specs.Prelude.{◌≡◌, ℕ, ◌+◌, ◌-◌, ◌<◌, ◌≤◌, List, [], ◌∷◌, ◌++◌, length, take, insert, remove, slice_get, Option, None, Some, option_and_then, option_map}
use Rattle.std.specs.Map.{lookup}
use Rattle.std.specs.Str.{bytes_eq}
use Rattle.code_server.specs.declared.modules.Instance.{Instance}
use Rattle.code_server.specs.declared.modules.Slots.{Slots}
use Rattle.code_server.specs.declared.undo.ModulesUndo.{ModulesUndo}
use Rattle.code_server.specs.declared.undo.ModulesUndo.TheVariants.{Nothing, Added, Stacked, Replaced, Moved, Retired, Demoted, Purged, Removed}
use Rattle.code_server.specs.declared.undo.Redo.{Redo}
use Rattle.code_server.specs.declared.undo.Redo.TheVariants.{Replace, Demote, Move, Purge, Remove}
use Rattle.code_server.specs.Modules.{Entry, Table, IsModuleTable, noted, with_slots}
use Rattle.code_server.specs.Indices.{former_at, old_alone, post_at}
use Rattle.release_words.specs.declared.purge.Purge as words

-- what was old is current again, and nothing is purged later
abbrev pub restored : {C : Type 0} → Slots C → Slots C
restored slots = record { current = slots.former; former = None; post = None }

-- a purged instance is old again, and is purged later as it was to be
abbrev pub unpurged : {C : Type 0} → Instance C → Option words.Purge → Slots C → Slots C
unpurged instance post slots = record { current = slots.current; former = Some instance; post = post }

-- what was old is current again, and a purged instance is old again, and is purged later as it was to be
abbrev pub swapped_back : {C : Type 0} → Instance C → Option words.Purge → Slots C → Slots C
swapped_back instance post slots = record { current = slots.former; former = Some instance; post = post }

-- the last entry is back at an index, with this old code and no other
abbrev pub moved_back : {C : Type 0} → ℕ → Instance C → Option words.Purge → Option (Entry C) → List (Entry C) → List (Entry C)
moved_back index instance post None others = others
moved_back index instance post (Some entry) others = insert others index (entry.0, old_alone instance post)

-- the table that an undo gives back
abbrev pub undone : {C : Type 0} → ModulesUndo C → Table C → Table C
undone Nothing t = t
undone Added t = record { entries = take (length t.entries - 1) t.entries; next = t.next - 1 }
undone (Stacked index) t = record { entries = with_slots restored t.entries index; next = t.next - 1 }
undone (Replaced index instance post) t = record {
  entries = with_slots (swapped_back instance post) t.entries index;
  next = t.next - 1;
}
undone (Moved index instance post) t = record {
  entries = moved_back index instance post (slice_get t.entries (length t.entries - 1)) (take (length t.entries - 1) t.entries);
  next = t.next - 1;
}
undone (Retired index) t = record { entries = with_slots restored t.entries index; next = t.next }
undone (Demoted index instance post) t = record {
  entries = with_slots (swapped_back instance post) t.entries index;
  next = t.next;
}
undone (Purged index instance post) t = record {
  entries = with_slots (unpurged instance post) t.entries index;
  next = t.next;
}
undone (Removed index name instance post) t = record {
  entries = insert t.entries index (name, old_alone instance post);
  next = t.next;
}

-- an undo's index is in the table, and what it puts back is not there yet
abbrev pub IsPlaced : {C : Type 0} → ModulesUndo C → Table C → Type 0
IsPlaced Nothing t = Unit {0}
IsPlaced Added t = 0 < length t.entries
IsPlaced (Stacked index) t = index < length t.entries
IsPlaced (Replaced index instance post) t = index < length t.entries
IsPlaced (Moved index instance post) t = index < length t.entries
IsPlaced (Retired index) t = index < length t.entries
IsPlaced (Demoted index instance post) t = index < length t.entries
IsPlaced (Purged index instance post) t = index < length t.entries
IsPlaced (Removed index name instance post) t = (index ≤ length t.entries) × (lookup (bytes_eq name) t.entries ≡ None)

-- what `revert` needs: the table is one that the undo's change led to
pub record Fits {C : Type 0} (undo : ModulesUndo C) (t : Table C) : Type 0 where
  pub placed : IsPlaced undo t
  pub sound : IsModuleTable (undone undo t)

-- The instance that an undo holds: the old code that its change has purged. All else that it holds are indices, a name, and how
-- that code was to be purged.
abbrev pub held : {C : Type 0} → ModulesUndo C → Option (Instance C)
held Nothing = None
held Added = None
held (Stacked index) = None
held (Replaced index instance post) = Some instance
held (Moved index instance post) = Some instance
held (Retired index) = None
held (Demoted index instance post) = Some instance
held (Purged index instance post) = Some instance
held (Removed index name instance post) = Some instance

-- the undo of a removal, the one that puts a module back into the table
abbrev pub IsRemoval : {C : Type 0} → ModulesUndo C → Type 0
IsRemoval Nothing = ⊥
IsRemoval Added = ⊥
IsRemoval (Stacked index) = ⊥
IsRemoval (Replaced index instance post) = ⊥
IsRemoval (Moved index instance post) = ⊥
IsRemoval (Retired index) = ⊥
IsRemoval (Demoted index instance post) = ⊥
IsRemoval (Purged index instance post) = ⊥
IsRemoval (Removed index name instance post) = Unit {0}

-- the undo of a change that has purged old code
abbrev pub HasPurged : {C : Type 0} → ModulesUndo C → Type 0
HasPurged Nothing = ⊥
HasPurged Added = ⊥
HasPurged (Stacked index) = ⊥
HasPurged (Replaced index instance post) = Unit {0}
HasPurged (Moved index instance post) = Unit {0}
HasPurged (Retired index) = ⊥
HasPurged (Demoted index instance post) = Unit {0}
HasPurged (Purged index instance post) = Unit {0}
HasPurged (Removed index name instance post) = Unit {0}

-- A change that has purged old code, made again once it was taken back.

-- this instance is current, what was current is old, and is purged later so, and what was old is gone
abbrev pub replaced : {C : Type 0} → Option (Instance C) → Option words.Purge → Slots C → Slots C
replaced instance post slots = record { current = instance; former = slots.current; post = noted post slots.current }

-- this instance is old, and is purged later so, and what was old is gone
abbrev pub with_old : {C : Type 0} → Option (Instance C) → Option words.Purge → Slots C → Slots C
with_old instance post slots = record { current = slots.current; former = instance; post = post }

-- an entry is behind the others, with these instances
abbrev pub moved_last : {C : Type 0} → Slots C → Option (Entry C) → List (Entry C) → List (Entry C)
moved_last slots None others = others
moved_last slots (Some entry) others = others ++ (entry.0, slots) ∷ []

-- the table that the change leads to
abbrev pub redone : {C : Type 0} → Redo C → Table C → Table C
redone (Replace index instance post) t = record {
  entries = with_slots (replaced instance post) t.entries index;
  next = t.next + 1;
}
redone (Demote index instance post) t = record { entries = with_slots (replaced instance post) t.entries index; next = t.next }
redone (Move index slots) t = record {
  entries = moved_last slots (slice_get t.entries index) (remove t.entries index);
  next = t.next + 1;
}
redone (Purge index instance post) t = record { entries = with_slots (with_old instance post) t.entries index; next = t.next }
redone (Remove index) t = record { entries = remove t.entries index; next = t.next }

-- the undo that the change hands out: with it is the old code that the module at the index has, which goes, and how that is
-- purged later
abbrev pub undo_of : {C : Type 0} → Redo C → Table C → Option (ModulesUndo C)
undo_of (Replace index instance post) t =
    option_map (λ former. Replaced index former (post_at t.entries index)) (former_at t.entries index)
undo_of (Demote index instance post) t =
    option_map (λ former. Demoted index former (post_at t.entries index)) (former_at t.entries index)
undo_of (Move index slots) t =
    option_map (λ former. Moved index former (post_at t.entries index)) (former_at t.entries index)
undo_of (Purge index instance post) t =
    option_map (λ former. Purged index former (post_at t.entries index)) (former_at t.entries index)
undo_of (Remove index) t = option_and_then (λ entry. option_map
    (λ former. Removed index entry.0 former entry.1.post) entry.1.former) (slice_get t.entries index)

-- what `redo` needs: made again over the table `before` the change leads to the sound table `after`, and hands out the
-- undo, which takes it back then
pub record Redoes {C : Type 0} (redo : Redo C) (undo : ModulesUndo C) (after before : Table C) : Type 0 where
  pub again : redone redo before ≡ after
  pub hands : undo_of redo before ≡ Some undo
  pub fits : Fits undo after
  pub back : undone undo after ≡ before
  pub sound : IsModuleTable after
