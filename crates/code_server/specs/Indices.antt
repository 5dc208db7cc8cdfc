-- What the functions that read and write at an index of the table say of it.
use Rattle.std.specs.Prelude.{ℕ, List, Option, None, Some, option_and_then, slice_get}
use Rattle.code_server.specs.declared.modules.Instance.{Instance}
use Rattle.code_server.specs.declared.modules.Slots.{Slots}
use Rattle.code_server.specs.declared.indices.SlotChange.{SlotChange}
use Rattle.code_server.specs.declared.indices.SlotChange.TheVariants.{Stack, Unstack, ReplaceOld}
use Rattle.code_server.specs.Modules.{Entry, noted}
use Rattle.release_words.specs.declared.purge.Purge.{Purge}

-- the current code of the module at an index
abbrev pub current_at : {C : Type 0} → List (Entry C) → ℕ → Option (Instance C)
current_at entries index = option_and_then (λ entry. entry.1.current) (slice_get entries index)

-- its old code
abbrev pub former_at : {C : Type 0} → List (Entry C) → ℕ → Option (Instance C)
former_at entries index = option_and_then (λ entry. entry.1.former) (slice_get entries index)

-- how that is purged later
abbrev pub post_at : {C : Type 0} → List (Entry C) → ℕ → Option Purge
post_at entries index = option_and_then (λ entry. entry.1.post) (slice_get entries index)

-- this old code alone, which is purged later so
abbrev pub old_alone : {C : Type 0} → Instance C → Option Purge → Slots C
old_alone instance post = record { current = None; former = Some instance; post = post }

-- a module's instances after a change, and the instance that went

abbrev pub changed_slots : {C : Type 0} → SlotChange C → Slots C → Slots C
changed_slots (Stack instance post) slots = record { current = instance; former = slots.current; post = noted post slots.current }
changed_slots (Unstack instance post) slots = record { current = slots.former; former = instance; post = post }
changed_slots (ReplaceOld instance post) slots = record { current = slots.current; former = instance; post = post }

abbrev pub gone_slot : {C : Type 0} → SlotChange C → Slots C → Option (Instance C)
gone_slot (Stack instance post) slots = slots.former
gone_slot (Unstack instance post) slots = slots.current
gone_slot (ReplaceOld instance post) slots = slots.former
