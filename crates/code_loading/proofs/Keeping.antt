-- Instances that stand in the table of modules still do once a module is loaded, deleted or purged, but for what is purged.
use Rattle.std.proofs.Common.{◌≡◌, ℕ, Bool, true, false, List, [], ◌∷◌, ◌++◌, is_some, slice_get, remove, Option, None, Some, option_and_then, refl, sym, ap, subst, ◌∙◌}
use Rattle.std.proofs.lemmas.Bool.{true≢false}
use Rattle.std.proofs.lemmas.Option.{none-some, same_Some}
use Rattle.std.specs.Map.{lookup}
use Rattle.std.specs.Str.{bytes_eq}
use Rattle.erl_semantics.specs.State.{Instance}
use Rattle.erl_ir.specs.Module.{Forms}
use Rattle.code_server.proofs.Changes.{IsDeletable-unrefused, current_of-slots, old_of-slots, purged-absent, purged-gone, purged-kept}
use Rattle.code_server.proofs.Standing.{Stands, Stands-index}
use Rattle.code_server.specs.Modules.{Entry, Table as Loaded, current_of, delete_refusal, deleted, deleted_at, loaded, loaded_at, new_slots, old_of, index_of, purged, purged_slots, retired, slots_of, stacked, with_slots}
use Rattle.code_server.specs.declared.modules.Instance as held
use Rattle.code_server.specs.declared.modules.Slots.{Slots}
use Rattle.process.specs.JobCode.{instance_of}
use Rattle.process.specs.Named.{StandsIn, as_current, as_old}
use Rattle.release_words.specs.declared.purge.Purge.{Purge}
use Rattle.code_loading.proofs.Lookups.{IsFound, elsewhere, there, IsLeft, stays, goes, found_changed, found_in_front, found_left}

-- What stands is in the slots of its name.

slots_by : (o : Option (Slots Forms)) (h : Slots Forms → Option (held.Instance Forms)) (i : held.Instance Forms) → option_and_then h o ≡ Some i → (s : Slots Forms) × (o ≡ Some s) × (h s ≡ Some i)
slots_by None h i is = absurd (none-some i is)
slots_by (Some s) h i is = (s, refl, is)

as_slots_current : (t : Loaded Forms) (name : List ℕ) (s : Slots Forms) (i : held.Instance Forms) → slots_of name t ≡ Some s → s.current ≡ Some i → StandsIn t (instance_of name i)
as_slots_current t name s i found is = as_current (ap (λ o. option_and_then (λ x. x.current) o) found ∙ is)

as_slots_old : (t : Loaded Forms) (name : List ℕ) (s : Slots Forms) (i : held.Instance Forms) → slots_of name t ≡ Some s → s.former ≡ Some i → StandsIn t (instance_of name i)
as_slots_old t name s i found is = as_old (ap (λ o. option_and_then (λ x. x.former) o) found ∙ is)

-- The entry at an index is that of the name that stands there.

old_there : (name : List ℕ) (t : Loaded Forms) (index : ℕ) (at : Stands name t.entries index) (e : Entry Forms) (i : held.Instance Forms) → slice_get t.entries index ≡ Some e → e.1.former ≡ Some i → old_of name t ≡ Some i
old_there name t index at e i here is =
    let same : e ≡ (name, at.slots) = same_Some e (name, at.slots) (sym here ∙ at.entry) in
    old_of-slots name t index at ∙ sym (ap (λ x. x.1.former) same) ∙ is

current_there : (name : List ℕ) (t : Loaded Forms) (index : ℕ) (at : Stands name t.entries index) (e : Entry Forms) (i : held.Instance Forms) → slice_get t.entries index ≡ Some e → e.1.current ≡ Some i → current_of name t ≡ Some i
current_there name t index at e i here is =
    let same : e ≡ (name, at.slots) = same_Some e (name, at.slots) (sym here ∙ at.entry) in
    current_of-slots name t index at ∙ sym (ap (λ x. x.1.current) same) ∙ is

-- It is purged: what is not its old code stands.

abbrev pub Spared : List ℕ → Loaded Forms → Instance → Type 0
Spared name t x = (i : held.Instance Forms) → old_of name t ≡ Some i → x.serial ≡ i.serial → ⊥

module _ (name : List ℕ) (t : Loaded Forms) (index : ℕ) (at : Stands name t.entries index) where
  -- and has current code, which stays

  current_kept : (n : List ℕ) (s : Slots Forms) (i : held.Instance Forms) → slots_of n t ≡ Some s → s.current ≡ Some i → IsFound (bytes_eq n) t.entries index (lookup (bytes_eq n) (with_slots purged_slots t.entries index)) (λ v. Some (purged_slots v)) → StandsIn (record { entries = with_slots purged_slots t.entries index; next = t.next }) (instance_of n i)
  current_kept n s i found is (elsewhere same) =
      as_slots_current (record { entries = with_slots purged_slots t.entries index; next = t.next }) n s i (same ∙ found) is
  current_kept n s i found is (there e here was now) =
      as_slots_current (record { entries = with_slots purged_slots t.entries index; next = t.next }) n (purged_slots e.1) i now (ap (λ x. x.current) (same_Some e.1 s (sym was ∙ found)) ∙ is)

  old_kept : (n : List ℕ) (s : Slots Forms) (i : held.Instance Forms) → slots_of n t ≡ Some s → s.former ≡ Some i → Spared name t (instance_of n i) → IsFound (bytes_eq n) t.entries index (lookup (bytes_eq n) (with_slots purged_slots t.entries index)) (λ v. Some (purged_slots v)) → StandsIn (record { entries = with_slots purged_slots t.entries index; next = t.next }) (instance_of n i)
  old_kept n s i found is spared (elsewhere same) =
      as_slots_old (record { entries = with_slots purged_slots t.entries index; next = t.next }) n s i (same ∙ found) is
  old_kept n s i found is spared (there e here was now) =
      absurd (spared i (old_there name t index at e i here (ap (λ x. x.former) (same_Some e.1 s (sym was ∙ found)) ∙ is)) refl)

  kept : (x : Instance) → StandsIn t x → Spared name t x → StandsIn (record { entries = with_slots purged_slots t.entries index; next = t.next }) x
  kept _ (as_current {name = n} {i = i} is) spared =
      let by = slots_by (slots_of n t) (λ s. s.current) i is in
      current_kept n by.0 i by.1 by.2 (found_changed (bytes_eq n) purged_slots t.entries index)
  kept _ (as_old {name = n} {i = i} is) spared =
      let by = slots_by (slots_of n t) (λ s. s.former) i is in
      old_kept n by.0 i by.1 by.2 spared (found_changed (bytes_eq n) purged_slots t.entries index)

  -- or none, and leaves the table

  current_left : is_some (current_of name t) ≡ false → (n : List ℕ) (s : Slots Forms) (i : held.Instance Forms) → slots_of n t ≡ Some s → s.current ≡ Some i → IsLeft (bytes_eq n) t.entries index (lookup (bytes_eq n) (remove t.entries index)) → StandsIn (record { entries = remove t.entries index; next = t.next }) (instance_of n i)
  current_left none n s i found is (stays same) = as_slots_current (record { entries = remove t.entries index; next = t.next }) n s i (same ∙ found) is
  current_left none n s i found is (goes e here was) =
      absurd (true≢false (sym (ap is_some (current_there name t index at e i here (ap (λ x. x.current) (same_Some e.1 s (sym was ∙ found)) ∙ is))) ∙ none))

  old_left : (n : List ℕ) (s : Slots Forms) (i : held.Instance Forms) → slots_of n t ≡ Some s → s.former ≡ Some i → Spared name t (instance_of n i) → IsLeft (bytes_eq n) t.entries index (lookup (bytes_eq n) (remove t.entries index)) → StandsIn (record { entries = remove t.entries index; next = t.next }) (instance_of n i)
  old_left n s i found is spared (stays same) = as_slots_old (record { entries = remove t.entries index; next = t.next }) n s i (same ∙ found) is
  old_left n s i found is spared (goes e here was) =
      absurd (spared i (old_there name t index at e i here (ap (λ x. x.former) (same_Some e.1 s (sym was ∙ found)) ∙ is)) refl)

  left : is_some (current_of name t) ≡ false → (x : Instance) → StandsIn t x → Spared name t x → StandsIn (record { entries = remove t.entries index; next = t.next }) x
  left none _ (as_current {name = n} {i = i} is) spared =
      let by = slots_by (slots_of n t) (λ s. s.current) i is in
      current_left none n by.0 i by.1 by.2 (found_left (bytes_eq n) t.entries index)
  left none _ (as_old {name = n} {i = i} is) spared =
      let by = slots_by (slots_of n t) (λ s. s.former) i is in
      old_left n by.0 i by.1 by.2 spared (found_left (bytes_eq n) t.entries index)

purged_at_index : (name : List ℕ) (t : Loaded Forms) (index : ℕ) (b : Bool) → index_of name t.entries ≡ Some index → is_some (current_of name t) ≡ b → (x : Instance) → StandsIn t x → Spared name t x → StandsIn (purged name t) x
purged_at_index name t index true at is x stands spared =
    subst (λ u. StandsIn u x) (sym (purged-kept name t index at is)) (kept name t index (Stands-index name t.entries index at) x stands spared)
purged_at_index name t index false at is x stands spared =
    subst (λ u. StandsIn u x) (sym (purged-gone name t index at is)) (left name t index (Stands-index name t.entries index at) is x stands spared)

stands_purged : (name : List ℕ) (t : Loaded Forms) (o : Option ℕ) → index_of name t.entries ≡ o → (x : Instance) → StandsIn t x → Spared name t x → StandsIn (purged name t) x
stands_purged name t None at x stands spared = subst (λ u. StandsIn u x) (sym (purged-absent name t at)) stands
stands_purged name t (Some index) at x stands spared = purged_at_index name t index (is_some (current_of name t)) at refl x stands spared

pub purged_keeps : (name : List ℕ) (t : Loaded Forms) (x : Instance) → StandsIn t x → Spared name t x → StandsIn (purged name t) x
purged_keeps name t x stands spared = stands_purged name t (index_of name t.entries) refl x stands spared

-- What was current is old, and there was no old code: a load of a module that is there, and a delete.

module _ (name : List ℕ) (t u : Loaded Forms) (index : ℕ) (at : Stands name t.entries index) (f : Slots Forms → Slots Forms) where
  current_aged : ((s : Slots Forms) → (f s).former ≡ s.current) → u.entries ≡ with_slots f t.entries index → (n : List ℕ) (s : Slots Forms) (i : held.Instance Forms) → slots_of n t ≡ Some s → s.current ≡ Some i → IsFound (bytes_eq n) t.entries index (lookup (bytes_eq n) (with_slots f t.entries index)) (λ v. Some (f v)) → StandsIn u (instance_of n i)
  current_aged ages entries n s i found is (elsewhere same) =
      as_slots_current u n s i (ap (lookup (bytes_eq n)) entries ∙ same ∙ found) is
  current_aged ages entries n s i found is (there e here was now) =
      as_slots_old u n (f e.1) i (ap (lookup (bytes_eq n)) entries ∙ now) (ages e.1 ∙ ap (λ x. x.current) (same_Some e.1 s (sym was ∙ found)) ∙ is)

  old_aged : old_of name t ≡ None → u.entries ≡ with_slots f t.entries index → (n : List ℕ) (s : Slots Forms) (i : held.Instance Forms) → slots_of n t ≡ Some s → s.former ≡ Some i → IsFound (bytes_eq n) t.entries index (lookup (bytes_eq n) (with_slots f t.entries index)) (λ v. Some (f v)) → StandsIn u (instance_of n i)
  old_aged none entries n s i found is (elsewhere same) = as_slots_old u n s i (ap (lookup (bytes_eq n)) entries ∙ same ∙ found) is
  old_aged none entries n s i found is (there e here was now) =
      absurd (none-some i (sym none ∙ old_there name t index at e i here (ap (λ x. x.former) (same_Some e.1 s (sym was ∙ found)) ∙ is)))

  aged : ((s : Slots Forms) → (f s).former ≡ s.current) → old_of name t ≡ None → u.entries ≡ with_slots f t.entries index → (x : Instance) → StandsIn t x → StandsIn u x
  aged ages none entries _ (as_current {name = n} {i = i} is) =
      let by = slots_by (slots_of n t) (λ s. s.current) i is in
      current_aged ages entries n by.0 i by.1 by.2 (found_changed (bytes_eq n) f t.entries index)
  aged ages none entries _ (as_old {name = n} {i = i} is) =
      let by = slots_by (slots_of n t) (λ s. s.former) i is in
      old_aged none entries n by.0 i by.1 by.2 (found_changed (bytes_eq n) f t.entries index)

-- A module is loaded that was not there.

module _ (t u : Loaded Forms) (last : Entry Forms) where
  added : u.entries ≡ t.entries ++ last ∷ [] → (x : Instance) → StandsIn t x → StandsIn u x
  added entries _ (as_current {name = n} {i = i} is) =
      let by = slots_by (slots_of n t) (λ s. s.current) i is in
      as_slots_current u n by.0 i (ap (lookup (bytes_eq n)) entries ∙ found_in_front (bytes_eq n) t.entries last by.0 by.1) by.2
  added entries _ (as_old {name = n} {i = i} is) =
      let by = slots_by (slots_of n t) (λ s. s.former) i is in
      as_slots_old u n by.0 i (ap (lookup (bytes_eq n)) entries ∙ found_in_front (bytes_eq n) t.entries last by.0 by.1) by.2

stands_loaded : (name : List ℕ) (code : Forms) (post : Option Purge) (t : Loaded Forms) (o : Option ℕ) → index_of name t.entries ≡ o → old_of name t ≡ None → (x : Instance) → StandsIn t x → StandsIn (loaded name code post t) x
stands_loaded name code post t None at none x stands =
    added t (loaded name code post t) (name, new_slots (record { serial = t.next; code = code })) (ap (λ o. loaded_at o name post (record { serial = t.next; code = code }) t.entries) at) x stands
stands_loaded name code post t (Some index) at none x stands =
    aged name t (loaded name code post t) index (Stands-index name t.entries index at) (stacked post (record { serial = t.next; code = code })) (λ s. refl) none (ap (λ o. loaded_at o name post (record { serial = t.next; code = code }) t.entries) at) x stands

pub loaded_keeps : (name : List ℕ) (code : Forms) (post : Option Purge) (t : Loaded Forms) → old_of name t ≡ None → (x : Instance) → StandsIn t x → StandsIn (loaded name code post t) x
loaded_keeps name code post t none x stands = stands_loaded name code post t (index_of name t.entries) refl none x stands

stands_deleted : (name : List ℕ) (post : Option Purge) (t : Loaded Forms) (o : Option ℕ) → index_of name t.entries ≡ o → old_of name t ≡ None → (x : Instance) → StandsIn t x → StandsIn (deleted name post t) x
stands_deleted name post t None at none x stands =
    subst (λ u. StandsIn u x) (sym (ap (λ o. record { entries = deleted_at o post t.entries; next = t.next }) at)) stands
stands_deleted name post t (Some index) at none x stands =
    aged name t (deleted name post t) index (Stands-index name t.entries index at) (retired post) (λ s. refl) none (ap (λ o. deleted_at o post t.entries) at) x stands

pub deleted_keeps : (name : List ℕ) (post : Option Purge) (t : Loaded Forms) → delete_refusal name t ≡ None → (x : Instance) → StandsIn t x → StandsIn (deleted name post t) x
deleted_keeps name post t none x stands = stands_deleted name post t (index_of name t.entries) refl (IsDeletable-unrefused name t none).no_old x stands
