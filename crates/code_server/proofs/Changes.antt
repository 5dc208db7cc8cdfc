-- What each change does where the module stands, and which undo takes it back.
use Rattle.std.proofs.Common.{◌≡◌, ℕ, ◌+◌, ◌-◌, ◌^◌, ◌<◌, ◌==◌, Bool, true, false, ◌||◌, if◌then◌else◌, List, [], ◌∷◌, ◌++◌, length, take, insert, remove, slice_get, Option, None, Some, option_and_then, option_map, is_some, refl, sym, ap, subst, ◌∙◌, length-append, arith}
use Rattle.std.proofs.lemmas.Bool.{eqb-false}
use Rattle.std.proofs.lemmas.List.Edits.{length-remove}
use Rattle.std.proofs.lemmas.Option.{same_Some}
use Rattle.std.specs.Map.{lookup}
use Rattle.std.specs.Str.{bytes_eq}
use Rattle.values.proofs.Edits.{All-slice_get, changed_at-back, changed_at-same, insert-remove, last_index, length-changed_at, take-end}
use Rattle.code_server.specs.declared.error.CodeError.TheVariants.{NotLoaded, NotPurged, CounterEnd}
use Rattle.code_server.specs.declared.modules.Instance.{Instance}
use Rattle.code_server.specs.declared.modules.Slots.{Slots}
use Rattle.code_server.specs.declared.undo.ModulesUndo.{ModulesUndo}
use Rattle.code_server.specs.declared.undo.ModulesUndo.TheVariants.{Nothing, Added, Stacked, Replaced, Retired, Demoted, Purged, Removed}
use Rattle.code_server.specs.Modules.{Entry, Table, HasCode, IsModuleTable, NotesOldCode, current_of, old_of, index_of, with_slots, load_refusal, stacked, delete_refusal, retired, purged_slots, purged_at, purged}
use Rattle.code_server.specs.Indices.{current_at, former_at, post_at}
use Rattle.code_server.specs.Undo.{Fits, IsPlaced, restored, swapped_back, undone, unpurged}
use Rattle.code_server.proofs.Standing.{Stands}
use Rattle.release_words.specs.declared.purge.Purge as words

pub none_from_test : {A : Type 0} (o : Option A) → is_some o ≡ false → o ≡ None
none_from_test None e = refl
none_from_test (Some x) e = absurd cc

pub none_unless : {A : Type 0} (o : Option A) → ((x : A) → o ≡ Some x → ⊥) → o ≡ None
none_unless None not = refl
none_unless (Some x) not = absurd (not x refl)

refused_none : (old end : Bool) → (if old then Some NotPurged else (if end then Some CounterEnd else None)) ≡ None → (old ≡ false) × (end ≡ false)
refused_none true end e = absurd cc
refused_none false true e = absurd cc
refused_none false false e = (refl, refl)

delete_none : (current old : Bool) → (if current then (if old then Some NotPurged else None) else Some NotLoaded) ≡ None → (current ≡ true) × (old ≡ false)
delete_none false old e = absurd cc
delete_none true true e = absurd cc
delete_none true false e = (refl, refl)

module _ {C : Type 0} where
  -- Refusals

  -- a load that is not refused
  pub record IsLoadable (name : List ℕ) (t : Table C) : Type 0 where
    pub no_old : old_of name t ≡ None
    pub serial : t.next < 2 ^ 64

  pub IsLoadable-unrefused : (name : List ℕ) (t : Table C) → IsModuleTable t → load_refusal name t ≡ None → IsLoadable name t
  IsLoadable-unrefused name t sound e =
      let none = refused_none (is_some (old_of name t)) (t.next == 2 ^ 64) e in
      let below = eqb-false t.next (2 ^ 64) none.1 in
      record {
        no_old = none_from_test (old_of name t) none.0;
        serial = omega (arith, sound.counted.1, below);
      }

  -- a delete that is not refused
  pub record IsDeletable (name : List ℕ) (t : Table C) : Type 0 where
    pub has_current : is_some (current_of name t) ≡ true
    pub no_old : old_of name t ≡ None

  pub IsDeletable-unrefused : (name : List ℕ) (t : Table C) → delete_refusal name t ≡ None → IsDeletable name t
  IsDeletable-unrefused name t e =
      let none = delete_none (is_some (current_of name t)) (is_some (old_of name t)) e in
      record { has_current = none.0; no_old = none_from_test (old_of name t) none.1 }

  -- The instances of a module that stands at an index

  pub current_of-slots : (name : List ℕ) (t : Table C) (index : ℕ) (at : Stands name t.entries index) → current_of name t ≡ at.slots.current
  current_of-slots name t index at = ap (option_and_then (λ slots. slots.current)) at.value

  pub old_of-slots : (name : List ℕ) (t : Table C) (index : ℕ) (at : Stands name t.entries index) → old_of name t ≡ at.slots.former
  old_of-slots name t index at = ap (option_and_then (λ slots. slots.former)) at.value

  pub current_at-slots : (name : List ℕ) (es : List (Entry C)) (index : ℕ) (at : Stands name es index) → current_at es index ≡ at.slots.current
  current_at-slots name es index at = ap (option_and_then (λ entry. entry.1.current)) at.entry

  pub former_at-slots : (name : List ℕ) (es : List (Entry C)) (index : ℕ) (at : Stands name es index) → former_at es index ≡ at.slots.former
  former_at-slots name es index at = ap (option_and_then (λ entry. entry.1.former)) at.entry

  pub post_at-slots : (name : List ℕ) (es : List (Entry C)) (index : ℕ) (at : Stands name es index) → post_at es index ≡ at.slots.post
  post_at-slots name es index at = ap (option_and_then (λ entry. entry.1.post)) at.entry

  -- a module without old code has nothing that is purged later
  pub none_later : (name : List ℕ) (t : Table C) (index : ℕ) (at : Stands name t.entries index) → IsModuleTable t → at.slots.former ≡ None → at.slots.post ≡ None
  none_later name t index at sound none =
      All-slice_get (λ e. NotesOldCode e) t.entries index (name, at.slots) sound.notes at.entry none

  -- The undo of each change

  -- `old` is the table before the change, by its fields, and `now` that table
  pub taken_back : (undo : ModulesUndo C) (new old now : Table C) → IsPlaced undo new → undone undo new ≡ old → IsModuleTable old → old ≡ now → Fits undo new × (undone undo new ≡ now)
  taken_back undo new old now placed back sound is =
      (record { placed = placed; sound = subst IsModuleTable (sym back) sound }, back ∙ is)

  pub same_slots : (current former : Option (Instance C)) (post : Option words.Purge) (slots : Slots C) → slots.current ≡ current → slots.former ≡ former → slots.post ≡ post → record { current = current; former = former; post = post } ≡ slots
  same_slots current former post slots c f p = (λ j. record { current = sym c j; former = sym f j; post = sym p j })

  -- a change of one module's instances, and the one that takes it back
  with_slots-back : (f g : Slots C → Slots C) (name : List ℕ) (es changed : List (Entry C)) (index : ℕ) (at : Stands name es index) → g (f at.slots) ≡ at.slots → changed ≡ with_slots f es index → with_slots g changed index ≡ es
  with_slots-back f g name es changed index at back is =
      ap (λ l. with_slots g l index) is ∙ changed_at-back (λ e. (e.0, f e.1)) (λ e. (e.0, g e.1)) es index (name, at.slots) at.entry (ap (λ s. (name, s)) back)

  within_changed : (f : Slots C → Slots C) (name : List ℕ) (es changed : List (Entry C)) (index : ℕ) → Stands name es index → changed ≡ with_slots f es index → index < length changed
  within_changed f name es changed index at is =
      omega (arith, at.within, ap length is ∙ length-changed_at (λ e. (e.0, f e.1)) es index)

  pub Retired-back : (name : List ℕ) (t now : Table C) (index : ℕ) (es : List (Entry C)) (post : Option words.Purge) (at : Stands name t.entries index) → at.slots.former ≡ None → es ≡ with_slots (retired post) t.entries index → IsModuleTable t → t ≡ now → Fits (Retired index) (record { entries = es; next = t.next }) × (undone (Retired index) (record { entries = es; next = t.next }) ≡ now)
  Retired-back name t now index es post at none is sound same =
      let slots = same_slots at.slots.current None None at.slots refl none (none_later name t index at sound none) in
      let back = with_slots-back (retired post) restored name t.entries es index at slots is in
      taken_back (Retired index) (record { entries = es; next = t.next }) t now (within_changed (retired post) name t.entries es index at is) (λ j. record { entries = back j; next = t.next }) sound same

  pub Stacked-back : (name : List ℕ) (t now : Table C) (index : ℕ) (es : List (Entry C)) (post : Option words.Purge) (instance : Instance C) (at : Stands name t.entries index) → at.slots.former ≡ None → es ≡ with_slots (stacked post instance) t.entries index → IsModuleTable t → t ≡ now → Fits (Stacked index) (record { entries = es; next = t.next + 1 }) × (undone (Stacked index) (record { entries = es; next = t.next + 1 }) ≡ now)
  Stacked-back name t now index es post instance at none is sound same =
      let slots = same_slots at.slots.current None None at.slots refl none (none_later name t index at sound none) in
      let back = with_slots-back (stacked post instance) restored name t.entries es index at slots is in
      let count : t.next + 1 - 1 ≡ t.next = omega arith in
      taken_back (Stacked index) (record { entries = es; next = t.next + 1 }) t now (within_changed (stacked post instance) name t.entries es index at is) (λ j. record { entries = back j; next = count j }) sound same

  pub Replaced-back : (name : List ℕ) (t now : Table C) (index : ℕ) (es : List (Entry C)) (post : Option words.Purge) (instance former : Instance C) (note : Option words.Purge) (at : Stands name t.entries index) → at.slots.former ≡ Some former → at.slots.post ≡ note → es ≡ with_slots (stacked post instance) t.entries index → IsModuleTable t → t ≡ now → Fits (Replaced index former note) (record { entries = es; next = t.next + 1 }) × (undone (Replaced index former note) (record { entries = es; next = t.next + 1 }) ≡ now)
  Replaced-back name t now index es post instance former note at some later is sound same =
      let slots = same_slots at.slots.current (Some former) note at.slots refl some later in
      let back = with_slots-back (stacked post instance) (swapped_back former note) name t.entries es index at slots is in
      let count : t.next + 1 - 1 ≡ t.next = omega arith in
      taken_back (Replaced index former note) (record { entries = es; next = t.next + 1 }) t now (within_changed (stacked post instance) name t.entries es index at is) (λ j. record { entries = back j; next = count j }) sound same

  pub Demoted-back : (name : List ℕ) (t now : Table C) (index : ℕ) (es : List (Entry C)) (post : Option words.Purge) (former : Instance C) (note : Option words.Purge) (at : Stands name t.entries index) → at.slots.former ≡ Some former → at.slots.post ≡ note → es ≡ with_slots (retired post) t.entries index → IsModuleTable t → t ≡ now → Fits (Demoted index former note) (record { entries = es; next = t.next }) × (undone (Demoted index former note) (record { entries = es; next = t.next }) ≡ now)
  Demoted-back name t now index es post former note at some later is sound same =
      let slots = same_slots at.slots.current (Some former) note at.slots refl some later in
      let back = with_slots-back (retired post) (swapped_back former note) name t.entries es index at slots is in
      taken_back (Demoted index former note) (record { entries = es; next = t.next }) t now (within_changed (retired post) name t.entries es index at is) (λ j. record { entries = back j; next = t.next }) sound same

  pub Purged-back : (name : List ℕ) (t now : Table C) (index : ℕ) (es : List (Entry C)) (former : Instance C) (note : Option words.Purge) (at : Stands name t.entries index) → at.slots.former ≡ Some former → at.slots.post ≡ note → es ≡ with_slots purged_slots t.entries index → IsModuleTable t → t ≡ now → Fits (Purged index former note) (record { entries = es; next = t.next }) × (undone (Purged index former note) (record { entries = es; next = t.next }) ≡ now)
  Purged-back name t now index es former note at some later is sound same =
      let slots = same_slots at.slots.current (Some former) note at.slots refl some later in
      let back = with_slots-back purged_slots (unpurged former note) name t.entries es index at slots is in
      taken_back (Purged index former note) (record { entries = es; next = t.next }) t now (within_changed purged_slots name t.entries es index at is) (λ j. record { entries = back j; next = t.next }) sound same

  pub Added-back : (t now : Table C) (entry : Entry C) (es : List (Entry C)) → es ≡ t.entries ++ entry ∷ [] → IsModuleTable t → t ≡ now → Fits Added (record { entries = es; next = t.next + 1 }) × (undone Added (record { entries = es; next = t.next + 1 }) ≡ now)
  Added-back t now entry es is sound same =
      let long = length-append t.entries (entry ∷ []) in
      let taken : take (length es - 1) es ≡ t.entries = (λ j. take (length (is j) - 1) (is j)) ∙ ap (λ n. take n (t.entries ++ entry ∷ [])) (last_index t.entries entry) ∙ take-end t.entries entry in
      let count : t.next + 1 - 1 ≡ t.next = omega arith in
      taken_back Added (record { entries = es; next = t.next + 1 }) t now (omega (arith, ap length is, long)) (λ j. record { entries = taken j; next = count j }) sound same

  pub Removed-back : (name stored : List ℕ) (t now : Table C) (index : ℕ) (es : List (Entry C)) (former : Instance C) (note : Option words.Purge) (at : Stands name t.entries index) → stored ≡ name → at.slots.current ≡ None → at.slots.former ≡ Some former → at.slots.post ≡ note → es ≡ remove t.entries index → IsModuleTable t → t ≡ now → Fits (Removed index stored former note) (record { entries = es; next = t.next }) × (undone (Removed index stored former note) (record { entries = es; next = t.next }) ≡ now)
  Removed-back name stored t now index es former note at key none some later is sound same =
      let slots = same_slots None (Some former) note at.slots none some later in
      let back : insert es index (stored, record { current = None; former = Some former; post = note }) ≡ t.entries = (λ j. insert (is j) index (key j, slots j)) ∙ insert-remove t.entries index (name, at.slots) at.entry in
      let shorter = length-remove t.entries index at.within in
      let absent : lookup (bytes_eq stored) es ≡ None = (λ j. lookup (bytes_eq (key j)) (is j)) ∙ at.gone sound.distinct in
      taken_back (Removed index stored former note) (record { entries = es; next = t.next }) t now (omega (arith, ap length is, shorter, at.within), absent) (λ j. record { entries = back j; next = t.next }) sound same

  pub Nothing-back : (name : List ℕ) (t now : Table C) (index : ℕ) (es : List (Entry C)) (at : Stands name t.entries index) → at.slots.former ≡ None → es ≡ with_slots purged_slots t.entries index → IsModuleTable t → t ≡ now → Fits Nothing (record { entries = es; next = t.next }) × (undone Nothing (record { entries = es; next = t.next }) ≡ now)
  Nothing-back name t now index es at none is sound same =
      let slots = same_slots at.slots.current None None at.slots refl none (none_later name t index at sound none) in
      let back = is ∙ changed_at-same (λ e. (e.0, purged_slots e.1)) t.entries index (name, at.slots) at.entry (ap (λ s. (name, s)) slots) in
      taken_back Nothing (record { entries = es; next = t.next }) t now tt (λ j. record { entries = back j; next = t.next }) sound same

  -- What a purge does

  -- of a module with current code
  pub purged-kept : (name : List ℕ) (t : Table C) (index : ℕ) → index_of name t.entries ≡ Some index → is_some (current_of name t) ≡ true → purged name t ≡ record { entries = with_slots purged_slots t.entries index; next = t.next }
  purged-kept name t index at there = (λ j. record { entries = purged_at (at j) (there j) t.entries; next = t.next })

  -- of a module with old code alone
  pub purged-gone : (name : List ℕ) (t : Table C) (index : ℕ) → index_of name t.entries ≡ Some index → is_some (current_of name t) ≡ false → purged name t ≡ record { entries = remove t.entries index; next = t.next }
  purged-gone name t index at there = (λ j. record { entries = purged_at (at j) (there j) t.entries; next = t.next })

  -- of a module that is not there
  pub purged-absent : (name : List ℕ) (t : Table C) → index_of name t.entries ≡ None → purged name t ≡ t
  purged-absent name t absent =
      (λ j. record { entries = purged_at (absent j) (is_some (current_of name t)) t.entries; next = t.next })

  -- whether a module has current code, by its name and by its index
  pub current_of-at : (name : List ℕ) (t : Table C) (index : ℕ) (b : Bool) → Stands name t.entries index → is_some (current_at t.entries index) ≡ b → is_some (current_of name t) ≡ b
  current_of-at name t index b at is =
      ap is_some (current_of-slots name t index at ∙ sym (current_at-slots name t.entries index at)) ∙ is

  -- the old code that a write at an index took
  pub former-taken : (name : List ℕ) (es : List (Entry C)) (index : ℕ) (at : Stands name es index) (r o : Option (Instance C)) → r ≡ former_at es index → r ≡ o → at.slots.former ≡ o
  former-taken name es index at r o is got = sym (former_at-slots name es index at) ∙ sym is ∙ got

  -- how the old code is purged later that a write at an index took
  pub post-taken : (name : List ℕ) (es : List (Entry C)) (index : ℕ) (at : Stands name es index) (r : Option words.Purge) → r ≡ post_at es index → at.slots.post ≡ r
  post-taken name es index at r is = sym (post_at-slots name es index at) ∙ sym is

  -- what was taken is what the module had as old code
  pub held-taken : (name : List ℕ) (t now : Table C) (index : ℕ) (at : Stands name t.entries index) (o : Option (Instance C)) → at.slots.former ≡ o → t ≡ now → o ≡ old_of name now
  held-taken name t now index at o taken view = sym taken ∙ sym (old_of-slots name t index at) ∙ ap (old_of name) view

  -- and a module that is not there has none
  pub held-absent : (name : List ℕ) (t now : Table C) → lookup (bytes_eq name) t.entries ≡ None → t ≡ now → None ≡ old_of name now
  held-absent name t now absent view = sym (ap (option_and_then (λ slots. slots.former)) absent) ∙ ap (old_of name) view

  -- a module that is left without current code
  pub no_current : (name : List ℕ) (es : List (Entry C)) (index : ℕ) (at : Stands name es index) → is_some (current_at es index) ≡ false → at.slots.current ≡ None
  no_current name es index at none =
      none_from_test at.slots.current (ap is_some (sym (current_at-slots name es index at)) ∙ none)

  -- what was taken out with a module
  abbrev pub taken_with : Option (Entry C) → Option (List ℕ × Instance C × Option words.Purge)
  taken_with o = option_and_then (λ entry. option_map (λ instance. (entry.0, instance, entry.1.post)) entry.1.former) o

  pub none_taken : (name : List ℕ) (es : List (Entry C)) (index : ℕ) (at : Stands name es index) (r : Option (List ℕ × Instance C × Option words.Purge)) → r ≡ taken_with (slice_get es index) → r ≡ None → at.slots.former ≡ None
  none_taken name es index at r is none =
      by at.slots.former (sym (ap taken_with at.entry) ∙ sym is ∙ none)
    where
      by : (o : Option (Instance C)) → option_map {U = List ℕ × Instance C × Option words.Purge} (λ instance. (name, instance, at.slots.post)) o ≡ None → o ≡ None
      by None e = refl
      by (Some instance) e = absurd cc

  pub some_taken : (name : List ℕ) (es : List (Entry C)) (index : ℕ) (at : Stands name es index) (r : Option (List ℕ × Instance C × Option words.Purge)) (stored : List ℕ) (former : Instance C) (note : Option words.Purge) → r ≡ taken_with (slice_get es index) → r ≡ Some (stored, former, note) → (at.slots.former ≡ Some former) × (stored ≡ name) × (at.slots.post ≡ note)
  some_taken name es index at r stored former note is some =
      by at.slots.former (sym (ap taken_with at.entry) ∙ sym is ∙ some)
    where
      by : (o : Option (Instance C)) → option_map {U = List ℕ × Instance C × Option words.Purge} (λ instance. (name, instance, at.slots.post)) o ≡ Some (stored, former, note) → (o ≡ Some former) × (stored ≡ name) × (at.slots.post ≡ note)
      by None e = absurd cc
      by (Some instance) e =
          let same = same_Some (name, instance, at.slots.post) (stored, former, note) e in
          (ap (λ p. Some p.1) same, sym (ap (λ p. p.0) same), ap (λ p. p.2) same)

  -- no module is without code
  pub codeless : (name : List ℕ) (t : Table C) (index : ℕ) (at : Stands name t.entries index) → IsModuleTable t → at.slots.current ≡ None → at.slots.former ≡ None → ⊥
  codeless name t index at sound current former =
      let code = All-slice_get (λ e. HasCode e) t.entries index (name, at.slots) sound.with_code at.entry in
      let none : (is_some at.slots.current || is_some at.slots.former) ≡ false = (λ j. is_some (current j) || is_some (former j)) in
      cc
