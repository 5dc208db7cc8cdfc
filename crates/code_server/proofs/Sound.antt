-- Every change leaves a sound table.
use Rattle.std.proofs.Common.{◌≡◌, ℕ, ◌+◌, ◌^◌, ◌<◌, ◌≤◌, true, false, ◌||◌, List, [], ◌∷◌, ◌++◌, remove, slice_get, All, Bool, Option, None, Some, option_and_then, is_some, refl, sym, ap, subst, ◌∙◌, arith}
use Rattle.std.proofs.lemmas.List.{map-append}
use Rattle.std.proofs.lemmas.List.Elements.{All-from_recursion, All-map, All-push, All-weaker}
use Rattle.std.proofs.lemmas.List.Folds.{list_any_none}
use Rattle.std.proofs.lemmas.List.Sums.{sum_by_push}
use Rattle.std.proofs.lemmas.Map.{none_passes_from_lookup}
use Rattle.std.proofs.lemmas.Map.Keys.{IsDistinct-push}
use Rattle.std.specs.Cmp.Lexicographic.{nat_list_eq_equiv}
use Rattle.std.specs.List.{IsDistinct, list_any}
use Rattle.std.specs.Map.{keys_of, lookup}
use Rattle.std.specs.Str.{bytes_eq}
use Rattle.values.proofs.Edits.{All-changed_at, All-remove, All-slice_get, IsDistinct-remove, map-remove}
use Rattle.code_server.specs.declared.modules.Instance.{Instance}
use Rattle.code_server.specs.declared.modules.Slots.{Slots}
use Rattle.code_server.specs.Modules.{Entry, Table, HasCode, IsGiven, IsModuleTable, NotesOldCode, in_slot, in_entry, in_entries, new_slots, noted, with_slots, stacked, retired, purged_slots}
use Rattle.code_server.specs.Indices.{current_at}
use Rattle.code_server.proofs.Serials.{AreGiven, in_entries-at_most, in_entries-remove, once_with}
use Rattle.code_server.proofs.Standing.{keys-with_slots}
use Rattle.release_words.specs.declared.purge.Purge as words

module _ {C : Type 0} where
  pub IsGiven-later : (n m : ℕ) (o : Option (Instance C)) → n ≤ m → IsGiven n o → IsGiven m o
  IsGiven-later n m None later given = tt
  IsGiven-later n m (Some instance) later given = (given.0, omega (arith, given.1))

  AreGiven-later : (n m : ℕ) (es : List (Entry C)) → n ≤ m → All (AreGiven n) es → All (AreGiven m) es
  AreGiven-later n m es later given =
      All-weaker (AreGiven n) (AreGiven m) (λ e g. (IsGiven-later n m e.1.current later g.0, IsGiven-later n m e.1.former later g.1)) es given

  -- the instances of one module change, and `new` is the one that comes in, if any
  pub IsModuleTable-with_slots : (f : Slots C → Slots C) (t : Table C) (index next : ℕ) (new : Option (Instance C)) → IsModuleTable t → t.next ≤ next → next ≤ 2 ^ 64 → ((n : ℕ) → in_entries n t.entries + in_slot n new ≤ 1) → ((e : Entry C) → slice_get t.entries index ≡ Some e → HasCode (e.0, f e.1) × NotesOldCode (e.0, f e.1) × AreGiven next (e.0, f e.1) × ((n : ℕ) → in_entry n (e.0, f e.1) ≤ in_entry n e + in_slot n new)) → IsModuleTable (record { entries = with_slots f t.entries index; next = next })
  IsModuleTable-with_slots f t index next new sound later end room at = record {
    distinct = subst (IsDistinct bytes_eq) (sym (keys-with_slots f t.entries index)) sound.distinct;
    with_code = All-changed_at (λ e. HasCode e) (λ e. (e.0, f e.1)) t.entries index sound.with_code (λ e is. (at e is).0);
    notes = All-changed_at (λ e. NotesOldCode e) (λ e. (e.0, f e.1)) t.entries index sound.notes (λ e is. (at e is).1);
    given = All-changed_at (AreGiven next) (λ e. (e.0, f e.1)) t.entries index (AreGiven-later t.next next t.entries later sound.given) (λ e is. (at e is).2);
    once = λ n. omega (arith, room n, in_entries-at_most n (in_slot n new) (λ e. (e.0, f e.1)) t.entries index (λ e is. (at e is).3 n));
    counted = (omega (arith, sound.counted.0), end);
  }

  -- what was not current is not purged later
  none_noted : (post : Option words.Purge) (current : Option (Instance C)) → current ≡ None → noted post current ≡ None
  none_noted post current none = ap (noted post) none

  -- a load of a module that is there
  pub IsModuleTable-stacked : (t : Table C) (index : ℕ) (post : Option words.Purge) (instance : Instance C) → IsModuleTable t → instance.serial ≡ t.next → t.next < 2 ^ 64 → IsModuleTable (record { entries = with_slots (stacked post instance) t.entries index; next = t.next + 1 })
  IsModuleTable-stacked t index post instance sound is below =
      IsModuleTable-with_slots (stacked post instance) t index (t.next + 1) (Some instance) sound (omega arith) (omega arith) (once_with t instance sound is) (λ e at.
      let given = All-slice_get (AreGiven t.next) t.entries index e sound.given at in (
        refl,
        none_noted post e.1.current,
        ((omega (arith, sound.counted.0, is), omega (arith, is)), IsGiven-later t.next (t.next + 1) e.1.current (omega arith) given.0),
        λ n. omega arith,
      ))

  current_at_some : (es : List (Entry C)) (index : ℕ) (e : Entry C) → slice_get es index ≡ Some e → is_some (current_at es index) ≡ true → is_some e.1.current ≡ true
  current_at_some es index e at there =
      sym (ap (λ o. is_some (option_and_then (λ entry. entry.1.current) o)) at) ∙ there

  -- a delete
  pub IsModuleTable-retired : (t : Table C) (index : ℕ) (post : Option words.Purge) → IsModuleTable t → is_some (current_at t.entries index) ≡ true → IsModuleTable (record { entries = with_slots (retired post) t.entries index; next = t.next })
  IsModuleTable-retired t index post sound there =
      IsModuleTable-with_slots (retired post) t index t.next None sound (omega arith) sound.counted.1 (λ n. omega (arith, sound.once n)) (λ e at.
      let given = All-slice_get (AreGiven t.next) t.entries index e sound.given at in
      (current_at_some t.entries index e at there, none_noted post e.1.current, (tt, given.0), λ n. omega arith))

  -- a purge of a module with current code
  pub IsModuleTable-purged_slots : (t : Table C) (index : ℕ) → IsModuleTable t → is_some (current_at t.entries index) ≡ true → IsModuleTable (record { entries = with_slots purged_slots t.entries index; next = t.next })
  IsModuleTable-purged_slots t index sound there =
      IsModuleTable-with_slots purged_slots t index t.next None sound (omega arith) sound.counted.1 (λ n. omega (arith, sound.once n)) (λ e at.
      let given = All-slice_get (AreGiven t.next) t.entries index e sound.given at in
      (ap (λ b. b || false) (current_at_some t.entries index e at there), λ _. refl, (given.0, tt), λ n. omega arith))

  -- a purge of a module with old code alone
  pub IsModuleTable-removed : (t : Table C) (index : ℕ) → IsModuleTable t → IsModuleTable (record { entries = remove t.entries index; next = t.next })
  IsModuleTable-removed t index sound = record {
    distinct = subst (IsDistinct bytes_eq) (sym (map-remove (λ e. e.0) t.entries index)) (IsDistinct-remove bytes_eq (keys_of t.entries) index sound.distinct);
    with_code = All-remove (λ e. HasCode e) t.entries index sound.with_code;
    notes = All-remove (λ e. NotesOldCode e) t.entries index sound.notes;
    given = All-remove (AreGiven t.next) t.entries index sound.given;
    once = λ n. omega (arith, sound.once n, in_entries-remove n t.entries index);
    counted = sound.counted;
  }

  absent_from_keys : (es : List (Entry C)) (test : List ℕ → Bool) → lookup test es ≡ None → list_any test (keys_of es) ≡ false
  absent_from_keys es test absent =
      list_any_none test (keys_of es) (All-map (λ k. test k ≡ false) (λ e. e.0) es (All-from_recursion (λ e. test e.0 ≡ false) es (none_passes_from_lookup test es absent)))

  -- a load of a module that is not there
  pub IsModuleTable-added : (t : Table C) (name : List ℕ) (instance : Instance C) → IsModuleTable t → lookup (bytes_eq name) t.entries ≡ None → instance.serial ≡ t.next → t.next < 2 ^ 64 → IsModuleTable (record { entries = t.entries ++ (name, new_slots instance) ∷ []; next = t.next + 1 })
  IsModuleTable-added t name instance sound absent is below =
      let slots : Slots C = new_slots instance in
      record {
        distinct = subst (IsDistinct bytes_eq) (sym (map-append (λ e. e.0) t.entries ((name, slots) ∷ []))) (IsDistinct-push nat_list_eq_equiv (keys_of t.entries) name sound.distinct (absent_from_keys t.entries (bytes_eq name) absent));
        with_code = All-push (λ e. HasCode e) t.entries (name, slots) sound.with_code refl;
        notes = All-push (λ e. NotesOldCode e) t.entries (name, slots) sound.notes (λ _. refl);
        given = All-push (AreGiven (t.next + 1)) t.entries (name, slots) (AreGiven-later t.next (t.next + 1) t.entries (omega arith) sound.given) ((omega (arith, sound.counted.0, is), omega (arith, is)), tt);
        once = λ n. omega (arith, once_with t instance sound is n, sum_by_push (in_entry n) t.entries (name, slots));
        counted = (omega arith, omega arith);
      }
