-- A purge and a load in one: what it does where the module stands, and which undo takes it back.
use Rattle.std.proofs.Common.{◌≡◌, ℕ, ◌+◌, ◌-◌, ◌^◌, ◌<◌, ◌==◌, Bool, true, false, if◌then◌else◌, List, [], ◌∷◌, ◌++◌, length, take, insert, remove, slice_get, position, Option, None, Some, option_and_then, is_some, refl, sym, ap, ◌∙◌, length-append, arith}
use Rattle.std.proofs.lemmas.Bool.{eq-eqb, ne_eqb}
use Rattle.std.proofs.lemmas.List.Edits.{length-remove}
use Rattle.std.proofs.lemmas.Option.{same_Some}
use Rattle.std.specs.Map.{lookup}
use Rattle.std.specs.Str.{bytes_eq}
use Rattle.indexmap.specs.IndexMap.{move_index}
use Rattle.indexmap.proofs.MapLemmas.{some_index}
use Rattle.values.proofs.Edits.{changed_at-end, changed_at-twice, insert-remove, last_index, slice_get-changed_at, slice_get-end, take-end}
use Rattle.code_server.specs.declared.error.CodeError.TheVariants.{NotPurged, CounterEnd}
use Rattle.code_server.specs.declared.modules.Instance.{Instance}
use Rattle.code_server.specs.declared.modules.Slots.{Slots}
use Rattle.code_server.specs.declared.undo.ModulesUndo.TheVariants.{Moved}
use Rattle.code_server.specs.Modules.{Entry, Table, IsModuleTable, current_of, old_of, index_of, new_slots, noted, with_slots, load_refusal, stacked, loaded_at, loaded, purged_slots, purged}
use Rattle.code_server.specs.Indices.{former_at, post_at}
use Rattle.code_server.specs.Undo.{Fits, moved_back, undone}
use Rattle.code_server.proofs.Changes.{none_from_test, old_of-slots, purged-absent, purged-gone, purged-kept, same_slots, taken_back}
use Rattle.code_server.proofs.Sound.{IsModuleTable-added, IsModuleTable-removed}
use Rattle.code_server.proofs.Standing.{Stands, Stands-index, absent_from_index, keys-with_slots, last_is, move_index-end}
use Rattle.release_words.specs.declared.purge.Purge as words

module _ {C : Type 0} where
  -- No old code stays

  -- the module's index, where its instances changed
  pub index_of-with_slots : (f : Slots C → Slots C) (name : List ℕ) (es : List (Entry C)) (index : ℕ) → index_of name es ≡ Some index → index_of name (with_slots f es index) ≡ Some index
  index_of-with_slots f name es index found =
      ap (position (bytes_eq name)) (keys-with_slots f es index) ∙ found

  old_of-kept : (name : List ℕ) (t : Table C) (index : ℕ) → index_of name t.entries ≡ Some index → old_of name (record { entries = with_slots purged_slots t.entries index; next = t.next }) ≡ None
  old_of-kept name t index found =
      let kept : Table C = record { entries = with_slots purged_slots t.entries index; next = t.next } in
      let before = Stands-index name t.entries index found in
      let after = Stands-index name kept.entries index (index_of-with_slots purged_slots name t.entries index found) in
      let changed = slice_get-changed_at (λ e. (e.0, purged_slots e.1)) t.entries index (name, before.slots) before.entry in
      let same = same_Some (name, after.slots) (name, purged_slots before.slots) (sym after.entry ∙ changed) in
      old_of-slots name kept index after ∙ ap (λ e. e.1.former) same

  old_of-absent : (name : List ℕ) (t : Table C) → lookup (bytes_eq name) t.entries ≡ None → old_of name t ≡ None
  old_of-absent name t absent = ap (option_and_then (λ slots. slots.former)) absent

  pub old_of-purged : (name : List ℕ) (t : Table C) → IsModuleTable t → old_of name (purged name t) ≡ None
  old_of-purged name t sound =
      by (index_of name t.entries) refl (is_some (current_of name t)) refl
    where
      by : (r : Option ℕ) → index_of name t.entries ≡ r → (b : Bool) → is_some (current_of name t) ≡ b → old_of name (purged name t) ≡ None
      by None found b there =
          ap (old_of name) (purged-absent name t found) ∙ old_of-absent name t (absent_from_index name t.entries found)
      by (Some index) found true there =
          ap (old_of name) (purged-kept name t index found there) ∙ old_of-kept name t index found
      by (Some index) found false there =
          let at = Stands-index name t.entries index found in
          ap (old_of name) (purged-gone name t index found there) ∙ old_of-absent name (record { entries = remove t.entries index; next = t.next }) (at.gone sound.distinct)

  -- so nothing but the counter refuses
  pub refusal-purged : (name : List ℕ) (t : Table C) (b : Bool) → IsModuleTable t → (t.next == 2 ^ 64) ≡ b → load_refusal name (purged name t) ≡ (if b then Some CounterEnd else None)
  refusal-purged name t b sound is =
      (λ j. if is_some (old_of-purged name t sound j) then Some NotPurged else (if is j then Some CounterEnd else None))

  pub refused-end : (name : List ℕ) (t now : Table C) → IsModuleTable t → t.next ≡ 2 ^ 64 → t ≡ now → load_refusal name (purged name now) ≡ Some CounterEnd
  refused-end name t now sound end same =
      sym (ap (λ u. load_refusal name (purged name u)) same) ∙ refusal-purged name t true sound (eq-eqb t.next (2 ^ 64) end)

  pub refused-never : (name : List ℕ) (t now : Table C) → IsModuleTable t → t.next < 2 ^ 64 → t ≡ now → load_refusal name (purged name now) ≡ None
  refused-never name t now sound below same =
      sym (ap (λ u. load_refusal name (purged name u)) same) ∙ refusal-purged name t false sound (ne_eqb t.next (2 ^ 64) (λ e. absurd (omega (arith, e))))

  -- A module with current code stays

  pub loaded-kept : (name : List ℕ) (code : C) (post : Option words.Purge) (t : Table C) (index : ℕ) → index_of name t.entries ≡ Some index → is_some (current_of name t) ≡ true → loaded name code post (purged name t) ≡ record { entries = with_slots (stacked post (record { serial = t.next; code = code })) t.entries index; next = t.next + 1 }
  loaded-kept name code post t index found there =
      let instance : Instance C = record { serial = t.next; code = code } in
      let kept = with_slots purged_slots t.entries index in
      let at = Stands-index name t.entries index found in
      let stays = index_of-with_slots purged_slots name t.entries index found in
      let once = changed_at-twice (λ e. (e.0, purged_slots e.1)) (λ e. (e.0, stacked post instance e.1)) (λ e. (e.0, stacked post instance e.1)) t.entries index (name, at.slots) at.entry refl in
      ap (loaded name code post) (purged-kept name t index found there)
      ∙ (λ j. record { entries = loaded_at (stays j) name post instance kept; next = t.next + 1 })
      ∙ (λ j. record { entries = once j; next = t.next + 1 })

  -- A module with old code alone goes last

  pub stacked-last : (name : List ℕ) (es : List (Entry C)) (index : ℕ) (instance : Instance C) (at : Stands name es index) → at.slots.current ≡ None → with_slots (stacked None instance) (move_index es index (length es - 1)) (length es - 1) ≡ remove es index ++ (name, new_slots instance) ∷ []
  stacked-last name es index instance at none =
      let others = remove es index in
      (λ j. with_slots (stacked None instance) (move_index-end es index (name, at.slots) at.within at.entry j) (last_is es index at.within j))
      ∙ changed_at-end (λ e. (e.0, stacked None instance e.1)) others (name, at.slots)
      ∙ (λ j. others ++ (name, record { current = Some instance; former = none j; post = noted {C = C} None (none j) }) ∷ [])

  pub former-last : (name : List ℕ) (es : List (Entry C)) (index : ℕ) (at : Stands name es index) → former_at (move_index es index (length es - 1)) (length es - 1) ≡ at.slots.former
  former-last name es index at =
      (λ j. former_at (move_index-end es index (name, at.slots) at.within at.entry j) (last_is es index at.within j)) ∙ ap (option_and_then (λ entry. entry.1.former)) (slice_get-end (remove es index) (name, at.slots))

  pub post-last : (name : List ℕ) (es : List (Entry C)) (index : ℕ) (at : Stands name es index) → post_at (move_index es index (length es - 1)) (length es - 1) ≡ at.slots.post
  post-last name es index at =
      (λ j. post_at (move_index-end es index (name, at.slots) at.within at.entry j) (last_is es index at.within j)) ∙ ap (option_and_then (λ entry. entry.1.post)) (slice_get-end (remove es index) (name, at.slots))

  pub loaded-gone : (name : List ℕ) (code : C) (post : Option words.Purge) (t : Table C) (index : ℕ) → IsModuleTable t → index_of name t.entries ≡ Some index → is_some (current_of name t) ≡ false → loaded name code post (purged name t) ≡ record { entries = remove t.entries index ++ (name, new_slots (record { serial = t.next; code = code })) ∷ []; next = t.next + 1 }
  loaded-gone name code post t index sound found there =
      let instance : Instance C = record { serial = t.next; code = code } in
      let others = remove t.entries index in
      let at = Stands-index name t.entries index found in
      let nowhere = none_from_test (index_of name others) (some_index (bytes_eq name) others ∙ ap is_some (at.gone sound.distinct)) in
      ap (loaded name code post) (purged-gone name t index found there) ∙ (λ j. record { entries = loaded_at (nowhere j) name post instance others; next = t.next + 1 })

  pub IsModuleTable-reloaded : (name : List ℕ) (t : Table C) (index : ℕ) (instance : Instance C) → IsModuleTable t → Stands name t.entries index → instance.serial ≡ t.next → t.next < 2 ^ 64 → IsModuleTable (record { entries = remove t.entries index ++ (name, new_slots instance) ∷ []; next = t.next + 1 })
  IsModuleTable-reloaded name t index instance sound at is below =
      IsModuleTable-added (record { entries = remove t.entries index; next = t.next }) name instance (IsModuleTable-removed t index sound) (at.gone sound.distinct) is below

  pub Moved-back : (name : List ℕ) (t now : Table C) (index : ℕ) (es : List (Entry C)) (instance former : Instance C) (post : Option words.Purge) (at : Stands name t.entries index) → at.slots.current ≡ None → at.slots.former ≡ Some former → at.slots.post ≡ post → es ≡ remove t.entries index ++ (name, new_slots instance) ∷ [] → IsModuleTable t → t ≡ now → Fits (Moved index former post) (record { entries = es; next = t.next + 1 }) × (undone (Moved index former post) (record { entries = es; next = t.next + 1 }) ≡ now)
  Moved-back name t now index es instance former post at none some note is sound same =
      let others = remove t.entries index in
      let entry : Entry C = (name, new_slots instance) in
      let slots = same_slots None (Some former) post at.slots none some note in
      let long = length-append others (entry ∷ []) in
      let shorter = length-remove t.entries index at.within in
      let last : length es - 1 ≡ length others = (λ j. length (is j) - 1) ∙ last_index others entry in
      let found : slice_get es (length es - 1) ≡ Some entry = (λ j. slice_get (is j) (last j)) ∙ slice_get-end others entry in
      let taken : take (length es - 1) es ≡ others = (λ j. take (last j) (is j)) ∙ take-end others entry in
      let back : moved_back index former post (slice_get es (length es - 1)) (take (length es - 1) es) ≡ t.entries = (λ j. moved_back index former post (found j) (taken j)) ∙ (λ j. insert others index (name, slots j)) ∙ insert-remove t.entries index (name, at.slots) at.entry in
      let count : t.next + 1 - 1 ≡ t.next = omega arith in
      taken_back (Moved index former post) (record { entries = es; next = t.next + 1 }) t now (omega (arith, ap length is, at.within, long, shorter)) (λ j. record { entries = back j; next = count j }) sound same
