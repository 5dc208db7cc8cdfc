-- A module at its index: what a write there is, and what a look-up by its name finds.
use Rattle.std.proofs.Common.{◌≡◌, ℕ, zero, suc, ◌+◌, ◌-◌, ◌<◌, ◌≤◌, true, cond, List, [], ◌∷◌, ◌++◌, length, length-take-le, insert, remove, take, slice_get, Option, None, Some, option_and_then, option_map, inl, inr, refl, sym, ap, ◌∙◌, arith}
use Rattle.std.proofs.lemmas.List.{take_all, take_more}
use Rattle.std.proofs.lemmas.List.Edits.{insert_end, length-remove}
use Rattle.std.proofs.lemmas.List.Quantifiers.{position-Some}
use Rattle.std.proofs.lemmas.Map.{lookup-remove_entry}
use Rattle.std.proofs.lemmas.Option.{get_or_from_slice_get, none-some, same_Some, slice_get-map, slice_get_cases}
use Rattle.std.proofs.lemmas.Slice.Eq.{bytes_eq-Decides}
use Rattle.std.specs.Cmp.Lexicographic.{nat_list_eq_equiv}
use Rattle.std.specs.List.{IsDistinct}
use Rattle.std.specs.Map.{keys_of, values_of, lookup}
use Rattle.std.specs.Option.{option_map_or}
use Rattle.std.specs.Str.{bytes_eq}
use Rattle.indexmap.specs.IndexMap.{IndexMap, insert_entry, insert_index, move_index, set_value_at}
use Rattle.indexmap.proofs.CallerLemmas.{insert_entry-new}
use Rattle.indexmap.proofs.MapLemmas.{Found-position, Missing-position, absent_from_lookup, or_len-absent, remove_entry-first}
use Rattle.indexmap.proofs.MoveLemmas.{push_moved}
use Rattle.values.proofs.Edits.{changed_at-end, changed_at-insert, map-changed_at, slice_get-end}
use Rattle.code_server.specs.declared.modules.Instance.{Instance}
use Rattle.code_server.specs.declared.modules.Slots.{Slots}
use Rattle.code_server.specs.Modules.{Entry, index_of, with_slots}
use Rattle.code_server.specs.Indices.{former_at, old_alone, post_at}
use Rattle.code_server.specs.Undo.{moved_back, moved_last}
use Rattle.release_words.specs.declared.purge.Purge as words

module _ {C : Type 0} where
  -- a write through what the map lent at an index
  pub with_slots_from_write : (f : Slots C → Slots C) (es : List (Entry C)) (i : ℕ) (v w : Slots C) → slice_get (values_of es) i ≡ Some v → w ≡ f v → set_value_at es i w ≡ with_slots f es i
  with_slots_from_write f [] i v w at is = refl
  with_slots_from_write f (e ∷ es) zero v w at is =
      ap (λ s. (e.0, s) ∷ es) (is ∙ ap f (sym (same_Some e.1 v at)))
  with_slots_from_write f (e ∷ es) (suc i) v w at is =
      ap (λ rest. e ∷ rest) (with_slots_from_write f es i v w at is)

  -- what the map lent at an index
  pub at_lent : {A : Type 0} (h : Slots C → Option A) (es : List (Entry C)) (i : ℕ) (v : Slots C) → slice_get (values_of es) i ≡ Some v → h v ≡ option_and_then (λ entry. h entry.1) (slice_get es i)
  at_lent h [] i v at = absurd (none-some v at)
  at_lent h (e ∷ es) zero v at = ap h (sym (same_Some e.1 v at))
  at_lent h (e ∷ es) (suc i) v at = at_lent h es i v at

  -- a module that is not there, put at an index
  pub insert_from_shift : {S : Type 0} (m : IndexMap (List ℕ) (Slots C) S) (name : List ℕ) (slots : Slots C) (index : ℕ) → index ≤ length m.entries → lookup (bytes_eq name) m.entries ≡ None → move_index (insert_entry bytes_eq m.entries name slots) (insert_index bytes_eq m name) index ≡ insert m.entries index (name, slots)
  insert_from_shift m name slots index within absent =
      let last = or_len-absent (bytes_eq name) m.entries (absent_from_lookup (bytes_eq name) m.entries absent) in
      let pushed = insert_entry-new bytes_eq m name slots absent in
      (λ j. move_index (pushed j) (last j) index) ∙ push_moved m.entries (name, slots) index within

  -- the last module, moved to an index and left there with old code alone
  pub moved_back_from_move : (es : List (Entry C)) (index : ℕ) (instance : Instance C) (post : Option words.Purge) → index < length es → with_slots (λ _. old_alone instance post) (move_index es (length es - 1) index) index ≡ moved_back index instance post (slice_get es (length es - 1)) (take (length es - 1) es)
  moved_back_from_move es index instance post within =
      let last = length es - 1 in
      let others = take last es in
      elim (slice_get_cases es last).1 [
        | inl there ↦
            let entry = there.0 in
            let is : es ≡ others ++ entry ∷ [] = sym (take_all (last + 1) es (omega arith)) ∙ take_more es last entry (omega arith) ∙ ap (λ e. others ++ e ∷ []) there.3 in
            let count : length others ≡ last = length-take-le last es (omega arith) in
            let moved : move_index es last index ≡ insert others index entry = (λ j. move_index (is j) (sym count j) index) ∙ push_moved others entry index (omega arith) in
            ap (λ l. with_slots (λ _. old_alone instance post) l index) moved ∙ changed_at-insert (λ e. (e.0, old_alone instance post)) others index entry (omega arith) ∙ ap (λ o. moved_back index instance post o others) (sym there.2)
        | inr past ↦ absurd (omega (arith, past.0))
      ]

  -- what an index has
  pub entry_at : (es : List (Entry C)) (i : ℕ) → i < length es → (entry : Entry C) × (slice_get es i ≡ Some entry)
  entry_at [] i within = absurd (omega arith)
  entry_at (e ∷ es) zero within = (e, refl)
  entry_at (e ∷ es) (suc i) within = entry_at es i (omega arith)

  -- what was put in at an index is there
  pub slice_get-insert : (es : List (Entry C)) (i : ℕ) (e : Entry C) → i ≤ length es → slice_get (insert es i e) i ≡ Some e
  slice_get-insert es zero e within = refl
  slice_get-insert [] (suc i) e within = absurd (omega arith)
  slice_get-insert (d ∷ es) (suc i) e within = slice_get-insert es i e (omega arith)

  -- the instances that the last module has, lent where it was moved to
  pub lent_from_move_back : (es : List (Entry C)) (index : ℕ) (v : Slots C) → index < length es → slice_get (values_of (move_index es (length es - 1) index)) index ≡ Some v → Some v ≡ option_map (λ entry. entry.1) (slice_get es (length es - 1))
  lent_from_move_back es index v within at =
      let last = length es - 1 in
      let there = entry_at es last (omega arith) in
      let others = remove es last in
      let shorter = length-remove es last (omega arith) in
      let moved : move_index es last index ≡ insert others index there.0 = ap (λ o. option_map_or (λ e. insert others index e) o es) there.1 in
      let found = slice_get-insert others index there.0 (omega arith) in
      sym at ∙ ap (λ l. slice_get (values_of l) index) moved ∙ slice_get-map (λ e. e.1) (insert others index there.0) index ∙ ap (option_map (λ e. e.1)) (found ∙ sym there.1)

  -- a module, moved to the end

  pub last_is : (es : List (Entry C)) (index : ℕ) → index < length es → length es - 1 ≡ length (remove es index)
  last_is es index within = let shorter = length-remove es index within in omega arith

  pub move_index-end : (es : List (Entry C)) (index : ℕ) (entry : Entry C) → index < length es → slice_get es index ≡ Some entry → move_index es index (length es - 1) ≡ remove es index ++ entry ∷ []
  move_index-end es index entry within at =
      let others = remove es index in
      ap (λ o. option_map_or (λ e. insert others (length es - 1) e) o es) at ∙ ap (λ n. insert others n entry) (last_is es index within) ∙ insert_end others entry

  -- it is left there with other instances
  pub moved_last_from_move : (slots : Slots C) (es : List (Entry C)) (index : ℕ) → index < length es → with_slots (λ _. slots) (move_index es index (length es - 1)) (length es - 1) ≡ moved_last slots (slice_get es index) (remove es index)
  moved_last_from_move slots es index within =
      let there = entry_at es index within in
      let others = remove es index in
      (λ j. with_slots (λ _. slots) (move_index-end es index there.0 within there.1 j) (last_is es index within j))
      ∙ changed_at-end (λ e. (e.0, slots)) others there.0
      ∙ ap (λ o. moved_last slots o others) (sym there.1)

  -- the old code of what is lent there
  pub former_from_move : (es : List (Entry C)) (index : ℕ) (v : Slots C) → index < length es → slice_get (values_of (move_index es index (length es - 1))) (length es - 1) ≡ Some v → v.former ≡ former_at es index
  former_from_move es index v within at =
      let there = entry_at es index within in
      let others = remove es index in
      at_lent (λ slots. slots.former) (move_index es index (length es - 1)) (length es - 1) v at
      ∙ (λ j. former_at (move_index-end es index there.0 within there.1 j) (last_is es index within j))
      ∙ ap (option_and_then (λ entry. entry.1.former)) (slice_get-end others there.0 ∙ sym there.1)

  -- and how that is purged later
  pub post_from_move : (es : List (Entry C)) (index : ℕ) (v : Slots C) → index < length es → slice_get (values_of (move_index es index (length es - 1))) (length es - 1) ≡ Some v → v.post ≡ post_at es index
  post_from_move es index v within at =
      let there = entry_at es index within in
      let others = remove es index in
      at_lent (λ slots. slots.post) (move_index es index (length es - 1)) (length es - 1) v at
      ∙ (λ j. post_at (move_index-end es index there.0 within there.1 j) (last_is es index within j))
      ∙ ap (option_and_then (λ entry. entry.1.post)) (slice_get-end others there.0 ∙ sym there.1)

  -- no change of instances touches a name
  pub keys-with_slots : (f : Slots C → Slots C) (es : List (Entry C)) (i : ℕ) → keys_of (with_slots f es i) ≡ keys_of es
  keys-with_slots f es i = map-changed_at (λ e. e.0) (λ e. (e.0, f e.1)) (λ e. refl) es i

  -- a module that has no index is not there
  pub absent_from_index : (name : List ℕ) (es : List (Entry C)) → index_of name es ≡ None → lookup (bytes_eq name) es ≡ None
  absent_from_index name es none = (Missing-position (bytes_eq name) es none).value

  -- a module stands at an index
  pub record Stands (name : List ℕ) (es : List (Entry C)) (index : ℕ) : Type 0 where
    pub slots : Slots C
    pub entry : slice_get es index ≡ Some (name, slots)
    pub value : lookup (bytes_eq name) es ≡ Some slots
    pub within : index < length es
    pub gone : IsDistinct bytes_eq (keys_of es) → lookup (bytes_eq name) (remove es index) ≡ None

  pub Stands-index : (name : List ℕ) (es : List (Entry C)) (index : ℕ) → index_of name es ≡ Some index → Stands name es index
  Stands-index name es index at =
      let test = bytes_eq name in
      let found = Found-position test es index at in
      elim (slice_get_cases es index).1 [
        | inl there ↦
            let entry = there.0 in
            let key : slice_get (keys_of es) index ≡ Some entry.0 = slice_get-map (λ e. e.0) es index ∙ ap (option_map (λ e. e.0)) there.2 in
            let value : slice_get (values_of es) index ≡ Some entry.1 = slice_get-map (λ e. e.1) es index ∙ ap (option_map (λ e. e.1)) there.2 in
            let same : test entry.0 ≡ true = ap test (sym (get_or_from_slice_get (keys_of es) index entry.0 entry.0 key)) ∙ (position-Some test (keys_of es) index entry.0 at).1 in
            let is : name ≡ entry.0 = (bytes_eq-Decides name entry.0).0 same in
            record {
              slots = entry.1;
              entry = there.2 ∙ ap (λ n. Some (n, entry.1)) (sym is);
              value = found.value ∙ value;
              within = found.within;
              gone = λ distinct. ap (lookup test) (sym (remove_entry-first test es index found.first)) ∙ lookup-remove_entry nat_list_eq_equiv test (λ x y passes. nat_list_eq_equiv.congr name x y passes) name es distinct ∙ ap (λ b. cond b None (lookup test es)) (nat_list_eq_equiv.refl name);
            }
        | inr past ↦ absurd (omega (arith, found.within, past.0))
      ]
