-- A change that has purged old code, taken back: what makes it again.
use Rattle.std.proofs.Common.{◌≡◌, ℕ, ◌+◌, ◌-◌, ◌<◌, List, [], ◌∷◌, ◌++◌, length, take, insert, remove, slice_get, Option, None, Some, option_and_then, option_map, refl, sym, ap, subst, ◌∙◌, length-take-le, arith}
use Rattle.std.proofs.lemmas.List.{take_all, take_more}
use Rattle.std.proofs.lemmas.Option.{get_or_from_slice_get, same_Some}
use Rattle.values.proofs.Edits.{All-slice_get, changed_at-back, remove-insert, slice_get-changed_at}
use Rattle.code_server.specs.declared.modules.Instance.{Instance}
use Rattle.code_server.specs.declared.modules.Slots.{Slots}
use Rattle.code_server.specs.declared.undo.Redo.{Redo}
use Rattle.code_server.specs.declared.undo.Redo.TheVariants.{Replace, Demote, Move, Purge, Remove}
use Rattle.code_server.specs.declared.undo.ModulesUndo.{ModulesUndo}
use Rattle.code_server.specs.declared.undo.ModulesUndo.TheVariants.{Replaced, Demoted, Moved, Purged, Removed}
use Rattle.code_server.specs.Modules.{Entry, Table, IsModuleTable, NotesOldCode, noted, with_slots}
use Rattle.code_server.specs.Indices.{current_at, former_at, old_alone, post_at}
use Rattle.code_server.specs.Undo.{Fits, Redoes, moved_back, moved_last, replaced, swapped_back, unpurged, with_old}
use Rattle.code_server.proofs.Changes.{same_slots}
use Rattle.code_server.proofs.Standing.{entry_at, slice_get-insert}
use Rattle.release_words.specs.declared.purge.Purge as words

module _ {C : Type 0} where
  -- of the table by its fields, and of the undo by its variant, is of both
  pub again_of : (redo : Redo C) (undo u : ModulesUndo C) (t now before : Table C) → undo ≡ u → t ≡ now → Fits undo now → (Fits u t → Redoes redo u t before) → Redoes redo undo now before
  again_of redo undo u t now before is same fits by =
      let here : Fits u t = subst (λ n. Fits u n) (sym same) (subst (λ v. Fits v now) is fits) in
      subst (λ v. Redoes redo v now before) (sym is) (subst (λ n. Redoes redo u n before) same (by here))

  -- a change of one module's instances that put old code in, and the change that puts this code's index right again
  changed-again : (f g : Slots C → Slots C) (es before : List (Entry C)) (index : ℕ) (entry : Entry C) → slice_get es index ≡ Some entry → g (f entry.1) ≡ entry.1 → before ≡ with_slots f es index → with_slots g before index ≡ es
  changed-again f g es before index entry at back is =
      ap (λ l. with_slots g l index) is ∙ changed_at-back (λ e. (e.0, f e.1)) (λ e. (e.0, g e.1)) es index entry at (ap (λ s. (entry.0, s)) back)

  former-changed : (f : Slots C → Slots C) (es before : List (Entry C)) (index : ℕ) (entry : Entry C) → slice_get es index ≡ Some entry → before ≡ with_slots f es index → former_at before index ≡ (f entry.1).former
  former-changed f es before index entry at is =
      ap (λ l. former_at l index) is ∙ ap (option_and_then (λ e. e.1.former)) (slice_get-changed_at (λ e. (e.0, f e.1)) es index entry at)

  post-changed : (f : Slots C → Slots C) (es before : List (Entry C)) (index : ℕ) (entry : Entry C) → slice_get es index ≡ Some entry → before ≡ with_slots f es index → post_at before index ≡ (f entry.1).post
  post-changed f es before index entry at is =
      ap (λ l. post_at l index) is ∙ ap (option_and_then (λ e. e.1.post)) (slice_get-changed_at (λ e. (e.0, f e.1)) es index entry at)

  -- how old code is purged later, put down again once that code is current again
  note_kept : (note : Option words.Purge) (s : Slots C) → (s.former ≡ None → s.post ≡ None) → note ≡ s.post → noted note s.former ≡ s.post
  note_kept note s old is =
      by s.former refl
    where
      by : (o : Option (Instance C)) → s.former ≡ o → noted note o ≡ s.post
      by None none = sym (old none)
      by (Some instance) some = is

  -- the instances that come back where what was current is old again
  stacked-again : (instance : Instance C) (post : Option words.Purge) (gone : Option (Instance C)) (note : Option words.Purge) (t : Table C) (es : List (Entry C)) (index : ℕ) (entry : Entry C) → IsModuleTable t → slice_get t.entries index ≡ Some entry → es ≡ with_slots (swapped_back instance post) t.entries index → gone ≡ current_at t.entries index → note ≡ post_at t.entries index → with_slots (replaced gone note) es index ≡ t.entries
  stacked-again instance post gone note t es index entry sound at is went later =
      let lost = went ∙ ap (option_and_then (λ e. e.1.current)) at in
      let note_was = later ∙ ap (option_and_then (λ e. e.1.post)) at in
      let old = All-slice_get (λ e. NotesOldCode e) t.entries index entry sound.notes at in
      let slots = same_slots gone entry.1.former (noted note entry.1.former) entry.1 (sym lost) refl (sym (note_kept note entry.1 old note_was)) in
      changed-again (swapped_back instance post) (replaced gone note) t.entries es index entry at slots is

  pub Replaced-again : (index : ℕ) (instance : Instance C) (post : Option words.Purge) (gone : Option (Instance C)) (note : Option words.Purge) (t : Table C) (es : List (Entry C)) (next : ℕ) → IsModuleTable t → es ≡ with_slots (swapped_back instance post) t.entries index → gone ≡ current_at t.entries index → note ≡ post_at t.entries index → next + 1 ≡ t.next → Fits (Replaced index instance post) t → Redoes (Replace index gone note) (Replaced index instance post) t (record { entries = es; next = next })
  Replaced-again index instance post gone note t es next sound is went later count fits =
      let there = entry_at t.entries index fits.placed in
      let entries = stacked-again instance post gone note t es index there.0 sound there.1 is went later in
      let former = former-changed (swapped_back instance post) t.entries es index there.0 there.1 is in
      let how = post-changed (swapped_back instance post) t.entries es index there.0 there.1 is in
      let less : t.next - 1 ≡ next = omega (arith, count) in
      record {
        again = λ j. record { entries = entries j; next = count j };
        hands = λ j. option_map (λ i. Replaced index i (how j)) (former j);
        fits = fits;
        back = λ j. record { entries = sym is j; next = less j };
        sound = sound;
      }

  pub Demoted-again : (index : ℕ) (instance : Instance C) (post : Option words.Purge) (gone : Option (Instance C)) (note : Option words.Purge) (t : Table C) (es : List (Entry C)) → IsModuleTable t → es ≡ with_slots (swapped_back instance post) t.entries index → gone ≡ current_at t.entries index → note ≡ post_at t.entries index → Fits (Demoted index instance post) t → Redoes (Demote index gone note) (Demoted index instance post) t (record { entries = es; next = t.next })
  Demoted-again index instance post gone note t es sound is went later fits =
      let there = entry_at t.entries index fits.placed in
      let entries = stacked-again instance post gone note t es index there.0 sound there.1 is went later in
      let former = former-changed (swapped_back instance post) t.entries es index there.0 there.1 is in
      let how = post-changed (swapped_back instance post) t.entries es index there.0 there.1 is in
      record {
        again = λ j. record { entries = entries j; next = t.next };
        hands = λ j. option_map (λ i. Demoted index i (how j)) (former j);
        fits = fits;
        back = λ j. record { entries = sym is j; next = t.next };
        sound = sound;
      }

  pub Purged-again : (index : ℕ) (instance : Instance C) (post : Option words.Purge) (gone : Option (Instance C)) (note : Option words.Purge) (t : Table C) (es : List (Entry C)) → IsModuleTable t → es ≡ with_slots (unpurged instance post) t.entries index → gone ≡ former_at t.entries index → note ≡ post_at t.entries index → Fits (Purged index instance post) t → Redoes (Purge index gone note) (Purged index instance post) t (record { entries = es; next = t.next })
  Purged-again index instance post gone note t es sound is went later fits =
      let there = entry_at t.entries index fits.placed in
      let lost = went ∙ ap (option_and_then (λ e. e.1.former)) there.1 in
      let note_was = later ∙ ap (option_and_then (λ e. e.1.post)) there.1 in
      let slots = same_slots there.0.1.current gone note there.0.1 refl (sym lost) (sym note_was) in
      let entries = changed-again (unpurged instance post) (with_old gone note) t.entries es index there.0 there.1 slots is in
      let former = former-changed (unpurged instance post) t.entries es index there.0 there.1 is in
      let how = post-changed (unpurged instance post) t.entries es index there.0 there.1 is in
      record {
        again = λ j. record { entries = entries j; next = t.next };
        hands = λ j. option_map (λ i. Purged index i (how j)) (former j);
        fits = fits;
        back = λ j. record { entries = sym is j; next = t.next };
        sound = sound;
      }

  pub Removed-again : (index : ℕ) (name : List ℕ) (instance : Instance C) (post : Option words.Purge) (t : Table C) (es : List (Entry C)) → IsModuleTable t → es ≡ insert t.entries index (name, old_alone instance post) → Fits (Removed index name instance post) t → Redoes (Remove index) (Removed index name instance post) t (record { entries = es; next = t.next })
  Removed-again index name instance post t es sound is fits =
      let entry : Entry C = (name, old_alone instance post) in
      let found : slice_get es index ≡ Some entry = ap (λ l. slice_get l index) is ∙ slice_get-insert t.entries index entry fits.placed.0 in
      let entries : remove es index ≡ t.entries = ap (λ l. remove l index) is ∙ remove-insert t.entries index entry fits.placed.0 in
      record {
        again = λ j. record { entries = entries j; next = t.next };
        hands = ap (option_and_then (λ e. option_map (λ i. Removed index e.0 i e.1.post) e.1.former)) found;
        fits = fits;
        back = λ j. record { entries = sym is j; next = t.next };
        sound = sound;
      }

  -- the last entry, and those before it
  ends : (es : List (Entry C)) (entry : Entry C) → 0 < length es → slice_get es (length es - 1) ≡ Some entry → es ≡ take (length es - 1) es ++ entry ∷ []
  ends es entry some at =
      let last = length es - 1 in
      sym (take_all (last + 1) es (omega arith)) ∙ take_more es last entry (omega arith) ∙ ap (λ e. take last es ++ e ∷ []) (get_or_from_slice_get es last entry entry at)

  pub Moved-again : (index : ℕ) (instance : Instance C) (post : Option words.Purge) (gone : Slots C) (t : Table C) (es : List (Entry C)) (next : ℕ) → IsModuleTable t → es ≡ moved_back index instance post (slice_get t.entries (length t.entries - 1)) (take (length t.entries - 1) t.entries) → Some gone ≡ option_map (λ e. e.1) (slice_get t.entries (length t.entries - 1)) → next + 1 ≡ t.next → Fits (Moved index instance post) t → Redoes (Move index gone) (Moved index instance post) t (record { entries = es; next = next })
  Moved-again index instance post gone t es next sound is went count fits =
      let within : index < length t.entries = fits.placed in
      let last = length t.entries - 1 in
      let others = take last t.entries in
      let there = entry_at t.entries last (omega arith) in
      let entry : Entry C = (there.0.0, old_alone instance post) in
      let long : length others ≡ last = length-take-le last t.entries (omega arith) in
      let lost : gone ≡ there.0.1 = same_Some gone there.0.1 (went ∙ ap (option_map (λ e. e.1)) there.1) in
      let put : es ≡ insert others index entry = is ∙ ap (λ o. moved_back index instance post o others) there.1 in
      let found : slice_get es index ≡ Some entry = ap (λ l. slice_get l index) put ∙ slice_get-insert others index entry (omega arith) in
      let rest : remove es index ≡ others = ap (λ l. remove l index) put ∙ remove-insert others index entry (omega arith) in
      let entries : moved_last gone (slice_get es index) (remove es index) ≡ t.entries = (λ j. moved_last gone (found j) (rest j)) ∙ ap (λ s. others ++ (there.0.0, s) ∷ []) lost ∙ sym (ends t.entries there.0 (omega arith) there.1) in
      let less : t.next - 1 ≡ next = omega (arith, count) in
      record {
        again = λ j. record { entries = entries j; next = count j };
        hands = ap (λ o. option_map (λ i. Moved index i (option_and_then (λ e. e.1.post) o)) (option_and_then (λ e. e.1.former) o)) found;
        fits = fits;
        back = λ j. record { entries = sym is j; next = less j };
        sound = sound;
      }
