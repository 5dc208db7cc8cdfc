-- Where a module is purged its old code is gone, and that of every other stays.
use Rattle.std.proofs.Common.{◌≡◌, ℕ, zero, suc, Bool, true, false, List, [], ◌∷◌, is_some, slice_get, remove, Option, None, Some, option_and_then, refl, sym, ap, ◌∙◌}
use Rattle.std.proofs.lemmas.Map.Entries.{lookup_head, lookup_tail}
use Rattle.std.proofs.lemmas.Option.{none-some, same_Some}
use Rattle.std.proofs.lemmas.Slice.Eq.{bytes_eq-Decides}
use Rattle.std.specs.Map.{lookup}
use Rattle.std.specs.Str.{bytes_eq}
use Rattle.values.specs.Edits.{changed_at}
use Rattle.values.proofs.Edits.{changed_at-same, slice_get-changed_at}
use Rattle.erl_ir.specs.Module.{Forms}
use Rattle.code_server.proofs.Changes.{codeless, current_of-slots, none_from_test, none_later, old_of-slots, purged-absent, purged-gone, purged-kept, same_slots}
use Rattle.code_server.proofs.Reloads.{index_of-with_slots}
use Rattle.code_server.proofs.Standing.{Stands-index, absent_from_index}
use Rattle.code_server.specs.Modules.{Entry, IsModuleTable, Table as Loaded, current_of, old_of, index_of, post_of, purged, purged_slots, slots_of, with_slots}
use Rattle.code_server.specs.declared.modules.Slots.{Slots}

-- what is found by a key where the entry at an index, which has another, is changed or taken out

module _ {K V : Type 0} (test : K → Bool) where
  first_differs : (x : K × V) (es fs : List (K × V)) (b : Bool) → test x.0 ≡ b → lookup test es ≡ lookup test fs → lookup test (x ∷ es) ≡ lookup test (x ∷ fs)
  first_differs x es fs true is same = lookup_head test x es is ∙ sym (lookup_head test x fs is)
  first_differs x es fs false is same = lookup_tail test x es is ∙ same ∙ sym (lookup_tail test x fs is)

  other_changed : (f : V → V) (es : List (K × V)) (index : ℕ) (e : K × V) → slice_get es index ≡ Some e → test e.0 ≡ false → lookup test (changed_at (λ e. (e.0, f e.1)) es index) ≡ lookup test es
  other_changed f [] index e at other = refl
  other_changed f (x ∷ es) zero e at other =
      let is : test x.0 ≡ false = ap (λ y. test y.0) (same_Some x e at) ∙ other in
      lookup_tail test (x.0, f x.1) es is ∙ sym (lookup_tail test x es is)
  other_changed f (x ∷ es) (suc index) e at other =
      first_differs x (changed_at (λ e. (e.0, f e.1)) es index) es (test x.0) refl (other_changed f es index e at other)

  other_left : (es : List (K × V)) (index : ℕ) (e : K × V) → slice_get es index ≡ Some e → test e.0 ≡ false → lookup test (remove es index) ≡ lookup test es
  other_left [] index e at other = absurd (none-some e at)
  other_left (x ∷ es) zero e at other =
      sym (lookup_tail test x es (ap (λ y. test y.0) (same_Some x e at) ∙ other))
  other_left (x ∷ es) (suc index) e at other =
      first_differs x (remove es index) es (test x.0) refl (other_left es index e at other)

-- another module has what it had

module _ (n k : List ℕ) (m : Loaded Forms) (other : bytes_eq k n ≡ false) where
  other_at : (index : ℕ) (b : Bool) → index_of n m.entries ≡ Some index → is_some (current_of n m) ≡ b → slots_of k (purged n m) ≡ slots_of k m
  other_at index true at is =
      let here = Stands-index n m.entries index at in
      ap (slots_of k) (purged-kept n m index at is) ∙ other_changed (bytes_eq k) purged_slots m.entries index (n, here.slots) here.entry other
  other_at index false at is =
      let here = Stands-index n m.entries index at in
      ap (slots_of k) (purged-gone n m index at is) ∙ other_left (bytes_eq k) m.entries index (n, here.slots) here.entry other

  other_by : (o : Option ℕ) → index_of n m.entries ≡ o → slots_of k (purged n m) ≡ slots_of k m
  other_by None at = ap (slots_of k) (purged-absent n m at)
  other_by (Some index) at = other_at index (is_some (current_of n m)) at refl

  other_purged : old_of k (purged n m) ≡ old_of k m
  other_purged = ap (option_and_then (λ slots. slots.former)) (other_by (index_of n m.entries) refl)

  pub other_noted : post_of k (purged n m) ≡ post_of k m
  other_noted = ap (option_and_then (λ slots. slots.post)) (other_by (index_of n m.entries) refl)

-- it has no old code, and nothing that is purged later, and where it had no old code all is as it was

module _ (n : List ℕ) (m : Loaded Forms) (sound : IsModuleTable m) where
  own_at : {A : Type 0} (part : Slots Forms → Option A) → ((s : Slots Forms) → part (purged_slots s) ≡ None) → (index : ℕ) (b : Bool) → index_of n m.entries ≡ Some index → is_some (current_of n m) ≡ b → option_and_then part (slots_of n (purged n m)) ≡ None
  own_at part clears index true at is =
      let kept : Loaded Forms = record { entries = with_slots purged_slots m.entries index; next = m.next } in
      let here = Stands-index n m.entries index at in
      let there = Stands-index n kept.entries index (index_of-with_slots purged_slots n m.entries index at) in
      let now : slice_get kept.entries index ≡ Some (n, purged_slots here.slots) = slice_get-changed_at (λ (e : Entry Forms). (e.0, purged_slots e.1)) m.entries index (n, here.slots) here.entry in
      let same : (n, there.slots) ≡ (n, purged_slots here.slots) = same_Some (n, there.slots) (n, purged_slots here.slots) (sym there.entry ∙ now) in
      ap (λ x. option_and_then part (slots_of n x)) (purged-kept n m index at is) ∙ ap (option_and_then part) there.value ∙ ap (λ (e : Entry Forms). part e.1) same ∙ clears here.slots
  own_at part clears index false at is =
      ap (λ x. option_and_then part (slots_of n x)) (purged-gone n m index at is) ∙ ap (option_and_then part) ((Stands-index n m.entries index at).gone sound.distinct)

  own_by : {A : Type 0} (part : Slots Forms → Option A) → ((s : Slots Forms) → part (purged_slots s) ≡ None) → (o : Option ℕ) → index_of n m.entries ≡ o → option_and_then part (slots_of n (purged n m)) ≡ None
  own_by part clears None at =
      ap (λ x. option_and_then part (slots_of n x)) (purged-absent n m at) ∙ ap (option_and_then part) (absent_from_index n m.entries at)
  own_by part clears (Some index) at = own_at part clears index (is_some (current_of n m)) at refl

  pub own_purged : old_of n (purged n m) ≡ None
  own_purged = own_by (λ s. s.former) (λ s. refl) (index_of n m.entries) refl

  pub own_noted : post_of n (purged n m) ≡ None
  own_noted = own_by (λ s. s.post) (λ s. refl) (index_of n m.entries) refl

  nothing_at : (index : ℕ) (b : Bool) → index_of n m.entries ≡ Some index → is_some (current_of n m) ≡ b → old_of n m ≡ None → purged n m ≡ m
  nothing_at index true at is none =
      let here = Stands-index n m.entries index at in
      let no_old = sym (old_of-slots n m index here) ∙ none in
      let slots = same_slots here.slots.current None None here.slots refl no_old (none_later n m index here sound no_old) in
      let entries = changed_at-same (λ (e : Entry Forms). (e.0, purged_slots e.1)) m.entries index (n, here.slots) here.entry (ap (λ s. (n, s)) slots) in
      purged-kept n m index at is ∙ (λ j. record { entries = entries j; next = m.next })
  nothing_at index false at is none =
      let here = Stands-index n m.entries index at in
      absurd (codeless n m index here sound (sym (current_of-slots n m index here) ∙ none_from_test (current_of n m) is) (sym (old_of-slots n m index here) ∙ none))

  nothing_by : (o : Option ℕ) → index_of n m.entries ≡ o → old_of n m ≡ None → purged n m ≡ m
  nothing_by None at none = purged-absent n m at
  nothing_by (Some index) at none = nothing_at index (is_some (current_of n m)) at refl none

  pub nothing_purged : old_of n m ≡ None → purged n m ≡ m
  nothing_purged none = nothing_by (index_of n m.entries) refl none

-- Each module has the old code that it had, or it is the one that was purged, and has none.

pub data IsEmptied (n k : List ℕ) (m : Loaded Forms) : Type 0 where
  other : old_of k (purged n m) ≡ old_of k m → IsEmptied n k m
  own : n ≡ k → old_of k (purged n m) ≡ None → IsEmptied n k m

emptied_by : (n k : List ℕ) (m : Loaded Forms) → IsModuleTable m → (b : Bool) → bytes_eq k n ≡ b → IsEmptied n k m
emptied_by n k m sound true is =
    let same : k ≡ n = (bytes_eq-Decides k n).0 is in
    own (sym same) (ap (λ x. old_of x (purged n m)) same ∙ own_purged n m sound)
emptied_by n k m sound false is = other (other_purged n k m is)

pub emptied : (n k : List ℕ) (m : Loaded Forms) → IsModuleTable m → IsEmptied n k m
emptied n k m sound = emptied_by n k m sound (bytes_eq k n) refl
