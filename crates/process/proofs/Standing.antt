-- A module at its index.
use Rattle.std.proofs.Common.{◌≡◌, ℕ, zero, suc, true, false, Bool, cond, List, [], ◌∷◌, slice_get, Option, None, Some, option_and_then, refl, sym, ap, ◌∙◌}
use Rattle.std.proofs.lemmas.Bool.{false≢true}
use Rattle.std.proofs.lemmas.Option.{none-some, same_Some}
use Rattle.std.specs.Cmp.Lexicographic.{nat_list_eq_equiv}
use Rattle.std.specs.List.{IsDistinct, AllByRecursion}
use Rattle.std.specs.Map.{keys_of, lookup}
use Rattle.std.specs.Str.{bytes_eq}
use Rattle.code_server.specs.declared.modules.Instance.{Instance}
use Rattle.code_server.specs.declared.modules.Slots.{Slots}
use Rattle.code_server.specs.Modules.{Entry, Table, current_of, index_of}
use Rattle.code_server.specs.Indices.{current_at}
use Rattle.code_server.proofs.Changes.{current_of-slots, current_at-slots}
use Rattle.code_server.proofs.Standing.{Stands-index, absent_from_index}

module _ {C : Type 0} where
  pub current-at_index : (name : List ℕ) (t : Table C) (index : ℕ) → index_of name t.entries ≡ Some index → current_of name t ≡ current_at t.entries index
  current-at_index name t index at =
      let stands = Stands-index name t.entries index at in
      current_of-slots name t index stands ∙ sym (current_at-slots name t.entries index stands)

  placed_by : (name : List ℕ) (t : Table C) (i : Instance C) (o : Option ℕ) → index_of name t.entries ≡ o → current_of name t ≡ Some i → (index : ℕ) × (o ≡ Some index)
  placed_by name t i None is at =
      let none : current_of name t ≡ None = ap (λ (o : Option (Slots C)). option_and_then (λ slots. slots.current) o) (absent_from_index name t.entries is) in
      absurd (none-some i (sym none ∙ at))
  placed_by name t i (Some index) is at = (index, refl)

  -- a module with current code stands at an index
  pub placed : (name : List ℕ) (t : Table C) (i : Instance C) → current_of name t ≡ Some i → (index : ℕ) × (index_of name t.entries ≡ Some index)
  placed name t i at = placed_by name t i (index_of name t.entries) refl at

  -- the entry at the index of a name has this name
  pub name_at : (name : List ℕ) (es : List (Entry C)) (index : ℕ) (entry : Entry C) → index_of name es ≡ Some index → slice_get es index ≡ Some entry → name ≡ entry.0
  name_at name es index entry at is =
      let stands = Stands-index name es index at in
      ap (λ e. e.0) (same_Some (name, stands.slots) entry (sym stands.entry ∙ is))

  apart_at : (name : List ℕ) (es : List (Entry C)) (i : ℕ) (entry : Entry C) → AllByRecursion (λ n. bytes_eq name n ≡ false) (keys_of es) → slice_get es i ≡ Some entry → bytes_eq name entry.0 ≡ false
  apart_at name [] i entry apart at = absurd (none-some entry at)
  apart_at name (e ∷ es) zero entry apart at = ap (λ x. bytes_eq name x.0) (sym (same_Some e entry at)) ∙ apart.0
  apart_at name (e ∷ es) (suc i) entry apart at = apart_at name es i entry apart.1 at

  -- where names differ, one entry has a name
  one_index : (es : List (Entry C)) (i j : ℕ) (a b : Entry C) → IsDistinct bytes_eq (keys_of es) → slice_get es i ≡ Some a → slice_get es j ≡ Some b → a.0 ≡ b.0 → i ≡ j
  unfolding IsDistinct
  one_index [] i j a b distinct at_a at_b same = absurd (none-some a at_a)
  one_index (e ∷ es) zero zero a b distinct at_a at_b same = refl
  one_index (e ∷ es) zero (suc j) a b distinct at_a at_b same =
      let is : e.0 ≡ b.0 = ap (λ x. x.0) (same_Some e a at_a) ∙ same in
      absurd (false≢true (sym (apart_at e.0 es j b distinct.0 at_b) ∙ ap (bytes_eq e.0) (sym is) ∙ nat_list_eq_equiv.refl e.0))
  one_index (e ∷ es) (suc i) zero a b distinct at_a at_b same =
      let is : e.0 ≡ a.0 = ap (λ x. x.0) (same_Some e b at_b) ∙ sym same in
      absurd (false≢true (sym (apart_at e.0 es i a distinct.0 at_a) ∙ ap (bytes_eq e.0) (sym is) ∙ nat_list_eq_equiv.refl e.0))
  one_index (e ∷ es) (suc i) (suc j) a b distinct at_a at_b same = ap suc (one_index es i j a b distinct.1 at_a at_b same)

  passed_over : (test : List ℕ → Bool) (e : Entry C) (es : List (Entry C)) (b : Bool) → test e.0 ≡ b → cond b (Some e.1) (lookup test es) ≡ None → (b ≡ false) × (lookup test es ≡ None)
  passed_over test e es true is none = absurd (none-some e.1 (sym none))
  passed_over test e es false is none = (refl, none)

  none_there : (test : List ℕ → Bool) (es : List (Entry C)) (i : ℕ) (entry : Entry C) → lookup test es ≡ None → slice_get es i ≡ Some entry → test entry.0 ≡ false
  none_there test [] i entry none at = absurd (none-some entry at)
  none_there test (e ∷ es) zero entry none at =
      ap (λ x. test x.0) (sym (same_Some e entry at)) ∙ (passed_over test e es (test e.0) refl none).0
  none_there test (e ∷ es) (suc i) entry none at = none_there test es i entry (passed_over test e es (test e.0) refl none).1 at

  index_by : (es : List (Entry C)) (i : ℕ) (entry : Entry C) (o : Option ℕ) → IsDistinct bytes_eq (keys_of es) → slice_get es i ≡ Some entry → index_of entry.0 es ≡ o → o ≡ Some i
  index_by es i entry None distinct at is =
      absurd (false≢true (sym (none_there (bytes_eq entry.0) es i entry (absent_from_index entry.0 es is) at) ∙ nat_list_eq_equiv.refl entry.0))
  index_by es i entry (Some j) distinct at is =
      let stands = Stands-index entry.0 es j is in
      ap Some (one_index es j i (entry.0, stands.slots) entry distinct stands.entry at refl)

  -- where names differ, an entry's name has its index
  pub index-of_entry : (es : List (Entry C)) (i : ℕ) (entry : Entry C) → IsDistinct bytes_eq (keys_of es) → slice_get es i ≡ Some entry → index_of entry.0 es ≡ Some i
  index-of_entry es i entry distinct at = index_by es i entry (index_of entry.0 es) distinct at refl
