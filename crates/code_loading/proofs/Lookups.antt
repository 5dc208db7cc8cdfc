-- What is found by a key once the entry at an index is changed or taken out, and once one is put last.
use Rattle.std.proofs.Common.{◌≡◌, ℕ, zero, suc, Bool, true, false, List, [], ◌∷◌, ◌++◌, slice_get, remove, Option, Some, refl, sym, ◌∙◌}
use Rattle.std.proofs.lemmas.Map.Entries.{lookup_head, lookup_tail}
use Rattle.std.proofs.lemmas.Option.{none-some}
use Rattle.std.specs.Map.{lookup}
use Rattle.values.specs.Edits.{changed_at}

module _ {K V : Type 0} (test : K → Bool) where
  -- the same is found, or the entry at the index was found
  pub data IsFound (es : List (K × V)) (index : ℕ) (after : Option V) (now : V → Option V) : Type 0 where
    elsewhere : after ≡ lookup test es → IsFound es index after now
    there : (e : K × V) → slice_get es index ≡ Some e → lookup test es ≡ Some e.1 → after ≡ now e.1 → IsFound es index after now

  behind : (x : K × V) (es : List (K × V)) (index : ℕ) (after here : Option V) (now : V → Option V) → test x.0 ≡ false → here ≡ after → IsFound es index after now → IsFound (x ∷ es) (suc index) here now
  behind x es index after here now other is (elsewhere same) = elsewhere (is ∙ same ∙ sym (lookup_tail test x es other))
  behind x es index after here now other is (there e at found so) = there e at (lookup_tail test x es other ∙ found) (is ∙ so)

  -- the entry at an index is changed

  changed_first : (f : V → V) (x : K × V) (es : List (K × V)) (b : Bool) → test x.0 ≡ b → IsFound (x ∷ es) 0 (lookup test ((x.0, f x.1) ∷ es)) (λ v. Some (f v))
  changed_first f x es true is =
      there x refl (lookup_head test x es is) (lookup_head test (x.0, f x.1) es is)
  changed_first f x es false is = elsewhere (lookup_tail test (x.0, f x.1) es is ∙ sym (lookup_tail test x es is))

  changed_later : (f : V → V) (x : K × V) (es : List (K × V)) (index : ℕ) (b : Bool) → test x.0 ≡ b → IsFound es index (lookup test (changed_at (λ e. (e.0, f e.1)) es index)) (λ v. Some (f v)) → IsFound (x ∷ es) (suc index) (lookup test (x ∷ changed_at (λ e. (e.0, f e.1)) es index)) (λ v. Some (f v))
  changed_later f x es index true is others =
      elsewhere (lookup_head test x (changed_at (λ e. (e.0, f e.1)) es index) is ∙ sym (lookup_head test x es is))
  changed_later f x es index false is others =
      behind x es index (lookup test (changed_at (λ e. (e.0, f e.1)) es index)) (lookup test (x ∷ changed_at (λ e. (e.0, f e.1)) es index)) (λ v. Some (f v)) is (lookup_tail test x (changed_at (λ e. (e.0, f e.1)) es index) is) others

  pub found_changed : (f : V → V) (es : List (K × V)) (index : ℕ) → IsFound es index (lookup test (changed_at (λ e. (e.0, f e.1)) es index)) (λ v. Some (f v))
  found_changed f [] index = elsewhere refl
  found_changed f (x ∷ es) zero = changed_first f x es (test x.0) refl
  found_changed f (x ∷ es) (suc index) = changed_later f x es index (test x.0) refl (found_changed f es index)

  -- it is taken out: what is found then was found before, or the entry was found that is gone

  pub data IsLeft (es : List (K × V)) (index : ℕ) (after : Option V) : Type 0 where
    stays : after ≡ lookup test es → IsLeft es index after
    goes : (e : K × V) → slice_get es index ≡ Some e → lookup test es ≡ Some e.1 → IsLeft es index after

  left_behind : (x : K × V) (es : List (K × V)) (index : ℕ) (after here : Option V) → test x.0 ≡ false → here ≡ after → IsLeft es index after → IsLeft (x ∷ es) (suc index) here
  left_behind x es index after here other is (stays same) = stays (is ∙ same ∙ sym (lookup_tail test x es other))
  left_behind x es index after here other is (goes e at found) = goes e at (lookup_tail test x es other ∙ found)

  left_first : (x : K × V) (es : List (K × V)) (b : Bool) → test x.0 ≡ b → IsLeft (x ∷ es) 0 (lookup test es)
  left_first x es true is = goes x refl (lookup_head test x es is)
  left_first x es false is = stays (sym (lookup_tail test x es is))

  left_later : (x : K × V) (es : List (K × V)) (index : ℕ) (b : Bool) → test x.0 ≡ b → IsLeft es index (lookup test (remove es index)) → IsLeft (x ∷ es) (suc index) (lookup test (x ∷ remove es index))
  left_later x es index true is others = stays (lookup_head test x (remove es index) is ∙ sym (lookup_head test x es is))
  left_later x es index false is others =
      left_behind x es index (lookup test (remove es index)) (lookup test (x ∷ remove es index)) is (lookup_tail test x (remove es index) is) others

  pub found_left : (es : List (K × V)) (index : ℕ) → IsLeft es index (lookup test (remove es index))
  found_left [] zero = stays refl
  found_left [] (suc index) = stays refl
  found_left (x ∷ es) zero = left_first x es (test x.0) refl
  found_left (x ∷ es) (suc index) = left_later x es index (test x.0) refl (found_left es index)

  -- one more is put last

  in_front : (e : K × V) (es : List (K × V)) (x : K × V) (v : V) (b : Bool) → test e.0 ≡ b → lookup test (e ∷ es) ≡ Some v → (lookup test es ≡ Some v → lookup test (es ++ x ∷ []) ≡ Some v) → lookup test (e ∷ (es ++ x ∷ [])) ≡ Some v
  in_front e es x v true head is others = lookup_head test e (es ++ x ∷ []) head ∙ sym (lookup_head test e es head) ∙ is
  in_front e es x v false tail is others =
      lookup_tail test e (es ++ x ∷ []) tail ∙ others (sym (lookup_tail test e es tail) ∙ is)

  pub found_in_front : (es : List (K × V)) (x : K × V) (v : V) → lookup test es ≡ Some v → lookup test (es ++ x ∷ []) ≡ Some v
  found_in_front [] x v is = absurd (none-some v is)
  found_in_front (e ∷ es) x v is = in_front e es x v (test e.0) refl is (found_in_front es x v)
