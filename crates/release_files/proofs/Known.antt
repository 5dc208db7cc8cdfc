-- Names that are known, and one more of them.
use Rattle.std.proofs.Common.{◌≡◌, ℕ, Bool, true, false, List, [], ◌∷◌, ◌++◌, Contains, refl, sym, ap, ◌∙◌, subst, arith}
use Rattle.std.specs.Prelude.{MatchBool, not, ◌≢◌, if◌then◌else◌}
use Rattle.std.specs.List.{list_any}
use Rattle.std.specs.Str.{bytes_eq}
use Rattle.std.proofs.lemmas.List.Elements.{Contains-get_or}
use Rattle.std.proofs.lemmas.List.Folds.{Any-from_list_any, list_any_at}
use Rattle.std.proofs.lemmas.List.Quantifiers.{all_pairs_push}
use Rattle.std.proofs.lemmas.Slice.Eq.{bytes_eq-Decides}
use Rattle.release_files.specs.Releases.{AreDistinct}

stands : (names : List (List ℕ)) (name : List ℕ) → list_any (bytes_eq name) names ≡ true → Contains names name
stands names name told =
    let at = Any-from_list_any (bytes_eq name) names told in
    let same : name ≡ at.1 = (bytes_eq-Decides name at.1).0 at.4 in
    subst (Contains names) (sym same) (at.0, at.2, at.3)

told : (names : List (List ℕ)) (name : List ℕ) → Contains names name → list_any (bytes_eq name) names ≡ true
told names name is = list_any_at (bytes_eq name) names is.0 name is.1 ((bytes_eq-Decides name _).1 (sym is.2))

stands_not : (names : List (List ℕ)) (name : List ℕ) → list_any (bytes_eq name) names ≡ false → Contains names name → ⊥
stands_not names name none is = let yes = told names name is in let impossible : ⊥ = cc in impossible

-- what is known of a name by whether it is new
abbrev IsAdded : List (List ℕ) → List (List ℕ) → List ℕ → Bool → Type 0
IsAdded names new name is_new = MatchBool is_new ((Contains names name → ⊥) × (new ≡ names ++ name ∷ [])) (Contains names name × (new ≡ names))

-- a set of names, behind one that is put in
pub added : (names new : List (List ℕ)) (name : List ℕ) (is_new : Bool) → is_new ≡ not (list_any (bytes_eq name) names) → new ≡ (if list_any (bytes_eq name) names then names else names ++ name ∷ []) → IsAdded names new name is_new
added names new name is_new is keys = by (list_any (bytes_eq name) names) refl
  where
    by : (b : Bool) → list_any (bytes_eq name) names ≡ b → IsAdded names new name is_new
    by true e = subst (IsAdded names new name) (sym (is ∙ ap not e)) (stands names name e, keys ∙ ap (λ b. if b then names else names ++ name ∷ []) e)
    by false e = subst (IsAdded names new name) (sym (is ∙ ap not e)) (stands_not names name e, keys ∙ ap (λ b. if b then names else names ++ name ∷ []) e)

pub added_as : (names old new : List (List ℕ)) (key name : List ℕ) (is_new : Bool) → names ≡ old → key ≡ name → is_new ≡ not (list_any (bytes_eq key) names) → new ≡ (if list_any (bytes_eq key) names then names else names ++ key ∷ []) → IsAdded old new name is_new
added_as names old new key name is_new same named is keys =
    subst (λ ns. IsAdded ns new name is_new) same (subst (λ n. IsAdded names new n is_new) named (added names new key is_new is keys))

pub distinct_more : (names : List (List ℕ)) (name : List ℕ) → AreDistinct names → (Contains names name → ⊥) → AreDistinct (names ++ name ∷ [])
distinct_more names name distinct new =
    all_pairs_push (λ a b. a ≢ b) names name distinct (λ k d below same. new (subst (Contains names) same (Contains-get_or names k d below)))

pub none_distinct : AreDistinct []
none_distinct = λ i j d before below. absurd (let impossible : ⊥ = omega arith in impossible)
