-- Findings that are added to a list, step by step.
use Rattle.std.proofs.Common.{◌≡◌, ◌≢◌, ℕ, ◌+◌, ◌<◌, ◌≤◌, List, [], ◌∷◌, ◌++◌, Contains, ◌⊎◌, ◌↔◌, inl, inr, Some, length, get_or}
use Rattle.std.proofs.Common.{refl, sym, subst, arith}
use Rattle.std.proofs.lemmas.Bool.{cases_lt}
use Rattle.std.proofs.lemmas.List.Elements.{Contains-append_left, Contains-get_or, Contains-push, Contains-push_cases}
use Rattle.std.proofs.lemmas.List.Quantifiers.{all_pairs_push}
use Rattle.std.proofs.lemmas.Option.{slice_get_read, slice_get_within}
use Rattle.std.specs.List.{slice_get}
use Rattle.upgrade_review.specs.Findings.{AreDifferent}
use Rattle.upgrade_review.specs.Gathering.{Adds, FromEach}

-- nothing is added if there is nothing of a kind
pub adds_nothing : {F : Type 0} (P : F → Type 0) (found : List F) → ((f : F) → P f → ⊥) → Adds P found found
adds_nothing P found never = record {
  all = λ f. ((λ there. inl there), (λ both. elim both [ inl there ↦ there | inr p ↦ absurd (never f p) ]));
  once = λ different. different;
}

-- what is added of a kind is added of each equivalent kind
pub adds_alike : {F : Type 0} (P Q : F → Type 0) (old new : List F) → ((f : F) → P f → Q f) → ((f : F) → Q f → P f) →
    Adds P old new → Adds Q old new
adds_alike P Q old new to from adds = record {
  all = λ f. (
    (λ there. elim ((adds.all f).0 there) [ inl before ↦ inl before | inr p ↦ inr (to f p) ]),
    (λ both. elim both [ inl before ↦ (adds.all f).1 (inl before) | inr q ↦ (adds.all f).1 (inr (from f q)) ]),
  );
  once = adds.once;
}

-- first one kind, and then another
pub adds_both : {F : Type 0} (P Q : F → Type 0) (old between new : List F) → Adds P old between → Adds Q between new →
    Adds (λ f. P f ⊎ Q f) old new
adds_both P Q old between new first second = record {
  all = λ f. (
    (λ there. elim ((second.all f).0 there) [
      | inl before ↦ elim ((first.all f).0 before) [ inl there ↦ inl there | inr p ↦ inr (inl p) ]
      | inr q ↦ inr (inr q)
    ]),
    (λ both. elim both [
      | inl before ↦ (second.all f).1 (inl ((first.all f).1 (inl before)))
      | inr either ↦ elim either [ inl p ↦ (second.all f).1 (inl ((first.all f).1 (inr p))) | inr q ↦ (second.all f).1 (inr q) ]
    ]),
  );
  once = λ different. second.once (first.once different);
}

-- a finding that isn't there is appended
pub adds_new : {F : Type 0} (finding : F) (found : List F) → (Contains found finding → ⊥) →
    Adds (λ f. f ≡ finding) found (found ++ finding ∷ [])
adds_new finding found absent = record {
  all = λ f. (
    (λ there. elim (Contains-push_cases found finding f there) [ inl before ↦ inl before | inr same ↦ inr (sym same) ]),
    (λ both. elim both [
      | inl before ↦ Contains-append_left found (finding ∷ []) f before
      | inr same ↦ subst (Contains (found ++ finding ∷ [])) (sym same) (Contains-push found finding)
    ]),
  );
  once = λ different. all_pairs_push (λ one another. one ≢ another) found finding different
      (λ k d within same. absent (subst (Contains found) same (Contains-get_or found k d within)));
}

-- a finding that is there stays
pub adds_known : {F : Type 0} (finding : F) (found : List F) → Contains found finding → Adds (λ f. f ≡ finding) found found
adds_known finding found there = record {
  all = λ f. (
    (λ before. inl before),
    (λ both. elim both [ inl before ↦ before | inr same ↦ subst (Contains found) (sym same) there ]),
  );
  once = λ different. different;
}

-- there is nothing among no findings, and none of them is there twice
none_there : {F : Type 0} (f : F) → Contains [] f → ⊥
none_there f there = omega (arith, there.1)

pub none_twice : {F : Type 0} → AreDifferent {F = F} []
none_twice i j d below within = absurd (omega arith)

-- what is added to the empty list is all that is there
pub from_nothing : {F : Type 0} (P : F → Type 0) (found : List F) → Adds P [] found → (f : F) → Contains found f ↔ P f
from_nothing P found adds f = (
  (λ there. elim ((adds.all f).0 there) [ inl none ↦ absurd (none_there f none) | inr p ↦ p ]),
  (λ p. (adds.all f).1 (inr p)),
)

-- a finding about one of the first items of a list
abbrev pub UpTo : {X F : Type 0} → (ℕ → X → F → Type 0) → List X → ℕ → F → Type 0
UpTo {X} {F} R xs n f = (i : ℕ) × (x : X) × (i < n) × (slice_get xs i ≡ Some x) × R i x f

module _ {X F : Type 0} (R : ℕ → X → F → Type 0) (xs : List X) where
  -- before the first item nothing is added
  pub begins : (found : List F) → Adds (UpTo R xs 0) found found
  begins found = adds_nothing (UpTo R xs 0) found (λ f none. omega (arith, none.2))

  more : (n : ℕ) (x : X) (f : F) → slice_get xs n ≡ Some x → UpTo R xs n f ⊎ R n x f → UpTo R xs (n + 1) f
  more n x f is both = elim both [ inl w ↦ (w.0, w.1, omega (arith, w.2), w.3, w.4) | inr here ↦ (n, x, omega arith, is, here) ]

  less : (n : ℕ) (x : X) (f : F) → slice_get xs n ≡ Some x → UpTo R xs (n + 1) f → UpTo R xs n f ⊎ R n x f
  less n x f is w = elim (cases_lt w.0 n) [
    | inl below ↦ inl (w.0, w.1, below, w.3, w.4)
    | inr above ↦ let at : w.0 ≡ n = omega (arith, w.2) in
        let there : slice_get xs n ≡ Some w.1 = subst (λ i. slice_get xs i ≡ Some w.1) at w.3 in
        let item : w.1 ≡ x = cc in
        inr (subst (λ y. R n y f) item (subst (λ i. R i w.1 f) at w.4))
  ]

  -- the next item
  pub goes_on : (n : ℕ) (x : X) (old between new : List F) → n < length xs → x ≡ get_or xs n x →
      Adds (UpTo R xs n) old between → Adds (R n x) between new → Adds (UpTo R xs (n + 1)) old new
  goes_on n x old between new within item before here =
      let is : slice_get xs n ≡ Some x = slice_get_read xs (length xs) n x refl within item in
      adds_alike (λ f. UpTo R xs n f ⊎ R n x f) (UpTo R xs (n + 1)) old new (λ f both. more n x f is both)
      (λ f w. less n x f is w) (adds_both (UpTo R xs n) (R n x) old between new before here)

  -- after the last item all items are done
  pub ends : (n : ℕ) (old new : List F) → length xs ≤ n → Adds (UpTo R xs n) old new → Adds (FromEach R xs) old new
  ends n old new all = adds_alike (UpTo R xs n) (FromEach R xs) old new
      (λ f w. (w.0, w.1, w.3, w.4))
      (λ f w. (w.0, w.1, (let within : w.0 < length xs = slice_get_within xs w.0 w.1 w.2 in omega arith), w.2, w.3))
