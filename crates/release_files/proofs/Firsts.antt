-- The first path of a `.rel`, as paths come.
use Rattle.std.proofs.Common.{◌≡◌, ◌⊎◌, ℕ, ◌+◌, ◌≤◌, List, length, get_or, take, map, string_bytes, String, Global, [], ◌∷◌, ◌++◌, Option, None, Some, Bor, inl, inr, ◌<◌, arith, sym, ap, ◌∙◌, subst}
use Rattle.std.specs.Prelude.{MatchOption}
use Rattle.std.specs.Cmp.Lexicographic.{slice_cmp, nat_list_cmp_total}
use Rattle.std.specs.Ordering.{nat_cmp}
use Rattle.std.specs.declared.cmp.Ordering.TheVariants.{Equal}
use Rattle.std.proofs.lemmas.Cmp.{tied_itself}
use Rattle.std.proofs.lemmas.List.Elements.{Contains-append_left, Contains-push, Contains-push_cases}
use Rattle.std.proofs.lemmas.List.{map-append, take_all, take_more}
use Rattle.release_files.specs.Paths.{HasNoRel, IsBefore, IsRelName, IsRelPath}

-- the first of these, if there is one
abbrev pub IsFirstOf : List (List ℕ) → List ℕ → Option (Bor (List ℕ)) → Type 0
IsFirstOf paths vsn first = MatchOption first (HasNoRel paths vsn) (λ path. IsRelPath paths vsn path.now)

not_itself : (path : List ℕ) → IsBefore path path → ⊥
not_itself path before = let equal : slice_cmp nat_cmp path path ≡ Equal = tied_itself nat_list_cmp_total path in let impossible : ⊥ = cc in impossible

-- one path more, that is none of a `.rel`
pub passed : (paths : List (List ℕ)) (vsn path : List ℕ) (first : Option (Bor (List ℕ))) → (IsRelName vsn path → ⊥) → IsFirstOf paths vsn first → IsFirstOf (paths ++ path ∷ []) vsn first
passed paths vsn path None other none = λ p stands named.
    elim (Contains-push_cases paths path p stands) [
      | inl before ↦ none p before named
      | inr is ↦ other (subst (IsRelName vsn) (sym is) named)
    ]
passed paths vsn path (Some found) other first = record {
  stands = Contains-append_left paths (path ∷ []) found.now first.stands;
  named = first.named;
  first = λ p stands named before.
      elim (Contains-push_cases paths path p stands) [
        | inl is ↦ first.first p is named before
        | inr is ↦ other (subst (IsRelName vsn) (sym is) named)
      ];
}

-- what is known of the lesser of two
abbrev pub IsLesser : Option (Bor (List ℕ)) → List ℕ → List ℕ → Type 0
IsLesser first path lesser =
    MatchOption first (lesser ≡ path)
    (λ other. ((lesser ≡ path) × IsBefore path other.now) ⊎ ((lesser ≡ other.now) × (IsBefore path other.now → ⊥)))

first_alone : (paths : List (List ℕ)) (vsn path : List ℕ) → IsRelName vsn path → HasNoRel paths vsn → IsRelPath (paths ++ path ∷ []) vsn path
first_alone paths vsn path named none = record {
  stands = Contains-push paths path;
  named = named;
  first = λ p stands other before.
      elim (Contains-push_cases paths path p stands) [
        | inl is ↦ none p is other
        | inr is ↦ not_itself path (subst (λ q. IsBefore q path) (sym is) before)
      ];
}

first_new : (paths : List (List ℕ)) (vsn path old : List ℕ) → IsRelName vsn path → IsRelPath paths vsn old → IsBefore path old → IsRelPath (paths ++ path ∷ []) vsn path
first_new paths vsn path old named first lesser = record {
  stands = Contains-push paths path;
  named = named;
  first = λ p stands other before.
      elim (Contains-push_cases paths path p stands) [
        | inl is ↦ first.first p is other (nat_list_cmp_total.trans p path old before lesser)
        | inr is ↦ not_itself path (subst (λ q. IsBefore q path) (sym is) before)
      ];
}

first_old : (paths : List (List ℕ)) (vsn path old : List ℕ) → IsRelPath paths vsn old → (IsBefore path old → ⊥) → IsRelPath (paths ++ path ∷ []) vsn old
first_old paths vsn path old first greater = record {
  stands = Contains-append_left paths (path ∷ []) old first.stands;
  named = first.named;
  first = λ p stands other before.
      elim (Contains-push_cases paths path p stands) [
        | inl is ↦ first.first p is other before
        | inr is ↦ greater (subst (λ q. IsBefore q old) (sym is) before)
      ];
}

-- one path more, that is of a `.rel`
pub taken : (paths : List (List ℕ)) (vsn path : List ℕ) (first : Option (Bor (List ℕ))) (lesser : List ℕ) → IsRelName vsn path → IsLesser first path lesser → IsFirstOf paths vsn first → IsRelPath (paths ++ path ∷ []) vsn lesser
taken paths vsn path None lesser named is none = subst (IsRelPath (paths ++ path ∷ []) vsn) (sym is) (first_alone paths vsn path named none)
taken paths vsn path (Some found) lesser named is first =
    elim is [
      | inl new ↦ subst (IsRelPath (paths ++ path ∷ []) vsn) (sym new.0) (first_new paths vsn path found.now named first new.1)
      | inr old ↦ subst (IsRelPath (paths ++ path ∷ []) vsn) (sym old.0) (first_old paths vsn path found.now first old.1)
    ]

-- no path at all
pub none_yet : (vsn : List ℕ) → HasNoRel [] vsn
none_yet vsn = λ path stands named. absurd (no_index stands.0 stands.1)
  where
    no_index : (k : ℕ) → k < 0 → ⊥
    no_index k below = absurd (omega arith)

-- Paths as texts that a program holds

abbrev bytes_of : List (String Global) → List (List ℕ)
bytes_of paths = map (λ path. string_bytes path) paths

one_more : (paths : List (String Global)) (i : ℕ) (path : String Global) → i < length paths → path ≡ get_or paths i path → bytes_of (take (i + 1) paths) ≡ bytes_of (take i paths) ++ string_bytes path ∷ []
one_more paths i path below is =
    ap bytes_of (take_more paths i path below ∙ ap (λ p. take i paths ++ p ∷ []) (sym is)) ∙ map-append (λ p. string_bytes p) (take i paths) (path ∷ [])

pub turn_passed : (paths : List (String Global)) (vsn : List ℕ) (i : ℕ) (path : String Global) (first : Option (Bor (List ℕ))) → i < length paths → path ≡ get_or paths i path → (IsRelName vsn (string_bytes path) → ⊥) → IsFirstOf (bytes_of (take i paths)) vsn first → IsFirstOf (bytes_of (take (i + 1) paths)) vsn first
turn_passed paths vsn i path first below is other so_far =
    subst (λ ps. IsFirstOf ps vsn first) (sym (one_more paths i path below is)) (passed (bytes_of (take i paths)) vsn (string_bytes path) first other so_far)

pub turn_taken : (paths : List (String Global)) (vsn : List ℕ) (i : ℕ) (path : String Global) (first : Option (Bor (List ℕ))) (lesser : Bor (List ℕ)) → i < length paths → path ≡ get_or paths i path → IsRelName vsn (string_bytes path) → IsLesser first (string_bytes path) lesser.now → IsFirstOf (bytes_of (take i paths)) vsn first → IsFirstOf (bytes_of (take (i + 1) paths)) vsn (Some lesser)
turn_taken paths vsn i path first lesser below is named least so_far =
    subst (λ ps. IsRelPath ps vsn lesser.now) (sym (one_more paths i path below is)) (taken (bytes_of (take i paths)) vsn (string_bytes path) first lesser.now named least so_far)

pub turns_end : (paths : List (String Global)) (vsn : List ℕ) (i : ℕ) (first : Option (Bor (List ℕ))) → length paths ≤ i → IsFirstOf (bytes_of (take i paths)) vsn first → IsFirstOf (bytes_of paths) vsn first
turns_end paths vsn i first over so_far = subst (λ ps. IsFirstOf (bytes_of ps) vsn first) (take_all i paths over) so_far
