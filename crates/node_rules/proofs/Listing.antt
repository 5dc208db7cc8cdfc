-- A release that is known stays known where another one is set unpacked; and one that is found is known by its own version.
use Rattle.std.proofs.Common.{◌≡◌, ◌+◌, ◌<◌, ℕ, suc, Bool, true, false, not, cond, List, [], ◌∷◌, ◌++◌, length, position, slice_get, Option, None, Some, IsSome, is_some, option_and_then, refl, sym, ap, subst, ◌∙◌, arith}
use Rattle.std.proofs.lemmas.Bool.{cond-true, lt-ltb, ltb-true, true≢false}
use Rattle.std.proofs.lemmas.List.Quantifiers.{position-Some}
use Rattle.std.proofs.lemmas.Option.{get_or_from_slice_get, none-some}
use Rattle.std.proofs.lemmas.Slice.Eq.{bytes_eq-Decides}
use Rattle.std.specs.List.{position_or_len}
use Rattle.std.specs.Prelude.{nat_lt}
use Rattle.std.specs.Str.{bytes_eq}
use Rattle.release_statuses.specs.Statuses.{listed, index_of, vsn_of}
use Rattle.release_statuses.specs.declared.listed.Listed.{Listed}

-- The first that passes a test is the first still where more stand behind them.

below_more : (b : Bool) (i n j m : ℕ) → cond (not b) (1 + i) 0 < suc n → (i < n → j < m) → cond (not b) (1 + j) 0 < suc m
below_more true i n j m below more = omega arith
below_more false i n j m below more = let later = more (omega (arith, below)) in omega (arith, later)

some_below : (b : Bool) (i : ℕ) → IsSome (cond b (Some i) None) → b ≡ true
some_below true i some = refl
some_below false i some = absurd (true≢false (sym some))

module _ {A : Type 0} (test : A → Bool) where
  first_more : (xs ys : List A) → position_or_len test xs < length xs → position_or_len test (xs ++ ys) < length (xs ++ ys)
  first_more [] ys below = absurd (omega (arith, below))
  first_more (x ∷ xs) ys below =
      let more = λ (first : position_or_len test xs < length xs). first_more xs ys first in
      below_more (test x) (position_or_len test xs) (length xs) (position_or_len test (xs ++ ys)) (length (xs ++ ys)) below more

  found_more : (xs ys : List A) → IsSome (position test xs) → IsSome (position test (xs ++ ys))
  found_more xs ys some =
      let i = position_or_len test xs in
      let j = position_or_len test (xs ++ ys) in
      let n = length (xs ++ ys) in
      let below = ltb-true i (length xs) (some_below (nat_lt i (length xs)) i some) in
      ap is_some (cond-true (nat_lt j n) (Some j) None (lt-ltb j n (first_more xs ys below)))

pub known_more : (vsn : List ℕ) (releases more : List Listed) → IsSome (index_of vsn releases) →
    IsSome (index_of vsn (releases ++ more))
known_more vsn releases more known = found_more (λ (it : Listed). bytes_eq vsn (vsn_of it)) releases more known

-- The release of a version has that version.
pub known_found : (vsn : List ℕ) (releases : List Listed) (it : Listed) → listed vsn releases ≡ Some it →
    IsSome (index_of (vsn_of it) releases)
known_found vsn releases it found =
    by (index_of vsn releases) refl
  where
    by : (o : Option ℕ) → index_of vsn releases ≡ o → IsSome (index_of (vsn_of it) releases)
    by None none = absurd (none-some it (sym (ap (option_and_then (slice_get releases)) none) ∙ found))
    by (Some index) at =
        let test = λ (other : Listed). bytes_eq vsn (vsn_of other) in
        let there : slice_get releases index ≡ Some it = sym (ap (option_and_then (slice_get releases)) at) ∙ found in
        let passes = (position-Some test releases index it at).1 in
        let is = get_or_from_slice_get releases index it it there in
        let same = (bytes_eq-Decides vsn (vsn_of it)).0 (sym (ap test is) ∙ passes) in
        subst (λ (v : List ℕ). IsSome (index_of v releases)) same (ap is_some at)
