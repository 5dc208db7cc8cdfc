-- Indices in an order: what is found there, and what an edit keeps.
use Rattle.std.proofs.Common.{◌≡◌, ◌<◌, ◌≤◌, ◌+◌, ℕ, zero, suc, Bool, true, false, List, [], ◌∷◌, ◌++◌, None, Some, refl, sym, ap, ◌∙◌, subst, arith, length, get_or, cond, position, ltb, lt-ltb, le-ltb, zero-add, ◌-◌, length-append}
use Rattle.std.specs.Prelude.{All, IsPermutation}
use Rattle.std.specs.List.{Contains, insert, position_or_len, range_with_len, remove}
use Rattle.std.specs.List.Sorted.{IsPartitionPoint, IsPartitionedBy}
use Rattle.std.specs.Ordering.{is_eq, is_lt, nat_cmp, ordering_then, ordering_reverse}
use Rattle.std.specs.Cmp.{IsTotalOrder}
use Rattle.std.specs.declared.cmp.Ordering.{Ordering}
use Rattle.std.specs.declared.cmp.Ordering.TheVariants.{Less, Equal, Greater}
use Rattle.std.proofs.lemmas.Cmp.{ranked, tied_itself, alike_right, nat_cmp_total, on_total, then_total}
use Rattle.std.proofs.lemmas.List.Elements.{All-cons, All-head, All-tail}
use Rattle.std.proofs.lemmas.Bool.{cases_lt}
use Rattle.std.proofs.lemmas.List.{get_or-append-add, get_or_append_left}
use Rattle.std.proofs.lemmas.List.FromFn.{get_or-range_with_len, length-range_with_len}
use Rattle.std.proofs.lemmas.List.Sorted.{All-permutation, Contains-permutation, IsPermutation-cons, IsPermutation-remove, IsPermutation-to_front, IsPermutation-trans}
use Rattle.std.proofs.lemmas.List.Sums.{position_or_len_is}
use mathlib.Core.Logic.{⊎_elim}
use Rattle.values.proofs.Edits.{All-insert, All-remove}
use Rattle.app_table.proofs.Options.{false_true}
use Rattle.app_table.specs.Ordered.{IsOrderOf, Rises, by_key}

pub is_less : (r : Ordering) → is_lt r ≡ true → r ≡ Less
is_less Less h = refl
is_less Equal h = absurd (false_true h)
is_less Greater h = absurd (false_true h)

pub false_unless : (b : Bool) → (b ≡ true → ⊥) → b ≡ false
false_unless true never = absurd (never refl)
false_unless false never = refl

module _ (order : ℕ → ℕ → Ordering) where
  pub rises_tail : (xs : List ℕ) (x : ℕ) → Rises order (x ∷ xs) → Rises order xs
  rises_tail xs x r = r.1

  -- of two indices the first stands before the second
  pub rises_get : (xs : List ℕ) (i j d : ℕ) → i < j → j < length xs → Rises order xs → is_lt (order (get_or xs i d) (get_or xs j d)) ≡ true
  rises_get [] i j d below within r = absurd (omega arith)
  rises_get (x ∷ xs) i zero d below within r = absurd (omega arith)
  rises_get (x ∷ xs) zero (suc j) d below within r = r.0 j d (omega arith)
  rises_get (x ∷ xs) (suc i) (suc j) d below within r = rises_get xs i j d (omega arith) (omega arith) r.1

  -- a test that passes at an index passes at those before it
  pub rises_parted : (passes : ℕ → Bool) → ((a b : ℕ) → is_lt (order a b) ≡ true → passes b ≡ true → passes a ≡ true) → (xs : List ℕ) → Rises order xs → IsPartitionedBy passes xs
  rises_parted passes down [] r i j d upto within h = absurd (omega arith)
  rises_parted passes down (x ∷ xs) r zero zero d upto within h = h
  rises_parted passes down (x ∷ xs) r zero (suc j) d upto within h = down x (get_or xs j d) (r.0 j d (omega arith)) h
  rises_parted passes down (x ∷ xs) r (suc i) zero d upto within h = absurd (omega arith)
  rises_parted passes down (x ∷ xs) r (suc i) (suc j) d upto within h = rises_parted passes down xs r.1 i j d (omega arith) (omega arith) h

  pub rises_insert : (xs : List ℕ) (j p : ℕ) → Rises order xs → ((k d : ℕ) → k < j → k < length xs → is_lt (order (get_or xs k d) p) ≡ true) → ((k d : ℕ) → j ≤ k → k < length xs → is_lt (order p (get_or xs k d)) ≡ true) → Rises order (insert xs j p)
  rises_insert xs zero p r low high = (λ k d within. high k d (omega arith) within, r)
  rises_insert [] (suc j) p r low high = (λ k d within. absurd (omega arith), tt)
  rises_insert (x ∷ xs) (suc j) p r low high =
      (All-insert (λ b. is_lt (order x b) ≡ true) xs j p r.0 (low 0 0 (omega arith) (omega arith)), rises_insert xs j p r.1 (λ k d below within. low (suc k) d (omega arith) (omega arith)) (λ k d above within. high (suc k) d (omega arith) (omega arith)))

  pub rises_remove : (xs : List ℕ) (i : ℕ) → Rises order xs → Rises order (remove xs i)
  rises_remove [] zero r = tt
  rises_remove [] (suc i) r = tt
  rises_remove (x ∷ xs) zero r = r.1
  rises_remove (x ∷ xs) (suc i) r = (All-remove (λ b. is_lt (order x b) ≡ true) xs i r.0, rises_remove xs i r.1)

  module _ (total : IsTotalOrder order) where
    never_before_itself : (a b : ℕ) → is_lt (order a b) ≡ true → a ≡ b → ⊥
    never_before_itself a b before same =
        false_true (sym (ap is_lt (subst (λ c. order a c ≡ Equal) same (tied_itself total a))) ∙ before)

    -- no other index is the one that is taken out
    pub others : (xs : List ℕ) (i p : ℕ) → Rises order xs → i < length xs → get_or xs i p ≡ p → All (λ e. e ≡ p → ⊥) (remove xs i)
    others [] i p r within at = absurd (omega arith)
    others (x ∷ xs) zero p r within at = λ k d below same. never_before_itself x (get_or xs k d) (r.0 k d below) (at ∙ sym same)
    others (x ∷ xs) (suc i) p r within at =
        All-cons (λ e. e ≡ p → ⊥) x (remove xs i) (λ same. never_before_itself x (get_or xs i p) (r.0 i p (omega arith)) (same ∙ sym at)) (others xs i p r.1 (omega arith) at)

    pub before_trans : (p a b : ℕ) → is_lt (order a b) ≡ true → is_lt (order b p) ≡ true → is_lt (order a p) ≡ true
    before_trans p a b first second = ap is_lt (total.trans a b p (is_less (order a b) first) (is_less (order b p) second))

  -- another order of the same indices
  pub rises_alike : (other : ℕ → ℕ → Ordering) (p : ℕ) → ((a b : ℕ) → (a ≡ p → ⊥) → (b ≡ p → ⊥) → order a b ≡ other a b) → (xs : List ℕ) → All (λ e. e ≡ p → ⊥) xs → Rises order xs → Rises other xs
  rises_alike other p alike [] differ r = tt
  rises_alike other p alike (x ∷ xs) differ r =
      let later = All-tail (λ e. e ≡ p → ⊥) x xs differ in
      (λ k d within. subst (λ o. is_lt o ≡ true) (alike x (get_or xs k d) (All-head (λ e. e ≡ p → ⊥) x xs differ) (later k d within)) (r.0 k d within), rises_alike other p alike xs later r.1)

  -- the same order
  pub rises_same : (other : ℕ → ℕ → Ordering) → ((a b : ℕ) → order a b ≡ other a b) → (xs : List ℕ) → Rises order xs → Rises other xs
  rises_same other alike [] r = tt
  rises_same other alike (x ∷ xs) r =
      (λ k d within. subst (λ o. is_lt o ≡ true) (alike x (get_or xs k d)) (r.0 k d within), rises_same other alike xs r.1)

  -- where an index is put in that isn't there

  before_other : (a p : ℕ) (r : Ordering) → order a p ≡ r → ((a b : ℕ) → order a b ≡ Equal → a ≡ b) → IsTotalOrder order → is_lt r ≡ false → (a ≡ p → ⊥) → is_lt (order p a) ≡ true
  before_other a p Less is same total below differs = absurd (false_true (sym below))
  before_other a p Equal is same total below differs = absurd (differs (same a p is))
  before_other a p Greater is same total below differs = ap is_lt (total.antisymm p a ∙ ap ordering_reverse is)

  pub put : IsTotalOrder order → ((a b : ℕ) → order a b ≡ Equal → a ≡ b) → (xs : List ℕ) (at p : ℕ) → Rises order xs → All (λ e. e ≡ p → ⊥) xs → IsPartitionPoint (λ e. is_lt (order e p) ≡ true) (λ e. is_lt (order e p) ≡ false) xs at → Rises order (insert xs at p)
  put total same xs at p r differ point =
      rises_insert xs at p r (λ k d below within. point.0 k d (omega arith) below) (λ k d above within. before_other (get_or xs k d) p (order (get_or xs k d) p) refl same total (point.1 k d above within) (differ k d within))

  pub stands : (count : ℕ) (xs : List ℕ) → IsOrderOf order count xs → (j : ℕ) → j < count → Contains xs j
  stands count xs o j below =
      Contains-permutation (range_with_len 0 count) xs j o.once (j, omega (arith, length-range_with_len 0 count), get_or-range_with_len 0 count j j below ∙ zero-add j)

  -- where an index stands

  pub index_at : IsTotalOrder order → (count : ℕ) (xs : List ℕ) (at p : ℕ) → IsOrderOf order count xs → p < count → IsPartitionPoint (λ e. is_lt (order e p) ≡ true) (λ e. is_lt (order e p) ≡ false) xs at → (at < length xs) × (get_or xs at p ≡ p)
  index_at total count xs at p o below point =
      let (k, within, is) = stands count xs o p below in
      ⊎_elim
      (λ (lower : k < at). absurd (never_before_itself total (get_or xs k p) p (point.0 k p (omega arith) lower) is))
      (λ (upto : at ≤ k). ⊎_elim
      (λ (lower : at < k). absurd (false_true (sym (point.1 at p (omega arith) (omega arith)) ∙ subst (λ e. is_lt (order (get_or xs at p) e) ≡ true) is (rises_get xs at k p lower within o.rises))))
      (λ (over : k ≤ at). let same : k ≡ at = omega arith in (omega arith, subst (λ i. get_or xs i p ≡ p) same is))
      (cases_lt at k))
      (cases_lt k at)

  pub take_once : (count : ℕ) (xs : List ℕ) (at p : ℕ) → at < length xs → get_or xs at p ≡ p → IsPermutation xs (p ∷ remove xs at)
  take_once count xs at p within is = IsPermutation-remove xs at p within (sym is)

-- ---- parts of an order

module _ (order : ℕ → ℕ → Ordering) where
  pub rises_front : (xs ys : List ℕ) → Rises order (xs ++ ys) → Rises order xs
  rises_front [] ys r = tt
  rises_front (x ∷ xs) ys r =
      (λ k d within. subst (λ e. is_lt (order x e) ≡ true) (get_or_append_left xs ys d k within) (r.0 k d (omega (arith, length-append xs ys))), rises_front xs ys r.1)

  pub rises_back : (xs ys : List ℕ) → Rises order (xs ++ ys) → Rises order ys
  rises_back [] ys r = r
  rises_back (x ∷ xs) ys r = rises_back xs ys r.1

  pub point_front : IsTotalOrder order → (xs ys : List ℕ) (i p : ℕ) → Rises order (xs ++ ys) → i < length xs → IsPartitionPoint (λ e. is_lt (order e p) ≡ true) (λ e. is_lt (order e p) ≡ false) xs i → IsPartitionPoint (λ e. is_lt (order e p) ≡ true) (λ e. is_lt (order e p) ≡ false) (xs ++ ys) i
  point_front total xs ys i p r within point = (
    λ k d from below. subst (λ e. is_lt (order e p) ≡ true) (sym (get_or_append_left xs ys d k (omega arith))) (point.0 k d from below),
    λ k d from below. false_unless (is_lt (order (get_or (xs ++ ys) k d) p)) (λ yes.
        let first = rises_parted order (λ e. is_lt (order e p)) (before_trans order total p) (xs ++ ys) r i k d from below yes in
        false_true (sym (point.1 i d (omega arith) within) ∙ subst (λ e. is_lt (order e p) ≡ true) (get_or_append_left xs ys d i within) first)),
  )

  back_at : (xs ys : List ℕ) (k d : ℕ) → length xs ≤ k → get_or (xs ++ ys) k d ≡ get_or ys (k - length xs) d
  back_at xs ys k d over =
      let e : k ≡ length xs + (k - length xs) = omega arith in
      ap (λ n. get_or (xs ++ ys) n d) e ∙ get_or-append-add xs ys (k - length xs) d

  pub point_back : (xs ys : List ℕ) (c n p : ℕ) → ((k d : ℕ) → k < length xs → is_lt (order (get_or xs k d) p) ≡ true) → IsPartitionPoint (λ e. is_lt (order e p) ≡ true) (λ e. is_lt (order e p) ≡ false) ys c → n ≡ length xs + c → IsPartitionPoint (λ e. is_lt (order e p) ≡ true) (λ e. is_lt (order e p) ≡ false) (xs ++ ys) n
  point_back xs ys c n p front point is = (
    λ k d from below. ⊎_elim
        (λ (inside : k < length xs). subst (λ e. is_lt (order e p) ≡ true) (sym (get_or_append_left xs ys d k inside)) (front k d inside))
        (λ (over : length xs ≤ k). subst (λ e. is_lt (order e p) ≡ true) (sym (back_at xs ys k d over)) (point.0 (k - length xs) d (omega arith) (omega arith)))
        (cases_lt k (length xs)),
    λ k d from below.
        let over : length xs ≤ k = omega arith in
        subst (λ e. is_lt (order e p) ≡ false) (sym (back_at xs ys k d over)) (point.1 (k - length xs) d (omega arith) (omega (arith, length-append xs ys))),
  )

-- ---- one index more

range_more : (a n : ℕ) → range_with_len a (suc n) ≡ range_with_len a n ++ (a + n) ∷ []
range_more a zero = ap (λ b. b ∷ []) (let e : a ≡ a + 0 = omega arith in e)
range_more a (suc n) =
    ap (λ xs. a ∷ xs) (range_more (a + 1) n ∙ ap (λ b. range_with_len (a + 1) n ++ b ∷ []) (let e : (a + 1) + n ≡ a + suc n = omega arith in e))

pub range_next : (count : ℕ) → range_with_len 0 (count + 1) ≡ range_with_len 0 count ++ count ∷ []
range_next count =
    ap (range_with_len 0) (let e : count + 1 ≡ suc count = omega arith in e) ∙ range_more 0 count ∙ ap (λ b. range_with_len 0 count ++ b ∷ []) (zero-add count)

pub fresh : (count : ℕ) (xs : List ℕ) → IsPermutation (range_with_len 0 count) xs → All (λ e. e ≡ count → ⊥) xs
fresh count xs once =
    All-permutation (λ e. e ≡ count → ⊥) (range_with_len 0 count) xs once (λ k d within same.
    let below : k < count = omega (arith, length-range_with_len 0 count, within) in
    let e = get_or-range_with_len 0 count k d below in
    omega arith)

pub one_more : (count : ℕ) (xs ys : List ℕ) → IsPermutation (range_with_len 0 count) xs → IsPermutation (count ∷ xs) ys → IsPermutation (range_with_len 0 (count + 1)) ys
one_more count xs ys once more =
    let counted = range_with_len 0 count in
    let front = IsPermutation-trans (range_with_len 0 count ++ count ∷ []) (count ∷ range_with_len 0 count) (count ∷ xs) (IsPermutation-to_front (range_with_len 0 count) count) (IsPermutation-cons count (range_with_len 0 count) xs once) in
    subst (λ zs. IsPermutation zs ys) (sym (range_next count)) (IsPermutation-trans (range_with_len 0 count ++ count ∷ []) (count ∷ xs) ys front more)

pub less_is : (a b : ℕ) → is_lt (nat_cmp a b) ≡ true → a < b
less_is a b h = ranked a b Less (sym (is_less (nat_cmp a b) h))

pub is_equal : (r : Ordering) → is_eq r ≡ true → r ≡ Equal
is_equal Less h = absurd (false_true h)
is_equal Equal h = refl
is_equal Greater h = absurd (false_true h)

module _ {K : Type 0} {R : K → K → Ordering} (o : IsTotalOrder R) (key : ℕ → K) where
  pub by_key_total : IsTotalOrder (by_key R key)
  by_key_total = then_total (on_total key o) nat_cmp_total

  same_by : (a b : ℕ) (r : Ordering) → ordering_then r (nat_cmp a b) ≡ Equal → a ≡ b
  same_by a b Less h = absurd (let no : Less ≡ Equal = h in cc)
  same_by a b Equal h = ranked a b Equal (sym h)
  same_by a b Greater h = absurd (let no : Greater ≡ Equal = h in cc)

  pub by_key_same : (a b : ℕ) → by_key R key a b ≡ Equal → a ≡ b
  by_key_same a b h = same_by a b (R (key a) (key b)) h

  module _ (w : K) where
    down_by : (a b : ℕ) (r : Ordering) → R (key a) (key b) ≡ r → is_lt (ordering_then r (nat_cmp a b)) ≡ true → is_lt (R (key b) w) ≡ true → is_lt (R (key a) w) ≡ true
    down_by a b Less is h g = ap is_lt (o.trans (key a) (key b) w is (is_less (R (key b) w) g))
    down_by a b Equal is h g = ap is_lt (o.congr (key a) (key b) w is) ∙ g
    down_by a b Greater is h g = absurd (false_true h)

    -- what is below a key is below it at each index before
    pub down : (a b : ℕ) → is_lt (by_key R key a b) ≡ true → is_lt (R (key b) w) ≡ true → is_lt (R (key a) w) ≡ true
    down a b h g = down_by a b (R (key a) (key b)) refl h g

    ahead_by : (a b : ℕ) (r : Ordering) → R (key a) (key b) ≡ r → is_lt (ordering_then r (nat_cmp a b)) ≡ true → is_lt (R (key a) w) ≡ false → is_eq (R (key b) w) ≡ true → (is_eq (R (key a) w) ≡ true) × (a ≤ b)
    ahead_by a b Less is h low hit = absurd (false_true (sym low ∙ ap is_lt (sym (alike_right o (key b) w (key a) (is_equal (R (key b) w) hit)) ∙ is)))
    ahead_by a b Equal is h low hit = (ap is_eq (o.congr (key a) (key b) w is) ∙ hit, let less : a < b = less_is a b h in omega arith)
    ahead_by a b Greater is h low hit = absurd (false_true h)

    module _ (count : ℕ) (indices : List ℕ) (at : ℕ) (order : IsOrderOf (by_key R key) count indices) (point : IsPartitionPoint (λ e. is_lt (R (key e) w) ≡ true) (λ e. is_lt (R (key e) w) ≡ false) indices at) where
      not_below : (j : ℕ) → is_eq (R (key j) w) ≡ true → is_lt (R (key j) w) ≡ true → ⊥
      not_below j hit low = false_true (sym (ap is_lt (is_equal (R (key j) w) hit)) ∙ low)

      -- the first that isn't below a key has it, where an index has it
      pub leads : (j : ℕ) → j < count → is_eq (R (key j) w) ≡ true → (at < length indices) × (is_eq (R (key (get_or indices at j)) w) ≡ true) × (get_or indices at j ≤ j)
      leads j below hit =
          let (k, within, is) = stands (by_key R key) count indices order j below in
          ⊎_elim
          (λ (lower : k < at). absurd (not_below j hit (subst (λ e. is_lt (R (key e) w) ≡ true) is (point.0 k j (omega arith) lower))))
          (λ (upto : at ≤ k). ⊎_elim
          (λ (lower : at < k).
          let first = get_or indices at j in
          let before = subst (λ e. is_lt (by_key R key (get_or indices at j) e) ≡ true) is (rises_get (by_key R key) indices at k j lower within order.rises) in
          let both = ahead_by (get_or indices at j) j (R (key (get_or indices at j)) (key j)) refl before (point.1 at j (omega arith) (omega arith)) hit in
          (omega arith, both.0, both.1))
          (λ (over : k ≤ at).
          let same : k ≡ at = omega arith in
          let there : get_or indices at j ≡ j = subst (λ i. get_or indices i j ≡ j) same is in
          (omega arith, subst (λ e. is_eq (R (key e) w) ≡ true) (sym there) hit, omega arith))
          (cases_lt at k))
          (cases_lt k at)

-- ---- the first child that is so

module _ {A : Type 0} (is : A → Bool) where
  pub position_here : (xs : List A) (n : ℕ) → position_or_len is xs ≡ n → n < length xs → position is xs ≡ Some n
  position_here xs n e within = subst (λ m. cond (ltb m (length xs)) (Some m) None ≡ Some n) (sym e) (ap (λ b. cond b (Some n) None) (lt-ltb n (length xs) within))

  pub position_nowhere : (xs : List A) → ((k : ℕ) (d : A) → k < length xs → is (get_or xs k d) ≡ false) → position is xs ≡ None
  position_nowhere [] none = refl
  position_nowhere (x ∷ xs) none =
      let e = position_or_len_is is (x ∷ xs) (length (x ∷ xs)) x (omega arith) (λ k below. none k x below) (λ (within : length (x ∷ xs) < length (x ∷ xs)). absurd (omega arith)) in
      subst (λ m. cond (ltb m (length (x ∷ xs))) (Some m) None ≡ None) (sym e) (ap (λ b. cond b (Some (length (x ∷ xs))) None) (le-ltb (length (x ∷ xs)) (length (x ∷ xs)) (omega arith)))

module _ {A K : Type 0} {R : K → K → Ordering} (o : IsTotalOrder R) (key : ℕ → K) (w : K) (is : A → Bool) (row : List A) (indices : List ℕ) (at : ℕ) (tells : (j : ℕ) (d : A) → j < length row → is (get_or row j d) ≡ is_eq (R (key j) w)) (order : IsOrderOf (by_key R key) (length row) indices) (point : IsPartitionPoint (λ e. is_lt (R (key e) w) ≡ true) (λ e. is_lt (R (key e) w) ≡ false) indices at) where
  pub hit : (p : ℕ) (c : A) → ((d : ℕ) → p ≡ get_or indices at d) → p < length row → c ≡ get_or row p c → is c ≡ true → position is row ≡ Some p
  hit p c here within there so =
      position_here is row p (position_or_len_is is row p c (omega arith) (λ k below. false_unless (is (get_or row k c)) (λ yes.
      let found = leads o key w (length row) indices at order point k (omega arith) (sym (tells k c (omega arith)) ∙ yes) in
      let same : p ≡ get_or indices at k = here k in
      omega arith)) (λ inside. subst (λ x. is x ≡ true) there so)) within

  pub miss : ((j : ℕ) → at < length indices → is_eq (R (key (get_or indices at j)) w) ≡ true → ⊥) → position is row ≡ None
  miss away =
      position_nowhere is row (λ k d below. false_unless (is (get_or row k d)) (λ yes.
      let found = leads o key w (length row) indices at order point k below (sym (tells k d below) ∙ yes) in
      away k found.0 found.1))
