-- Open calls of several processes, in one order.
use Rattle.std.proofs.Common.{◌≡◌, ℕ, suc, Bool, true, false, cond, ◌||◌, All, List, [], ◌∷◌, Option, None, Some, refl, sym, ap, subst, ◌∙◌, arith}
use Rattle.std.specs.BTreeSet.{insert_key}
use Rattle.std.specs.List.{list_any}
use Rattle.std.specs.Ordering.{match_ordering}
use Rattle.std.specs.declared.cmp.Ordering.TheVariants.{Less, Equal, Greater}
use Rattle.std.proofs.lemmas.Bool.Decides.{nat_tests}
use Rattle.std.proofs.lemmas.List.Elements.{All-head, All-tail}
use Rattle.process_index.proofs.OpenCalls.{AreInOrder-with_call, call_cmp, has-with_call, insert_key-with_call, same_call}
use Rattle.process_index.specs.Calls.{AreInOrder, has, is_before, is_same}
use Rattle.process_index.specs.Standing.{alive_from}
use Rattle.process_index.specs.declared.calls.Call.{Call}
use Rattle.process_store.specs.Indexed.{is_asked_by}
use Rattle.process_store.specs.declared.living.ProcessEntry.{ProcessEntry}

-- the order tells which call is meant, and which comes first
compared : (c d : Call) → call_cmp c d ≡ cond (is_same c d) Equal (cond (is_before d c) Greater Less)
compared c d = grind (arith, nat_tests)

-- A call that is there stays where it is.

before_one_at : (x c y : Call) (ys : List Call) (s : Bool) → is_same c y ≡ s → is_before x y ≡ true → (s || has c ys) ≡ true → (has c ys ≡ true → is_before x c ≡ true) → is_before x c ≡ true
before_one_at x c y ys true same before there rest = subst (λ d. is_before x d ≡ true) (sym (same_call c y same)) before
before_one_at x c y ys false same before there rest = rest there

before_one : (x c : Call) (ys : List Call) → All (λ d. is_before x d ≡ true) ys → has c ys ≡ true → is_before x c ≡ true
before_one x c [] all there = let never : ⊥ = cc in absurd never
before_one x c (y ∷ ys) all there =
    before_one_at x c y ys (is_same c y) refl (All-head (λ d. is_before x d ≡ true) y ys all) there
    (before_one x c ys (All-tail (λ d. is_before x d ≡ true) y ys all))

stays_at : (c x : Call) (xs : List Call) (s : Bool) → is_same c x ≡ s → All (λ d. is_before x d ≡ true) xs → (s || has c xs) ≡ true → (has c xs ≡ true → insert_key call_cmp xs c ≡ xs) → insert_key call_cmp (x ∷ xs) c ≡ x ∷ xs
stays_at c x xs true same behind there rest =
    ap (λ r. match_ordering r (c ∷ x ∷ xs) (x ∷ xs) (x ∷ insert_key call_cmp xs c))
    (compared c x ∙ ap (λ b. cond b Equal (cond (is_before x c) Greater Less)) same)
stays_at c x xs false same behind there rest =
    ap (λ r. match_ordering r (c ∷ x ∷ xs) (x ∷ xs) (x ∷ insert_key call_cmp xs c))
    (compared c x ∙ ap (λ b. cond b Equal (cond (is_before x c) Greater Less)) same ∙ ap (λ b. cond b Greater Less) (before_one x c xs behind there))
    ∙ ap (λ ks. x ∷ ks) (rest there)

stays : (c : Call) (xs : List Call) → AreInOrder xs → has c xs ≡ true → insert_key call_cmp xs c ≡ xs
stays c [] ordered there = let never : ⊥ = cc in absurd never
stays c (x ∷ xs) ordered there = stays_at c x xs (is_same c x) refl ordered.0 there (stays c xs ordered.1)

-- A call is put in: they are in order, and it is one of them.

pub record IsPutIn (c : Call) (xs ys : List Call) : Type 0 where
  pub ordered : AreInOrder ys
  pub all : (d : Call) → has d ys ≡ (is_same d c || has d xs)

one_again_at : (d c : Call) (xs : List Call) (s : Bool) → is_same d c ≡ s → has c xs ≡ true → has d xs ≡ (s || has d xs)
one_again_at d c xs true same there = ap (λ e. has e xs) (same_call d c same) ∙ there
one_again_at d c xs false same there = refl

put_in_at : (c : Call) (xs : List Call) (b : Bool) → has c xs ≡ b → AreInOrder xs → IsPutIn c xs (insert_key call_cmp xs c)
put_in_at c xs true there ordered = subst (IsPutIn c xs) (sym (stays c xs ordered there)) (record {
  ordered = ordered;
  all = λ d. one_again_at d c xs (is_same d c) refl there;
})
put_in_at c xs false there ordered = subst (IsPutIn c xs) (sym (insert_key-with_call c xs there)) (record {
  ordered = AreInOrder-with_call c xs ordered there;
  all = λ d. has-with_call d c xs;
})

pub put_in : (c : Call) (xs : List Call) → AreInOrder xs → IsPutIn c xs (insert_key call_cmp xs c)
put_in c xs ordered = put_in_at c xs (has c xs) refl ordered

-- Whoever is asked is one of those who live.
pub alive_any : (c : Call) (from : ℕ) (slots : List (Option ProcessEntry)) → list_any (λ (e : ℕ × ProcessEntry). has c e.1.calls) (alive_from from slots) ≡ list_any (is_asked_by c) slots
alive_any c from [] = refl
alive_any c from (None ∷ slots) = alive_any c (suc from) slots
alive_any c from (Some l ∷ slots) = ap (λ b. has c l.calls || b) (alive_any c (suc from) slots)

-- A call that was left, and is put in.

turned : (a b c : Bool) → ((a || b) || c) ≡ (b || (a || c))
turned true true c = refl
turned true false c = refl
turned false true c = refl
turned false false c = refl

pub moved : (d c : Call) (xs ys rest : List Call) → IsPutIn c xs ys → (has d ys || has d rest) ≡ (has d xs || has d (c ∷ rest))
moved d c xs ys rest put = ap (λ b. b || has d rest) (put.all d) ∙ turned (is_same d c) (has d xs) (has d rest)
