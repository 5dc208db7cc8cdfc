-- What is made of the items of lists, one after the other, in another order.
use Rattle.std.proofs.Common.{◌≡◌, ◌<◌, ℕ, Bool, true, false, ◌||◌, List, [], ◌∷◌, ◌++◌, eqb, sym, ap, ◌∙◌, refl, subst, arith, append_assoc}
use Rattle.std.specs.List.{flat_map}
use Rattle.std.specs.List.Sorted.{IsPermutation}
use Rattle.std.proofs.lemmas.Bool.{eq-eqb, eqb-true, false≢true, or_left}
use Rattle.std.proofs.lemmas.List.Concat.{flat_map-append}
use Rattle.std.proofs.lemmas.List.Sorted.{IsPermutation-append, IsPermutation-append_comm, IsPermutation-append_left, IsPermutation-append_right, IsPermutation-refl, IsPermutation-trans}
use Rattle.dependency_order.specs.Orders.{stands, times}
use Rattle.dependency_order.proofs.Counting.{times-append}
use Rattle.dependency_order.proofs.Takings.{stands-times, times-stands}

pub permuted-same : {B : Type 0} (xs ys : List B) → xs ≡ ys → IsPermutation xs ys
permuted-same {B = B} xs ys same = let P : List B → Type 0 = λ zs. IsPermutation xs zs in subst P same (IsPermutation-refl xs)

-- a part moved before another
past : {B : Type 0} (a b c : List B) → IsPermutation (a ++ (b ++ c)) (b ++ (a ++ c))
past {B = B} a b c =
    let From : List B → Type 0 = λ xs. IsPermutation xs (b ++ (a ++ c)) in
    let To : List B → Type 0 = λ ys. IsPermutation ((a ++ b) ++ c) ys in
    subst From (append_assoc a b c) (subst To (append_assoc b a c) (IsPermutation-append_left c (a ++ b) (b ++ a) (IsPermutation-append_comm a b)))

pub crossed : {B : Type 0} (a b c d : List B) → IsPermutation ((a ++ b) ++ (c ++ d)) ((a ++ c) ++ (b ++ d))
crossed {B = B} a b c d =
    let From : List B → Type 0 = λ xs. IsPermutation xs ((a ++ c) ++ (b ++ d)) in
    let To : List B → Type 0 = λ ys. IsPermutation (a ++ (b ++ (c ++ d))) ys in
    subst From (sym (append_assoc a b (c ++ d))) (subst To (sym (append_assoc a c (b ++ d))) (IsPermutation-append_right a (b ++ (c ++ d)) (c ++ (b ++ d)) (past b c d)))

-- item by item
pub each-permuted : {A B : Type 0} (f g : A → List B) → ((x : A) → IsPermutation (f x) (g x)) → (xs : List A) → IsPermutation (flat_map f xs) (flat_map g xs)
each-permuted f g each [] = IsPermutation-refl []
each-permuted f g each (x ∷ xs) =
    IsPermutation-append (f x) (g x) (flat_map f xs) (flat_map g xs) (each x) (each-permuted f g each xs)

-- two things of each item
both-permuted : {A B : Type 0} (f g : A → List B) (xs : List A) → IsPermutation (flat_map f xs ++ flat_map g xs) (flat_map (λ x. f x ++ g x) xs)
both-permuted f g [] = IsPermutation-refl []
both-permuted f g (x ∷ xs) =
    IsPermutation-trans ((f x ++ flat_map f xs) ++ (g x ++ flat_map g xs)) ((f x ++ g x) ++ (flat_map f xs ++ flat_map g xs)) ((f x ++ g x) ++ flat_map (λ y. f y ++ g y) xs)
    (crossed (f x) (flat_map f xs) (g x) (flat_map g xs))
    (IsPermutation-append_right (f x ++ g x) (flat_map f xs ++ flat_map g xs) (flat_map (λ y. f y ++ g y) xs) (both-permuted f g xs))

pub joined : {A B : Type 0} (f g : A → List B) (xs : List A) (a b : List B) → IsPermutation a (flat_map f xs) → IsPermutation b (flat_map g xs) → IsPermutation (a ++ b) (flat_map (λ x. f x ++ g x) xs)
joined f g xs a b one other =
    IsPermutation-trans (a ++ b) (flat_map f xs ++ flat_map g xs) (flat_map (λ x. f x ++ g x) xs) (IsPermutation-append a (flat_map f xs) b (flat_map g xs) one other) (both-permuted f g xs)

-- Lists of numbers that have the same, each as often

record Around (p : ℕ) (ps : List ℕ) : Type 0 where
  pub before : List ℕ
  pub behind : List ℕ
  pub is : ps ≡ before ++ p ∷ behind

around-step : (b : Bool) (p q : ℕ) (qs : List ℕ) → (b ≡ true → q ≡ p) → (stands p qs ≡ true → Around p qs) → (b || stands p qs) ≡ true → Around p (q ∷ qs)
around-step true p q qs here later is = record { before = []; behind = qs; is = ap (λ r. r ∷ qs) (here refl) }
around-step false p q qs here later is =
    let on = later is in record { before = q ∷ on.before; behind = on.behind; is = ap (λ rs. q ∷ rs) on.is }

around : (p : ℕ) (ps : List ℕ) → stands p ps ≡ true → Around p ps
around p [] is = absurd (false≢true is)
around p (q ∷ qs) is = around-step (eqb q p) p q qs (eqb-true q p) (around p qs) is

begins : (p : ℕ) (ps : List ℕ) → 0 < times p (p ∷ ps)
begins p ps = stands-times p (p ∷ ps) (or_left (eqb p p) (stands p ps) (eq-eqb p p refl))

left-over : (x r : ℕ) (xs us vs : List ℕ) → times r (x ∷ xs) ≡ times r (us ++ x ∷ vs) → times r xs ≡ times r (us ++ vs)
left-over x r xs us vs same =
    let one = times-append r us (x ∷ vs) in let other = times-append r us vs in omega (arith, same, one, other)

taken : {B : Type 0} (f : ℕ → List B) (x : ℕ) (xs us vs : List ℕ) → IsPermutation (flat_map f xs) (flat_map f (us ++ vs)) → IsPermutation (flat_map f (x ∷ xs)) (flat_map f (us ++ x ∷ vs))
taken {B = B} f x xs us vs rest =
    let To : List B → Type 0 = λ bs. IsPermutation (f x ++ flat_map f xs) bs in
    let Behind : List B → Type 0 = λ bs. To (f x ++ bs) in
    subst To (sym (flat_map-append f us (x ∷ vs)))
    (IsPermutation-trans (f x ++ flat_map f xs) (f x ++ (flat_map f us ++ flat_map f vs)) (flat_map f us ++ (f x ++ flat_map f vs))
    (subst Behind (flat_map-append f us vs) (IsPermutation-append_right (f x) (flat_map f xs) (flat_map f (us ++ vs)) rest))
    (past (f x) (flat_map f us) (flat_map f vs)))

pub flat_map-permuted : {B : Type 0} (f : ℕ → List B) (xs ys : List ℕ) → ((p : ℕ) → times p xs ≡ times p ys) → IsPermutation (flat_map f xs) (flat_map f ys)
flat_map-permuted f [] [] same = IsPermutation-refl []
flat_map-permuted f [] (y ∷ ys) same = absurd (let some = begins y ys in let e = same y in omega (arith, some, e))
flat_map-permuted {B = B} f (x ∷ xs) ys same =
    let there : stands x ys ≡ true = times-stands x ys (let some = begins x xs in let e = same x in omega (arith, some, e)) in
    let found = around x ys there in
    let To : List ℕ → Type 0 = λ zs. IsPermutation (flat_map f (x ∷ xs)) (flat_map f zs) in
    subst To (sym found.is)
    (taken f x xs found.before found.behind
    (flat_map-permuted f xs (found.before ++ found.behind)
    (λ r. left-over x r xs found.before found.behind (same r ∙ ap (times r) found.is))))
