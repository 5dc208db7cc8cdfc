-- The parts of a file, read one after the other: the first that is wrong is told, and where none is the file is made of them.
use Rattle.std.proofs.Common.{◌≡◌, ℕ, List, [], ◌∷◌, length, Option, Some, None, Result, Err, refl, sym, ap, subst, ◌∙◌, inl, inr, arith}
use Rattle.erl_term.specs.Accessors.{three_of, tuple_of}
use Rattle.erl_term.specs.Conversions.{given, row}
use Rattle.erl_term.specs.Tree.{Tree, tuple}
use Rattle.release_words.proofs.Parts.{given_is, three_is, tuple_is, none_some}
use Rattle.otp_files.specs.declared.error.FileError.{FileError}
use Rattle.otp_files.specs.declared.error.FileError.TheVariants.{Shape}
use Rattle.otp_files.specs.Parts.{FailsFirst, HasElements, IsMisshapen, IsTriple, Parts, Says, element as wrong_element, end, no_tuple, part}
use Rattle.otp_files.specs.Reading.{after, element}
use Rattle.otp_files.proofs.Sayings.{Reads, unsaid}

-- one part more
pub step : {A X : Type 0} (P : Result X FileError → Type 0) (n : ℕ) (o : Option A) (f : A → Result X FileError) → (o ≡ None → P (Err (Shape n))) → ((a : A) → o ≡ Some a → P (f a)) → P (after (element n o) f)
step P n None f wrong right = wrong refl
step P n (Some a) f wrong right = right a refl

-- a part that says nothing is not read
pub unread : {A : Type 0} (f : Tree → Option A) (R : Tree → A → Type 0) → Reads f R → (t : Tree) → (Says R t → ⊥) → f t ≡ None
unread f R reads t not = by (f t) refl
  where
    by : (o : Option _) → f t ≡ o → f t ≡ None
    by None e = e
    by (Some a) e = absurd (not (record { value = a; is = reads.found t a e }))

-- Three parts

abbrev pub parts_of_three : {A B C : Type 0} → (Tree → A → Type 0) → (Tree → B → Type 0) → (Tree → C → Type 0) → Parts
parts_of_three R S T = part (Says R) (part (Says S) (part (Says T) end))

abbrev pub three_parts : {A B C X : Type 0} → (Tree → Option A) → (Tree → Option B) → (Tree → Option C) → (A → B → C → Result X FileError) → Tree → Tree → Tree → Result X FileError
three_parts f g h make x y z =
    after (element 1 (f x)) (λ a. after (element 2 (g y)) (λ b. after (element 3 (h z)) (λ c. make a b c)))

abbrev pub of_three : {A B C X : Type 0} → (Tree → Option A) → (Tree → Option B) → (Tree → Option C) → (A → B → C → Result X FileError) → Tree → Result X FileError
of_three f g h make t = after (element 0 (given (tuple_of t) three_of)) (λ p. three_parts f g h make p.0 p.1 p.2)

-- elements that are just three
of_just_three : (P : Tree → Type 0) (t : Tree) (elements : List Tree) → t ≡ tuple (row elements) → length elements ≡ 3 → ((x y z : Tree) → elements ≡ x ∷ (y ∷ (z ∷ [])) → P t) → P t
of_just_three P t [] is many found = absurd (omega (arith, many))
of_just_three P t (x ∷ []) is many found = absurd (omega (arith, many))
of_just_three P t (x ∷ (y ∷ [])) is many found = absurd (omega (arith, many))
of_just_three P t (x ∷ (y ∷ (z ∷ []))) is many found = found x y z refl
of_just_three P t (x ∷ (y ∷ (z ∷ (w ∷ ws)))) is many found = absurd (omega (arith, many))

pub three_judged : {A B C X : Type 0} (f : Tree → Option A) (g : Tree → Option B) (h : Tree → Option C) (R : Tree → A → Type 0) (S : Tree → B → Type 0) (T : Tree → C → Type 0) (make : A → B → C → Result X FileError) (P : Result X FileError → Type 0) (t : Tree) → Reads f R → Reads g S → Reads h T → ((n : ℕ) → IsMisshapen (parts_of_three R S T) t n → P (Err (Shape n))) → ((a : A) (b : B) (c : C) → IsTriple R S T t (a, b, c) → P (make a b c)) → P (of_three f g h make t)
three_judged f g h R S T make P t reads_f reads_g reads_h wrong right =
    step P 0 (given (tuple_of t) three_of) _ (λ empty. wrong 0 (no_tuple (none_such empty) refl))
    (λ p found.
    let ts = given_is (tuple_of t) three_of p found in
    let is = tuple_is t ts.0 ts.1 ∙ ap tuple (three_is ts.0 p ts.2) in
    let has : HasElements (parts_of_three R S T) t (p.0 ∷ (p.1 ∷ (p.2 ∷ []))) = record { is = is; many = refl } in
    step P 1 (f p.0) _ (λ empty. wrong 1 (wrong_element _ has (inl (unsaid f R reads_f p.0 empty, refl))))
    (λ a is_a.
    let says_a : Says R p.0 = record { value = a; is = reads_f.found p.0 a is_a } in
    step P 2 (g p.1) _ (λ empty. wrong 2 (wrong_element _ has (inr (says_a, inl (unsaid g S reads_g p.1 empty, refl)))))
    (λ b is_b.
    let says_b : Says S p.1 = record { value = b; is = reads_g.found p.1 b is_b } in
    step P 3 (h p.2) _ (λ empty. wrong 3 (wrong_element _ has (inr (says_a, inr (says_b, inl (unsaid h T reads_h p.2 empty, refl))))))
    (λ c is_c.
    right a b c (record { first = p.0; second = p.1; third = p.2; is = is; a = says_a.is; b = says_b.is; c = reads_h.found p.2 c is_c })))))
  where
    none_such : given (tuple_of t) three_of ≡ None → (elements : List Tree) → HasElements (parts_of_three R S T) t elements → ⊥
    none_such empty elements has =
        of_just_three (λ u. ⊥) t elements has.is has.many (λ x y z are. none_some (x, y, z) (sym empty ∙ ap (λ u. given (tuple_of u) three_of) (has.is ∙ ap (λ es. tuple (row es)) are)))

pub three_done : {A B C X : Type 0} (f : Tree → Option A) (g : Tree → Option B) (h : Tree → Option C) (R : Tree → A → Type 0) (S : Tree → B → Type 0) (T : Tree → C → Type 0) (make : A → B → C → Result X FileError) (t : Tree) → Reads f R → Reads g S → Reads h T → (a : A) (b : B) (c : C) → IsTriple R S T t (a, b, c) → of_three f g h make t ≡ make a b c
three_done f g h R S T make t reads_f reads_g reads_h a b c is =
    ap (of_three f g h make) is.is ∙ ap (λ o. after (element 1 o) (λ a. after (element 2 (g is.second)) (λ b. after (element 3 (h is.third)) (λ c. make a b c)))) (reads_f.back is.first a is.a) ∙ ap (λ o. after (element 2 o) (λ b. after (element 3 (h is.third)) (λ c. make a b c))) (reads_g.back is.second b is.b) ∙ ap (λ o. after (element 3 o) (λ c. make a b c)) (reads_h.back is.third c is.c)

pub three_misshapen : {A B C X : Type 0} (f : Tree → Option A) (g : Tree → Option B) (h : Tree → Option C) (R : Tree → A → Type 0) (S : Tree → B → Type 0) (T : Tree → C → Type 0) (make : A → B → C → Result X FileError) (t : Tree) → Reads f R → Reads g S → Reads h T → (n : ℕ) → IsMisshapen (parts_of_three R S T) t n → of_three f g h make t ≡ Err (Shape n)
three_misshapen {A} {B} {C} {X} f g h R S T make t reads_f reads_g reads_h n (no_tuple none_is zero) =
    by (given (tuple_of t) three_of) refl ∙ ap (λ k. Err (Shape k)) (sym zero)
  where
    by : (o : Option (Tree × Tree × Tree)) → given (tuple_of t) three_of ≡ o → after (element 0 o) (λ p. three_parts f g h make p.0 p.1 p.2) ≡ Err (Shape 0)
    by None e = refl
    by (Some p) e =
        let ts = given_is (tuple_of t) three_of p e in
        absurd (none_is (p.0 ∷ (p.1 ∷ (p.2 ∷ []))) (record { is = tuple_is t ts.0 ts.1 ∙ ap tuple (three_is ts.0 p ts.2); many = refl }))
three_misshapen {A} {B} {C} {X} f g h R S T make t reads_f reads_g reads_h n (wrong_element elements has fails) =
    of_just_three (λ u. of_three f g h make u ≡ Err (Shape n)) t elements has.is has.many (λ x y z are. ap (of_three f g h make) (has.is ∙ ap (λ es. tuple (row es)) are) ∙ told x y z (subst_fails are))
  where
    Fails : List Tree → Type 0
    Fails es = FailsFirst (parts_of_three R S T) es 1 n

    subst_fails : {es : List Tree} → elements ≡ es → Fails es
    subst_fails are = subst Fails are fails

    told : (x y z : Tree) → Fails (x ∷ (y ∷ (z ∷ []))) → three_parts f g h make x y z ≡ Err (Shape n)
    told x y z (inl first) =
        ap (λ o. after (element 1 o) (λ a. after (element 2 (g y)) (λ b. after (element 3 (h z)) (λ c. make a b c)))) (unread f R reads_f x first.0) ∙ ap (λ k. Err (Shape k)) (sym first.1)
    told x y z (inr (says_a, inl second)) =
        ap (λ o. after (element 1 o) (λ a. after (element 2 (g y)) (λ b. after (element 3 (h z)) (λ c. make a b c)))) (reads_f.back x says_a.value says_a.is) ∙ ap (λ o. after (element 2 o) (λ b. after (element 3 (h z)) (λ c. make says_a.value b c))) (unread g S reads_g y second.0) ∙ ap (λ k. Err (Shape k)) (sym second.1)
    told x y z (inr (says_a, inr (says_b, inl third))) =
        ap (λ o. after (element 1 o) (λ a. after (element 2 (g y)) (λ b. after (element 3 (h z)) (λ c. make a b c)))) (reads_f.back x says_a.value says_a.is) ∙ ap (λ o. after (element 2 o) (λ b. after (element 3 (h z)) (λ c. make says_a.value b c))) (reads_g.back y says_b.value says_b.is) ∙ ap (λ o. after (element 3 o) (λ c. make says_a.value says_b.value c)) (unread h T reads_h z third.0) ∙ ap (λ k. Err (Shape k)) (sym third.1)
    told x y z (inr (says_a, inr (says_b, inr never))) = absurd never.1
