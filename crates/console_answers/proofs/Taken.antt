-- The first items of a list, one more in each turn.
use Rattle.std.proofs.Common.{◌≡◌, ◌∙◌, ℕ, zero, suc, ◌+◌, List, [], ◌∷◌, ◌++◌, flat_map, map, reverse, take, length, None, Some, ap, arith, refl, subst, sym}
use Rattle.std.proofs.lemmas.Grind.{flat_map-append}
use Rattle.std.proofs.lemmas.List.{append-nil, map-append, reverse-append}
use native.Mathlib.Numerals.{unary_clauses}
use Rattle.std.specs.List.{slice_get}
use Rattle.console_answers.specs.Rows.{AreJobRows, IsJobRow}
use Rattle.erl_semantics.specs.declared.jobs.Job.{Job}
use Rattle.erl_term.specs.declared.term.Term.{Term}
use Rattle.process_store.specs.Table.{Table}

module _ {X : Type 0} where
  take_behind : (xs : List X) (n : ℕ) (x : X) → slice_get xs n ≡ Some x → take (suc n) xs ≡ take n xs ++ x ∷ []
  take_behind [] n x is = let clash : None ≡ Some x = is in cc
  take_behind (y ∷ ys) zero x is = let same : y ≡ x = (let there : Some y ≡ Some x = is in cc) in ap (λ z. z ∷ []) same
  take_behind (y ∷ ys) (suc n) x is = ap (λ zs. y ∷ zs) (take_behind ys n x is)

  pub take_more : (xs : List X) (n : ℕ) (x : X) → slice_get xs n ≡ Some x → take (n + 1) xs ≡ take n xs ++ x ∷ []
  take_more xs n x is = simp unary_clauses (take_behind xs n x is)

  pub flat_more : {Y : Type 0} (f : X → List Y) (xs : List X) (n : ℕ) (x : X) → slice_get xs n ≡ Some x → flat_map f (take (n + 1) xs) ≡ flat_map f (take n xs) ++ f x
  flat_more f xs n x is =
      ap (flat_map f) (take_more xs n x is) ∙ flat_map-append f (take n xs) (x ∷ []) ∙ ap (λ ys. flat_map f (take n xs) ++ ys) (append-nil (f x))

-- the last first
pub map_reversed : {X Y : Type 0} (f : X → Y) (xs : List X) → reverse (map f xs) ≡ map f (reverse xs)
map_reversed f [] = refl
map_reversed f (x ∷ xs) =
    reverse-append (f x ∷ []) (map f xs)
    ∙ ap (λ ys. ys ++ f x ∷ []) (map_reversed f xs)
    ∙ sym (ap (map f) (reverse-append (x ∷ []) xs) ∙ map-append f (reverse xs) (x ∷ []))

-- one job more
pub rows_more : (t : Table) (n : ℕ) (jobs : List Job) (rows : List Term) (job : Job) (row : Term) → AreJobRows t n jobs rows → IsJobRow t (n + length jobs) job row → AreJobRows t n (jobs ++ job ∷ []) (rows ++ row ∷ [])
rows_more t n [] [] job row are is = (subst (λ m. IsJobRow t m job row) (omega arith) is, tt)
rows_more t n [] (r ∷ rows) job row are is = absurd are
rows_more t n (j ∷ jobs) [] job row are is = absurd are
rows_more t n (j ∷ jobs) (r ∷ rows) job row are is =
    (are.0, rows_more t (n + 1) jobs rows job row are.1 (subst (λ m. IsJobRow t m job row) (omega arith) is))
