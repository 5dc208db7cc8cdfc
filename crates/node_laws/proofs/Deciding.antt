-- What is so or not: whether two jobs are one value, code included.
use Rattle.std.specs.Prelude.{◌≡◌, ◌⊎◌, ℕ, Bool, true, false, List, [], ◌∷◌, Option, None, Some, eqb, refl}
use Rattle.std.specs.Bool.{Decides}
use Rattle.std.specs.Str.{bytes_eq}
use Rattle.std.specs.declared.cmp.Ordering.{Ordering}
use Rattle.std.specs.declared.cmp.Ordering.TheVariants.{Equal, Greater, Less}
use Rattle.std.proofs.Common.{ap, inl, inr, sym, ◌∙◌}
use Rattle.std.proofs.lemmas.Bool.{eq-eqb, eqb-true, true≢false}
use Rattle.std.proofs.lemmas.Cmp.{tied_itself}
use Rattle.std.proofs.lemmas.Option.{none-some, same_Some}
use Rattle.std.proofs.lemmas.Slice.Eq.{bytes_eq-Decides}
use Rattle.erl_ir.proofs.ModuleBytes.{bytes_tell}
use Rattle.erl_ir.specs.FormsCode.{forms_bytes}
use Rattle.erl_ir.specs.Module.{Forms}
use Rattle.erl_semantics.specs.declared.acts.Place.{Place}
use Rattle.erl_semantics.specs.declared.acts.Place.TheVariants.{Loop, Server}
use Rattle.erl_semantics.specs.declared.instance.Instance.{Instance}
use Rattle.erl_semantics.specs.declared.jobs.Job.{Job}
use Rattle.erl_term.specs.Order.{tree_cmp}
use Rattle.erl_term.specs.OrderLaws.{tree_cmp-same, tree_cmp-total}
use Rattle.erl_term.specs.Term.{term_of, term_of-tree, tree}
use Rattle.erl_term.specs.Tree.{Tree, Trees, list}
use Rattle.erl_term.specs.declared.term.Term.{Term}

abbrev pub IsDecided : Type 0 → Type 0
IsDecided A = A ⊎ (A → ⊥)

pub by_test : {A : Type 0} (b : Bool) → Decides b A → IsDecided A
by_test true d = inl (d.0 refl)
by_test false d = inr (λ a. true≢false (sym (d.1 a)))

-- both, and what is so exactly where another thing is

pub both : {A B : Type 0} → IsDecided A → IsDecided B → IsDecided (A × B)
both (inl a) (inl b) = inl (a, b)
both (inl a) (inr never) = inr (λ it. never it.1)
both (inr never) b = inr (λ it. never it.0)

pub alike : {A B : Type 0} → IsDecided A → (A → B) → (B → A) → IsDecided B
alike (inl a) to from = inl (to a)
alike (inr never) to from = inr (λ b. never (from b))

-- Values

same_number : (m n : ℕ) → IsDecided (m ≡ n)
same_number m n = by_test (eqb m n) (eqb-true m n, eq-eqb m n)

pub same_chars : (xs ys : List ℕ) → IsDecided (xs ≡ ys)
same_chars xs ys = by_test (bytes_eq xs ys) (bytes_eq-Decides xs ys)

same_forms : (m n : Forms) → IsDecided (m ≡ n)
same_forms m n = alike (same_chars (forms_bytes m) (forms_bytes n)) (bytes_tell m n) (λ same. ap forms_bytes same)

tied : (o : Ordering) → IsDecided (o ≡ Equal)
tied Less = inr (λ same. let no : ⊥ = cc in no)
tied Equal = inl refl
tied Greater = inr (λ same. let no : ⊥ = cc in no)

same_tree : (t u : Tree) → IsDecided (t ≡ u)
same_tree t u =
    alike (tied (tree_cmp t u)) (tree_cmp-same t u) (λ same. ap (λ x. tree_cmp t x) (sym same) ∙ tied_itself tree_cmp-total t)

same_term : (t u : Term) → IsDecided (t ≡ u)
same_term t u =
    alike (same_tree (tree t) (tree u)) (λ same. sym (term_of-tree t) ∙ ap term_of same ∙ term_of-tree u) (λ same. ap tree same)

row_in : Tree → Trees → Trees
row_in (list ts) us = ts
row_in _ us = us

same_row : (ts us : Trees) → IsDecided (ts ≡ us)
unfolding row_in
same_row ts us = alike (same_tree (list ts) (list us)) (λ same. ap (λ t. row_in t ts) same) (λ same. ap (λ x. list x) same)

-- Places, instances and jobs

same_place : (p q : Place) → IsDecided (p ≡ q)
same_place (Server m s) (Server n t) =
    alike (both (same_chars m n) (same_term s t)) (λ it i. Server (it.0 i) (it.1 i)) (λ same. (cc, cc))
same_place (Server m s) (Loop n serial f args) = inr (λ same. let no : ⊥ = cc in no)
same_place (Loop m serial f args) (Server n t) = inr (λ same. let no : ⊥ = cc in no)
same_place (Loop m a f args) (Loop n b g others) =
    alike (both (both (same_chars m n) (same_number a b)) (both (same_chars f g) (same_row args others)))
    (λ it i. Loop (it.0.0 i) (it.0.1 i) (it.1.0 i) (it.1.1 i)) (λ same. ((cc, cc), (cc, cc)))

same_instance : (i j : Instance) → IsDecided (i ≡ j)
same_instance i j =
    alike (both (same_chars i.name j.name) (both (same_number i.serial j.serial) (same_forms i.«module» j.«module»)))
    (λ it k. record { name = it.0 k; serial = it.1.0 k; «module» = it.1.1 k })
    (λ same. (ap (λ x. x.name) same, (ap (λ x. x.serial) same, ap (λ x. x.«module») same)))

same_code : (c d : List Instance) → IsDecided (c ≡ d)
same_code [] [] = inl refl
same_code [] (j ∷ d) = inr (λ same. let no : ⊥ = cc in no)
same_code (i ∷ c) [] = inr (λ same. let no : ⊥ = cc in no)
same_code (i ∷ c) (j ∷ d) =
    alike (both (same_instance i j) (same_code c d)) (λ it k. it.0 k ∷ it.1 k) (λ same. (cc, cc))

same_job : (j k : Job) → IsDecided (j ≡ k)
same_job j k =
    alike (both (both (same_number j.pid k.pid) (both (same_number j.turn k.turn) (same_place j.place k.place)))
    (both (same_number j.entry_serial k.entry_serial) (both (same_term j.message k.message) (same_code j.code k.code))))
    (λ it i. record {
      pid = it.0.0 i;
      turn = it.0.1.0 i;
      place = it.0.1.1 i;
      entry_serial = it.1.0 i;
      message = it.1.1.0 i;
      code = it.1.1.1 i;
    })
    (λ same. (
      (ap (λ x. x.pid) same, (ap (λ x. x.turn) same, ap (λ x. x.place) same)),
      (ap (λ x. x.entry_serial) same, (ap (λ x. x.message) same, ap (λ x. x.code) same)),
    ))

pub is_job : (o : Option Job) (k : Job) → IsDecided (o ≡ Some k)
is_job None k = inr (λ same. none-some k same)
is_job (Some j) k = alike (same_job j k) (λ same. ap Some same) (λ same. same_Some j k same)
