-- Guards: rows of operands, tests, guards and clauses, one by one.
use Rattle.std.specs.Prelude.{◌≡◌, ◌==◌, ℕ, ◌+◌, ◌<◌, Bool, true, false, List, [], ◌∷◌, ◌++◌, length, drop, get_or, refl}
use Rattle.std.proofs.Common.{ap, sym, subst, ◌∙◌}
use Rattle.std.proofs.lemmas.List.{drop_more}
use Rattle.erl_term.specs.declared.term.Term.{Term}
use Rattle.erl_term.specs.Term.{tree, trees}
use Rattle.erl_term.specs.Tree.{Tree, Trees, more}
use Rattle.erl_term.specs.Tree as term
use Rattle.erl_ir.specs.declared.expression.Expression.{Expression}
use Rattle.erl_ir.specs.Expression.{Exprs}
use Rattle.erl_ir.specs.ExpressionForms.{expr, exprs, guards}
use Rattle.erl_semantics.specs.State.{Result, value, exit}
use Rattle.erl_semantics.specs.Guards.{Values, no_guard, all, stopped, values_then, first_value, tested, tested_row, tested_alone}
use Rattle.erl_semantics.specs.Guards.{one_holds, guarded}

-- an item, and those behind it
pub from_here : {A : Type 0} (items : List A) (i : ℕ) (x : A) → i < length items → x ≡ get_or items i x →
    drop i items ≡ x ∷ drop (i + 1) items
from_here items i x within is = drop_more items i x within ∙ ap (λ y. y ∷ drop (i + 1) items) (sym is)

-- values that are there, before what comes of the other operands
abbrev pub behind_values : List Term → Values × ℕ → Values × ℕ
behind_values [] v = v
behind_values (t ∷ ts) v = first_value (tree t) (behind_values ts v)

behind_one : (ts : List Term) (t : Term) (v : Values × ℕ) →
    behind_values (ts ++ t ∷ []) v ≡ behind_values ts (first_value (tree t) v)
behind_one [] t v = refl
behind_one (u ∷ us) t v = ap (first_value (tree u)) (behind_one us t v)

behind_stopped : (ts : List Term) (r : Result) (n : ℕ) → behind_values ts (stopped r, n) ≡ (stopped r, n)
behind_stopped [] r n = refl
behind_stopped (t ∷ ts) r n = ap (first_value (tree t)) (behind_stopped ts r n)

behind_all : (ts : List Term) (n : ℕ) → behind_values ts (all term.none, n) ≡ (all (trees ts), n)
behind_all [] n = refl
behind_all (t ∷ ts) n = ap (first_value (tree t)) (behind_all ts n)

module _ (self : ℕ) (env : List Tree) where
  -- operands

  pub row_next : (row : List Expression) (i : ℕ) (e : Expression) (ts us : List Term) (t : Term) (calls behind : ℕ) →
      i < length row → e ≡ get_or row i e → (value (tree t), behind) ≡ tested self env (expr e) calls → us ≡ ts ++ t ∷ [] →
      behind_values us (tested_row self env (exprs (drop (i + 1) row)) behind) ≡
      behind_values ts (tested_row self env (exprs (drop i row)) calls)
  row_next row i e ts us t calls behind within is gives pushed =
      ap (λ vs. behind_values vs (tested_row self env (exprs (drop (i + 1) row)) behind)) pushed ∙
      behind_one ts t (tested_row self env (exprs (drop (i + 1) row)) behind) ∙
      ap (λ p. behind_values ts (values_then (λ u n. first_value u (tested_row self env (exprs (drop (i + 1) row)) n)) p)) gives ∙
      ap (λ es. behind_values ts (tested_row self env (exprs es) calls)) (sym (from_here row i e within is))

  pub row_ends : (row : List Expression) (i : ℕ) (e : Expression) (ts : List Term) (r : Tree) (calls behind : ℕ) →
      i < length row → e ≡ get_or row i e → (exit r, behind) ≡ tested self env (expr e) calls →
      (stopped (exit r), behind) ≡ behind_values ts (tested_row self env (exprs (drop i row)) calls)
  row_ends row i e ts r calls behind within is gives =
      sym (behind_stopped ts (exit r) behind) ∙
      ap (λ p. behind_values ts (values_then (λ u n. first_value u (tested_row self env (exprs (drop (i + 1) row)) n)) p)) gives ∙
      ap (λ es. behind_values ts (tested_row self env (exprs es) calls)) (sym (from_here row i e within is))

  pub row_whole : (row : List Expression) (ts : List Term) (calls : ℕ) → row ≡ [] →
      (all (trees ts), calls) ≡ behind_values ts (tested_row self env (exprs row) calls)
  row_whole row ts calls none = sym (behind_all ts calls) ∙
      ap (λ es. behind_values ts (tested_row self env (exprs es) calls)) (sym none)

  -- a side of a connective

  pub alone_else : (row : List Expression) (calls : ℕ) → (length row ≡ 1 → ⊥) →
      tested_alone self env (exprs row) calls ≡ (no_guard, calls)
  alone_else [] calls other = refl
  alone_else (f ∷ []) calls other = absurd (other refl)
  alone_else (f ∷ g ∷ es) calls other = refl

  abbrev Fails : Bool → Type 0
  Fails false = Unit {0}
  Fails true = ⊥

  pub guarded_some : (gs : List Exprs) (calls : ℕ) → false ≡ (length gs == 0) →
      guarded self env (guards gs) calls ≡ one_holds self env (guards gs) calls
  guarded_some [] calls some = absurd (subst (λ b. Fails b) some tt)
  guarded_some (g ∷ gs) calls some = refl
