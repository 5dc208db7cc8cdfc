-- Rows of terms as the code has them, and operations by how many terms there are.
use Rattle.std.specs.Prelude.{◌≡◌, ℕ, List, [], ◌∷◌, ◌++◌, length, refl, codes, None, Some}
use Rattle.std.proofs.Common.{ap, arith, sym, ◌∙◌}
use Rattle.erl_term.specs.declared.term.Term.{Term}
use Rattle.erl_term.specs.declared.term.Term.TheVariants as variants
use Rattle.erl_term.specs.Accessors.{one_of, two_of, three_of, list_of}
use Rattle.erl_term.specs.Rows.{append_trees}
use Rattle.erl_term.specs.Term.{tree, trees}
use Rattle.erl_term.specs.Tree.{Tree, Trees, count, int, atom, pid, tuple, list, none, more}
use Rattle.erl_ir.specs.declared.operation.Operator.{Operator}
use Rattle.erl_semantics.specs.State.{value, exit_by, made}
use Rattle.erl_ir.specs.declared.operation.BuiltIn.{BuiltIn}
use Rattle.erl_semantics.specs.BuiltIns as built_ins
use Rattle.erl_semantics.specs.BuiltIns.{given}
use Rattle.erl_semantics.proofs.Options.{some_none, some_injective}
use Rattle.erl_semantics.specs.Operators.{operated, of_one, of_two, appended, before_tail, consed_row, made_of, consed}

pub trees_append : (ts us : List Term) → trees (ts ++ us) ≡ append_trees (trees ts) (trees us)
trees_append [] us = refl
trees_append (t ∷ ts) us = ap (λ r. more (tree t) r) (trees_append ts us)

-- operators, of one operand, of two, and of another number

pub operated_one : (o : Operator) (ts : Trees) (x : Tree) → one_of ts ≡ Some x → operated o ts ≡ of_one o x
operated_one o none x e = absurd (some_none (sym e))
operated_one o (more t none) x e = ap (λ u. of_one o u) (some_injective e)
operated_one o (more t (more u ts)) x e = absurd (some_none (sym e))

pub operated_two : (o : Operator) (ts : Trees) (x y : Tree) → two_of ts ≡ Some (x, y) → operated o ts ≡ of_two o x y
operated_two o none x y e = absurd (some_none (sym e))
operated_two o (more t none) x y e = absurd (some_none (sym e))
operated_two o (more t (more u none)) x y e = ap (λ p. of_two o p.0 p.1) (some_injective e)
operated_two o (more t (more u (more v ts))) x y e = absurd (some_none (sym e))

pub operated_else : (o : Operator) (ts : Trees) → one_of ts ≡ None → two_of ts ≡ None → operated o ts ≡ exit_by (codes "undef")
operated_else o none no_one no_two = refl
operated_else o (more t none) no_one no_two = absurd (some_none no_one)
operated_else o (more t (more u none)) no_one no_two = absurd (some_none no_two)
operated_else o (more t (more u (more v ts))) no_one no_two = refl

-- calls of functions that are built in likewise

pub given_none : (own : ℕ) (f : BuiltIn) (ts : Trees) → ts ≡ none → given own f ts ≡ built_ins.of_none own f
given_none own f ts e = ap (λ us. given own f us) e

pub given_one : (own : ℕ) (f : BuiltIn) (ts : Trees) (x : Tree) → one_of ts ≡ Some x → given own f ts ≡ built_ins.of_one f x
given_one own f none x e = absurd (some_none (sym e))
given_one own f (more t none) x e = ap (λ u. built_ins.of_one f u) (some_injective e)
given_one own f (more t (more u ts)) x e = absurd (some_none (sym e))

pub given_two : (own : ℕ) (f : BuiltIn) (ts : Trees) (x y : Tree) → two_of ts ≡ Some (x, y) →
    given own f ts ≡ built_ins.of_two f x y
given_two own f none x y e = absurd (some_none (sym e))
given_two own f (more t none) x y e = absurd (some_none (sym e))
given_two own f (more t (more u none)) x y e = ap (λ p. built_ins.of_two f p.0 p.1) (some_injective e)
given_two own f (more t (more u (more v ts))) x y e = absurd (some_none (sym e))

pub given_three : (own : ℕ) (f : BuiltIn) (ts : Trees) (x y z : Tree) → three_of ts ≡ Some (x, y, z) →
    given own f ts ≡ built_ins.of_three f x y z
given_three own f none x y z e = absurd (some_none (sym e))
given_three own f (more t none) x y z e = absurd (some_none (sym e))
given_three own f (more t (more u none)) x y z e = absurd (some_none (sym e))
given_three own f (more t (more u (more v none))) x y z e = ap (λ p. built_ins.of_three f p.0 p.1 p.2) (some_injective e)
given_three own f (more t (more u (more v (more v' ts)))) x y z e = absurd (some_none (sym e))

pub given_else : (own : ℕ) (f : BuiltIn) (ts : Trees) → (ts ≡ none → ⊥) → one_of ts ≡ None → two_of ts ≡ None →
    three_of ts ≡ None → given own f ts ≡ exit_by (codes "undef")
given_else own f none some no_one no_two no_three = absurd (some refl)
given_else own f (more t none) some no_one no_two no_three = absurd (some_none no_one)
given_else own f (more t (more u none)) some no_one no_two no_three = absurd (some_none no_two)
given_else own f (more t (more u (more v none))) some no_one no_two no_three = absurd (some_none no_three)
given_else own f (more t (more u (more v (more v' ts)))) some no_one no_two no_three = refl

-- a list with a tail, by its last value

consed_row_list : (ts : List Term) (row : Trees) →
    consed_row (trees (ts ++ variants.List row ∷ [])) ≡ value (list (append_trees (trees ts) row))
consed_row_list [] row = refl
consed_row_list (t ∷ []) row = refl
consed_row_list (t ∷ u ∷ us) row = ap (before_tail (tree t)) (consed_row_list (u ∷ us) row)

consed_row_else : (ts : List Term) (last : Term) → ((row : Trees) → last ≡ variants.List row → ⊥) →
    consed_row (trees (ts ++ last ∷ [])) ≡ exit_by (codes "not_in_profile")
consed_row_else [] (variants.Int n) no_list = refl
consed_row_else [] (variants.Atom n) no_list = refl
consed_row_else [] (variants.Pid n) no_list = refl
consed_row_else [] (variants.Tuple n) no_list = refl
consed_row_else [] (variants.List row) no_list = absurd (no_list row refl)
consed_row_else (t ∷ []) last no_list = ap (before_tail (tree t)) (consed_row_else [] last no_list)
consed_row_else (t ∷ u ∷ us) last no_list = ap (before_tail (tree t)) (consed_row_else (u ∷ us) last no_list)

pub consed_list : (all ts : List Term) (last : Term) (row made_row : Trees) → all ≡ ts ++ last ∷ [] →
    last ≡ variants.List row → made_row ≡ append_trees (trees ts) row → consed (trees all) ≡ made (list made_row)
consed_list all ts last row made_row split is gives =
    ap (λ us. consed (trees us)) (split ∙ ap (λ u. ts ++ u ∷ []) is) ∙ ap made_of (consed_row_list ts row) ∙
    ap (λ us. made (list us)) (sym gives)

pub consed_else : (all ts : List Term) (last : Term) → all ≡ ts ++ last ∷ [] →
    ((row : Trees) → last ≡ variants.List row → ⊥) → consed (trees all) ≡ exit_by (codes "not_in_profile")
consed_else all ts last split no_list =
    ap (λ us. consed (trees us)) split ∙ ap made_of (consed_row_else ts last no_list)

-- `E1 ++ E2`, where the left row has terms and what is behind it is no list

pub appended_else : (x y : Tree) (row : Trees) → list_of x ≡ Some row → (row ≡ none → ⊥) → list_of y ≡ None →
    exit_by (codes "not_in_profile") ≡ appended x y
appended_else (int n) y row is some no_list = absurd (some_none (sym is))
appended_else (atom cs) y row is some no_list = absurd (some_none (sym is))
appended_else (pid n) y row is some no_list = absurd (some_none (sym is))
appended_else (tuple ts) y row is some no_list = absurd (some_none (sym is))
appended_else (list none) y row is some no_list = absurd (some (sym (some_injective is)))
appended_else (list (more t ts)) (int n) row is some no_list = refl
appended_else (list (more t ts)) (atom cs) row is some no_list = refl
appended_else (list (more t ts)) (pid n) row is some no_list = refl
appended_else (list (more t ts)) (tuple us) row is some no_list = refl
appended_else (list (more t ts)) (list us) row is some no_list = absurd (some_none no_list)

-- the number of arguments
pub count_trees : (ts : List Term) → count (trees ts) ≡ length ts
count_trees [] = refl
count_trees (t ∷ ts) = omega (arith, count_trees ts)
