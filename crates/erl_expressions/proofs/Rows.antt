-- Rows of trees.
use Rattle.std.proofs.Common.{◌≡◌, ℕ, zero, suc, ◌+◌, ◌<◌, ◌≤◌, max, ◌&&◌, List, [], ◌∷◌, ◌++◌, length, get_or, drop, ap, sym, subst, ◌∙◌, refl, arith}
use Rattle.erl_ast.specs.declared.tree.SyntaxTree.{SyntaxTree}
use Rattle.erl_ast.specs.declared.tree.ClauseTree.{ClauseTree}
use Rattle.erl_ast.specs.Tree.{Tree, Trees, none, more, tree_count, tree_depth, trees_depth, Guards, guards_depth, clauses_depth, guard, clause}
use Rattle.erl_ast.specs.TreeForms.{tree, trees, guards, clauses}
use Rattle.erl_expressions.specs.Reading.{fits_pattern, fit_pattern, with_last, with_last_guard, with_last_clause}

pub trees_push : (ts : List SyntaxTree) (t : SyntaxTree) → trees (ts ++ t ∷ []) ≡ with_last (trees ts) (tree t)
trees_push [] t = refl
trees_push (u ∷ us) t = ap (λ vs. more (tree u) vs) (trees_push us t)

pub depth_push : (ts : List SyntaxTree) (t : SyntaxTree) →
    trees_depth (trees (ts ++ t ∷ [])) ≡ max (trees_depth (trees ts)) (tree_depth (tree t))
depth_push [] t = omega arith
depth_push (u ∷ us) t = omega (arith, depth_push us t)

pub trees_count : (ts : List SyntaxTree) → tree_count (trees ts) ≡ length ts
trees_count [] = refl
trees_count (t ∷ ts) = omega (arith, trees_count ts)

pub guards_push : (gs : List Trees) (tests : Trees) → guards (gs ++ tests ∷ []) ≡ with_last_guard (guards gs) tests
guards_push [] tests = refl
guards_push (g ∷ gs) tests = ap (λ hs. guard g hs) (guards_push gs tests)

pub guards_depth_push : (gs : List Trees) (tests : Trees) →
    guards_depth (guards (gs ++ tests ∷ [])) ≡ max (guards_depth (guards gs)) (trees_depth tests)
guards_depth_push [] tests = omega arith
guards_depth_push (g ∷ gs) tests = omega (arith, guards_depth_push gs tests)

pub clauses_push : (cs : List ClauseTree) (t : Tree) (gs : Guards) (body : Trees) (c : ClauseTree) →
    c ≡ record { patterns = more t none; guard = gs; body = body } →
    clauses (cs ++ c ∷ []) ≡ with_last_clause (clauses cs) (t, (gs, body))
clauses_push [] t gs body c is = ap (λ d. clause d.patterns d.guard d.body (clauses [])) is
clauses_push (d ∷ ds) t gs body c is = ap (λ es. clause d.patterns d.guard d.body es) (clauses_push ds t gs body c is)

pub clauses_depth_push : (cs : List ClauseTree) (c : ClauseTree) →
    clauses_depth (clauses (cs ++ c ∷ [])) ≡
    max (clauses_depth (clauses cs)) (max (max (trees_depth c.patterns) (guards_depth c.guard)) (trees_depth c.body))
clauses_depth_push [] c = omega arith
clauses_depth_push (d ∷ ds) c = omega (arith, clauses_depth_push ds c)

tree_at : (items : List SyntaxTree) (i : ℕ) (t : SyntaxTree) → i < length items →
    tree_depth (tree (get_or items i t)) ≤ trees_depth (trees items)
tree_at [] i t within = absurd (omega arith)
tree_at (u ∷ us) zero t within = omega arith
tree_at (u ∷ us) (suc i) t within = omega (arith, tree_at us i t (omega arith))

pub tree_in : (items : List SyntaxTree) (i : ℕ) (t : SyntaxTree) → i < length items → t ≡ get_or items i t →
    tree_depth (tree t) ≤ trees_depth (trees items)
tree_in items i t within is = subst (λ u. tree_depth (tree u) ≤ trees_depth (trees items)) (sym is) (tree_at items i t within)

fit_at : (items : List SyntaxTree) (i next : ℕ) (t : SyntaxTree) → next ≡ suc i → i < length items →
    fit_pattern (trees (drop i items)) ≡ fits_pattern (tree (get_or items i t)) && fit_pattern (trees (drop next items))
fit_at [] i next t is within = absurd (omega arith)
fit_at (u ∷ us) i zero t is within = absurd (omega (arith, is))
fit_at (u ∷ us) zero (suc next) t is within =
    ap (λ k. fits_pattern (tree u) && fit_pattern (trees (drop k us))) {x = zero} {y = next} (omega (arith, is))
fit_at (u ∷ us) (suc i) (suc next) t is within = fit_at us i next t (omega (arith, is)) (omega arith)

pub fit_in : (items : List SyntaxTree) (i : ℕ) (t : SyntaxTree) → i < length items → t ≡ get_or items i t →
    fit_pattern (trees (drop i items)) ≡ fits_pattern (tree t) && fit_pattern (trees (drop (i + 1) items))
fit_in items i t within is = fit_at items i (i + 1) t (omega arith) within ∙
    ap (λ u. fits_pattern (tree u) && fit_pattern (trees (drop (i + 1) items))) (sym is)

pub fit_end : (items : List SyntaxTree) (i : ℕ) → length items ≤ i → fit_pattern (trees (drop i items)) ≡ fit_pattern (trees [])
fit_end [] zero past = refl
fit_end [] (suc i) past = refl
fit_end (u ∷ us) zero past = absurd (omega (arith, past))
fit_end (u ∷ us) (suc i) past = fit_end us i (omega (arith, past))
