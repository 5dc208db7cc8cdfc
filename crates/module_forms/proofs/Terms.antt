-- Terms as they are written, part by part.
use Rattle.std.proofs.Common.{◌≡◌, ℕ, zero, suc, ◌+◌, ◌<◌, ◌≤◌, Bool, true, ◌&&◌, List, [], ◌∷◌, ◌++◌, length, get_or, take, drop, ap, sym, subst, ◌∙◌, refl, arith}
use Rattle.std.proofs.lemmas.List.{take_more, take_all}
use Rattle.erl_ast.specs.declared.tree.SyntaxTree.{SyntaxTree}
use Rattle.erl_ast.specs.Forms.{is_term, are_terms, is_list, ends_with_list}
use Rattle.erl_ast.specs.TreeForms.{tree, trees}

are_at : (items : List SyntaxTree) (i next : ℕ) (t : SyntaxTree) → next ≡ suc i → i < length items →
    are_terms (trees (drop i items)) ≡ is_term (tree (get_or items i t)) && are_terms (trees (drop next items))
are_at [] i next t is within = absurd (omega arith)
are_at (u ∷ us) i zero t is within = absurd (omega (arith, is))
are_at (u ∷ us) zero (suc next) t is within =
    ap (λ k. is_term (tree u) && are_terms (trees (drop k us))) {x = zero} {y = next} (omega (arith, is))
are_at (u ∷ us) (suc i) (suc next) t is within = are_at us i next t (omega (arith, is)) (omega arith)

pub are_in : (items : List SyntaxTree) (i : ℕ) (t : SyntaxTree) → i < length items → t ≡ get_or items i t →
    are_terms (trees (drop i items)) ≡ is_term (tree t) && are_terms (trees (drop (i + 1) items))
are_in items i t within is = are_at items i (i + 1) t (omega arith) within ∙
    ap (λ u. is_term (tree u) && are_terms (trees (drop (i + 1) items))) (sym is)

list_push : (ts : List SyntaxTree) (t : SyntaxTree) → ends_with_list (trees (ts ++ t ∷ [])) ≡ is_list (tree t)
list_push [] t = refl
list_push (u ∷ []) t = refl
list_push (u ∷ v ∷ vs) t = list_push (v ∷ vs) t

pub list_more : (items : List SyntaxTree) (i : ℕ) (t : SyntaxTree) → i < length items → t ≡ get_or items i t →
    ends_with_list (trees (take (i + 1) items)) ≡ is_list (tree t)
list_more items i t within is =
    ap (λ ts. ends_with_list (trees ts)) (take_more items i t within ∙ ap (λ u. take i items ++ u ∷ []) (sym is)) ∙ list_push (take i items) t

pub list_end : (items : List SyntaxTree) (i : ℕ) → length items ≤ i → ends_with_list (trees (take i items)) ≡ ends_with_list (trees items)
list_end items i past = ap (λ ts. ends_with_list (trees ts)) (take_all i items past)
