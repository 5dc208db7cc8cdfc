-- Rows of values, as terms: one item more.
use Rattle.std.proofs.Common.{◌≡◌, ℕ, ◌+◌, ◌<◌, pos, List, [], ◌∷◌, ◌++◌, length, get_or, take, sym, ap, ◌∙◌, refl}
use Rattle.std.proofs.lemmas.List.{take_more}
use Rattle.erl_term.specs.declared.term.Term.{Term}
use Rattle.erl_term.specs.Conversions.{rows}
use Rattle.erl_term.specs.Rows.{integers}
use Rattle.erl_term.specs.Term.{tree, trees}
use Rattle.erl_term.specs.Tree.{Tree, Trees, int, none, more}

-- a row with one term more at its end
abbrev behind : Trees → Tree → Trees
behind none t = more t none
behind (more u us) t = more u (behind us t)

trees_push : (ts : List Term) (t : Term) → trees (ts ++ t ∷ []) ≡ behind (trees ts) (tree t)
trees_push [] t = refl
trees_push (u ∷ us) t = ap (λ ts. more (tree u) ts) (trees_push us t)

rows_push : {A : Type 0} (write : A → Tree) (xs : List A) (x : A) → rows write (xs ++ x ∷ []) ≡ behind (rows write xs) (write x)
rows_push write [] x = refl
rows_push write (y ∷ ys) x = ap (λ ts. more (write y) ts) (rows_push write ys x)

-- one item more, written
pub rows_more : {A : Type 0} (write : A → Tree) (items : List A) (i : ℕ) (x : A) (done : List Term) (t : Term) → i < length items → x ≡ get_or items i x → trees done ≡ rows write (take i items) → tree t ≡ write x → trees (done ++ t ∷ []) ≡ rows write (take (i + 1) items)
rows_more write items i x done t within is so_far here =
    trees_push done t ∙ ap (λ ts. behind ts (tree t)) so_far ∙ ap (λ u. behind (rows write (take i items)) u) here ∙ sym (rows_push write (take i items) x) ∙ ap (rows write) (sym (take_more items i x within ∙ ap (λ u. take i items ++ u ∷ []) (sym is)))

integers_push : (cs : List ℕ) (c : ℕ) → integers (cs ++ c ∷ []) ≡ behind (integers cs) (int (pos c))
integers_push [] c = refl
integers_push (d ∷ ds) c = ap (λ ts. more (int (pos d)) ts) (integers_push ds c)

-- one character more
pub integers_more : (cs : List ℕ) (c : ℕ) (done : List Term) (t : Term) → trees done ≡ integers cs → tree t ≡ int (pos c) → trees (done ++ t ∷ []) ≡ integers (cs ++ c ∷ [])
integers_more cs c done t so_far here =
    trees_push done t ∙ ap (λ ts. behind ts (tree t)) so_far ∙ ap (λ u. behind (integers cs) u) here ∙ sym (integers_push cs c)
