-- What a term is as a tree: one level, since contracts see a row of terms as trees already.
use Rattle.std.specs.Prelude.{◌≡◌, List, [], ◌∷◌, refl}
use Rattle.std.proofs.Common.{ap, sym, ◌∙◌}
use Rattle.erl_term.specs.declared.term.Term.{Term}
use Rattle.erl_term.specs.declared.term.Term.TheVariants.{Int, Atom, Pid, Tuple, List as ListOf}
use Rattle.erl_term.specs.Tree.{Tree, Trees, int, atom, pid, tuple, list, none, more}

abbrev pub tree : Term → Tree
tree (Int n) = int n
tree (Atom a) = atom a
tree (Pid n) = pid n
tree (Tuple ts) = tuple ts
tree (ListOf ts) = list ts

-- and what terms in a row are
abbrev pub trees : List Term → Trees
trees [] = none
trees (t ∷ ts) = more (tree t) (trees ts)

-- the way back
abbrev pub term_of : Tree → Term
term_of (int n) = Int n
term_of (atom a) = Atom a
term_of (pid n) = Pid n
term_of (tuple ts) = Tuple ts
term_of (list ts) = ListOf ts

abbrev pub terms_of : Trees → List Term
terms_of none = []
terms_of (more t ts) = term_of t ∷ terms_of ts

pub term_of-tree : (t : Term) → term_of (tree t) ≡ t
term_of-tree (Int n) = refl
term_of-tree (Atom a) = refl
term_of-tree (Pid n) = refl
term_of-tree (Tuple ts) = refl
term_of-tree (ListOf ts) = refl

pub terms_of-trees : (ts : List Term) → terms_of (trees ts) ≡ ts
terms_of-trees [] = refl
terms_of-trees (t ∷ ts) = ap (λ u. u ∷ terms_of (trees ts)) (term_of-tree t) ∙ ap (λ us. t ∷ us) (terms_of-trees ts)

pub trees-same : (ts us : List Term) → trees ts ≡ trees us → ts ≡ us
trees-same ts us same = sym (terms_of-trees ts) ∙ ap terms_of same ∙ terms_of-trees us
