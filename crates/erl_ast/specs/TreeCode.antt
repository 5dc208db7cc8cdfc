-- Syntax trees as ghost values: what a model whose value is trees needs. The codes of leaves and shapes are found where the
-- model stands.
use Rattle.std.specs.Prelude.{◌≡◌, ℕ, refl}
use Rattle.std.proofs.Common.{ap, arith}
use base.Stored.{Gv, gnil, gnum, gcons, num, Coded}
use Rattle.erl_ast.specs.declared.leaf.Leaf.{Leaf}
use Rattle.erl_ast.specs.declared.shape.Shape.{Shape}
use Rattle.erl_ast.specs.Tree.{Tree, Trees, Guards, Clauses}
use Rattle.erl_ast.specs.Tree.{leaf, node, case, none, more, no_guards, guard, no_clauses, clause}

-- a code's two parts
abbrev pub front : Gv → Gv
front gnil = gnil
front (gnum n) = gnil
front (gcons a b) = a

abbrev pub behind : Gv → Gv
behind gnil = gnil
behind (gnum n) = gnil
behind (gcons a b) = b

-- the number in front of a code; 1 and it in front of a row's
abbrev pub kind : Gv → ℕ
kind g = num (front g)

abbrev pub IsPair : Gv → ℕ
IsPair gnil = 0
IsPair (gnum n) = 0
IsPair (gcons a b) = 1

module _ (leaves : Coded Leaf) (shapes : Coded Shape) where
  abbrev mutual
    pub tree_code : Tree → Gv
    tree_code (leaf l) = gcons (gnum 0) (leaves.code l)
    tree_code (node shape ts) = gcons (gnum 1) (gcons (shapes.code shape) (trees_code ts))
    tree_code (case subject cs) = gcons (gnum 2) (gcons (trees_code subject) (clauses_code cs))

    pub trees_code : Trees → Gv
    trees_code none = gnil
    trees_code (more t ts) = gcons (tree_code t) (trees_code ts)

    pub guards_code : Guards → Gv
    guards_code no_guards = gnil
    guards_code (guard tests gs) = gcons (trees_code tests) (guards_code gs)

    pub clauses_code : Clauses → Gv
    clauses_code no_clauses = gnil
    clauses_code (clause ps gs body cs) =
        gcons (trees_code ps) (gcons (guards_code gs) (gcons (trees_code body) (clauses_code cs)))

  mutual
    pub tree_code-injective : (x y : Tree) → tree_code x ≡ tree_code y → x ≡ y
    tree_code-injective (leaf l) (leaf m) same = ap leaf (leaves.inj l m (ap behind same))
    tree_code-injective (node s ts) (node r us) same = λ i. node
        (shapes.inj s r (ap (λ g. front (behind g)) same) i) (trees_code-injective ts us (ap (λ g. behind (behind g)) same) i)
    tree_code-injective (case ts cs) (case us ds) same = λ i. case
        (trees_code-injective ts us (ap (λ g. front (behind g)) same) i)
        (clauses_code-injective cs ds (ap (λ g. behind (behind g)) same) i)
    tree_code-injective _ _ same = absurd (omega (arith, ap kind same))

    pub trees_code-injective : (x y : Trees) → trees_code x ≡ trees_code y → x ≡ y
    trees_code-injective none none same = refl
    trees_code-injective (more t ts) (more u us) same = λ i. more
        (tree_code-injective t u (ap front same) i) (trees_code-injective ts us (ap behind same) i)
    trees_code-injective _ _ same = absurd (omega (arith, ap IsPair same))

    pub guards_code-injective : (x y : Guards) → guards_code x ≡ guards_code y → x ≡ y
    guards_code-injective no_guards no_guards same = refl
    guards_code-injective (guard t gs) (guard u hs) same = λ i. guard
        (trees_code-injective t u (ap front same) i) (guards_code-injective gs hs (ap behind same) i)
    guards_code-injective _ _ same = absurd (omega (arith, ap IsPair same))

    pub clauses_code-injective : (x y : Clauses) → clauses_code x ≡ clauses_code y → x ≡ y
    clauses_code-injective no_clauses no_clauses same = refl
    clauses_code-injective (clause ps g ts cs) (clause qs h us ds) same = λ i. clause
        (trees_code-injective ps qs (ap front same) i)
        (guards_code-injective g h (ap (λ x. front (behind x)) same) i)
        (trees_code-injective ts us (ap (λ x. front (behind (behind x))) same) i)
        (clauses_code-injective cs ds (ap (λ x. behind (behind (behind x))) same) i)
    clauses_code-injective _ _ same = absurd (omega (arith, ap IsPair same))

  abbrev pub tree_coded : Coded Tree
  tree_coded = record { code = tree_code; inj = tree_code-injective }

  abbrev pub trees_coded : Coded Trees
  trees_coded = record { code = trees_code; inj = trees_code-injective }

  abbrev pub guards_coded : Coded Guards
  guards_coded = record { code = guards_code; inj = guards_code-injective }

  abbrev pub clauses_coded : Coded Clauses
  clauses_coded = record { code = clauses_code; inj = clauses_code-injective }
