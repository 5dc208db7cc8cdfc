-- What is written of a tree is longer than what follows it.
use Rattle.std.proofs.Common.{◌≡◌, ℕ, suc, ◌≤◌, ◌==◌, Bool, ◌&&◌, IsTrue, List, [], ◌∷◌, length, sym, arith, rules, true≢false}
use Rattle.erl_scan.specs.declared.mark.Mark.TheVariants as marks
use Rattle.erl_scan.specs.declared.word.Word.TheVariants as words
use Rattle.erl_ast.specs.declared.leaf.Sign.TheVariants as signs
use Rattle.erl_ast.specs.declared.leaf.Leaf.{Leaf}
use Rattle.erl_ast.specs.declared.leaf.Leaf.TheVariants as leaves
use Rattle.erl_ast.specs.declared.role.Role.{Role}
use Rattle.erl_ast.specs.declared.shape.Qualifier.TheVariants as qualifier
use Rattle.erl_ast.specs.declared.shape.Shape.{Shape}
use Rattle.erl_ast.specs.declared.shape.Shape.TheVariants as shapes
use Rattle.erl_ast.specs.Terminal.{Terminal, word, mark}
use Rattle.erl_ast.specs.Tree.{Tree, Trees, Guards, Clauses, leaf, node, case, none, more, no_guards, guard, no_clauses, clause}
use Rattle.erl_ast.specs.Grammar.{is_leaf, has_operator, IsWell}
use Rattle.erl_ast.specs.Written.{written, leaf_written, strings_written, opened, closed, parts_written, other_parts_written, row_written, others_written, guards_written, other_guards_written, clauses_written, other_clauses_written}

strings_longer : (ss : List (List ℕ)) (ts : List Terminal) → length ts ≤ length (strings_written ss ts)
strings_longer [] ts = omega arith
strings_longer (s ∷ ss) ts = omega (arith, strings_longer ss ts)

leaf_longer : (l : Leaf) (ts : List Terminal) → length ts ≤ length (leaf_written l ts)
leaf_longer (leaves.Integer signs.Unsigned n) ts = omega arith
leaf_longer (leaves.Integer signs.Plus n) ts = omega arith
leaf_longer (leaves.Integer signs.Minus n) ts = omega arith
leaf_longer (leaves.Atom named) ts = omega arith
leaf_longer (leaves.Strings ss) ts = strings_longer ss ts
leaf_longer (leaves.Variable name at) ts = omega arith
leaf_longer (leaves.ModuleName at) ts = omega arith

opened_longer : (shape : Shape) (ts : List Terminal) → length ts ≤ length (opened shape ts)
opened_longer shapes.Tuple ts = omega arith
opened_longer shapes.List ts = omega arith
opened_longer shapes.Cons ts = omega arith
opened_longer shapes.Parenthesized ts = omega arith
opened_longer shapes.Block ts = omega arith
opened_longer (shapes.Local f) ts = omega arith
opened_longer (shapes.Remote (qualifier.Module m) f) ts = omega arith
opened_longer (shapes.Remote (qualifier.ModuleName at) f) ts = omega arith
opened_longer (shapes.Prefix op) ts = omega arith
opened_longer (shapes.Infix op) ts = omega arith

closed_longer : (shape : Shape) (ts : List Terminal) → length ts ≤ length (closed shape ts)
closed_longer shapes.Tuple ts = omega arith
closed_longer shapes.List ts = omega arith
closed_longer shapes.Cons ts = omega arith
closed_longer shapes.Parenthesized ts = omega arith
closed_longer shapes.Block ts = omega arith
closed_longer (shapes.Local f) ts = omega arith
closed_longer (shapes.Remote m f) ts = omega arith
closed_longer (shapes.Prefix op) ts = omega arith
closed_longer (shapes.Infix op) ts = omega arith

mutual
  pub tree_longer : (t : Tree) (ts : List Terminal) → length ts ≤ length (written t ts)
  tree_longer (leaf l) ts = leaf_longer l ts
  tree_longer (node shape us) ts = omega (
    arith,
    opened_longer shape (parts_written shape us (closed shape ts)),
    parts_longer shape us (closed shape ts),
    closed_longer shape ts,
  )
  tree_longer (case subject cs) ts =
      let behind = word words.Of ∷ clauses_written cs (word words.End ∷ ts) in
      omega (arith, clauses_longer cs (word words.End ∷ ts), row_longer subject behind)

  pub parts_longer : (shape : Shape) (us : Trees) (ts : List Terminal) → length ts ≤ length (parts_written shape us ts)
  parts_longer shape none ts = omega arith
  parts_longer shape (more t us) ts = omega (arith, tree_longer t (other_parts_written shape us ts), other_parts_longer shape us ts)

  other_parts_longer : (shape : Shape) (us : Trees) (ts : List Terminal) → length ts ≤ length (other_parts_written shape us ts)
  other_parts_longer shape none ts = omega arith
  other_parts_longer shape (more t us) ts = omega (arith, tree_longer t (other_parts_written shape us ts), other_parts_longer shape us ts)

  pub row_longer : (us : Trees) (ts : List Terminal) → length ts ≤ length (row_written us ts)
  row_longer none ts = omega arith
  row_longer (more t us) ts = omega (arith, tree_longer t (others_written us ts), others_longer us ts)

  pub others_longer : (us : Trees) (ts : List Terminal) → length ts ≤ length (others_written us ts)
  others_longer none ts = omega arith
  others_longer (more t us) ts = omega (arith, tree_longer t (others_written us ts), others_longer us ts)

  pub guards_longer : (gs : Guards) (ts : List Terminal) → length ts ≤ length (guards_written gs ts)
  guards_longer no_guards ts = omega arith
  guards_longer (guard us gs) ts = omega (arith, row_longer us (other_guards_written gs ts), other_guards_longer gs ts)

  pub other_guards_longer : (gs : Guards) (ts : List Terminal) → length ts ≤ length (other_guards_written gs ts)
  other_guards_longer no_guards ts = omega arith
  other_guards_longer (guard us gs) ts = omega (arith, row_longer us (other_guards_written gs ts), other_guards_longer gs ts)

  pub clauses_longer : (cs : Clauses) (ts : List Terminal) → length ts ≤ length (clauses_written cs ts)
  clauses_longer no_clauses ts = omega arith
  clauses_longer (clause ps gs body cs) ts =
      let others = other_clauses_written cs ts in
      let behind = mark marks.Arrow ∷ row_written body others in
      omega (
        arith,
        row_longer ps (guards_written gs behind),
        guards_longer gs behind,
        row_longer body others,
        other_clauses_longer cs ts,
      )

  pub other_clauses_longer : (cs : Clauses) (ts : List Terminal) → length ts ≤ length (other_clauses_written cs ts)
  other_clauses_longer no_clauses ts = omega arith
  other_clauses_longer (clause ps gs body cs) ts =
      let others = other_clauses_written cs ts in
      let behind = mark marks.Arrow ∷ row_written body others in
      omega (
        arith,
        row_longer ps (guards_written gs behind),
        guards_longer gs behind,
        row_longer body others,
        other_clauses_longer cs ts,
      )

-- A tree has a token of its own.

own_leaf : (l : Leaf) (ts : List Terminal) → IsTrue (is_leaf l) → suc (length ts) ≤ length (leaf_written l ts)
own_leaf (leaves.Integer signs.Unsigned n) ts is = omega arith
own_leaf (leaves.Integer signs.Plus n) ts is = omega arith
own_leaf (leaves.Integer signs.Minus n) ts is = omega arith
own_leaf (leaves.Atom named) ts is = omega arith
own_leaf (leaves.Strings []) ts is = absurd (true≢false (sym is))
own_leaf (leaves.Strings (s ∷ ss)) ts is = omega (arith, strings_longer ss ts)
own_leaf (leaves.Variable name at) ts is = omega arith
own_leaf (leaves.ModuleName at) ts is = omega arith

pub two_parts : (b : Bool) (n : ℕ) → IsTrue (b && (n == 2)) → n ≡ 2
two_parts b n is = search rules

pub own_tree : (role : Role) (t : Tree) (ts : List Terminal) → IsWell role t → suc (length ts) ≤ length (written t ts)
own_tree role (leaf l) ts is = own_leaf l ts is
own_tree role (case subject cs) ts is =
    let behind = word words.Of ∷ clauses_written cs (word words.End ∷ ts) in
    omega (arith, clauses_longer cs (word words.End ∷ ts), row_longer subject behind)
own_tree role (node shapes.Tuple us) ts is = omega (arith, parts_longer shapes.Tuple us (closed shapes.Tuple ts))
own_tree role (node shapes.List us) ts is = omega (arith, parts_longer shapes.List us (closed shapes.List ts))
own_tree role (node shapes.Cons us) ts is = omega (arith, parts_longer shapes.Cons us (closed shapes.Cons ts))
own_tree role (node shapes.Parenthesized us) ts is = omega (arith, parts_longer shapes.Parenthesized us (closed shapes.Parenthesized ts))
own_tree role (node shapes.Block us) ts is = omega (arith, parts_longer shapes.Block us (closed shapes.Block ts))
own_tree role (node (shapes.Local f) us) ts is = omega (arith, parts_longer (shapes.Local f) us (closed (shapes.Local f) ts))
own_tree role (node (shapes.Remote (qualifier.Module m) f) us) ts is =
    omega (arith, parts_longer (shapes.Remote (qualifier.Module m) f) us (closed (shapes.Remote (qualifier.Module m) f) ts))
own_tree role (node (shapes.Remote (qualifier.ModuleName at) f) us) ts is =
    omega (arith, parts_longer (shapes.Remote (qualifier.ModuleName at) f) us (closed (shapes.Remote (qualifier.ModuleName at) f) ts))
own_tree role (node (shapes.Prefix op) us) ts is = omega (arith, parts_longer (shapes.Prefix op) us ts)
own_tree role (node (shapes.Infix op) none) ts is = absurd (omega (arith, two_parts (has_operator role op) 0 is.0))
own_tree role (node (shapes.Infix op) (more a none)) ts is = absurd (omega (arith, two_parts (has_operator role op) 1 is.0))
own_tree role (node (shapes.Infix op) (more a (more b us))) ts is =
    let others = other_parts_written (shapes.Infix op) (more b us) ts in
    let behind = other_parts_written (shapes.Infix op) us ts in
    omega (arith, tree_longer a others, tree_longer b behind, other_parts_longer (shapes.Infix op) us ts)
