-- What literals mean: the terms that they are (Erlang Reference Manual, Data Types).
use Rattle.std.specs.Prelude.{ℕ, ℤ, pos, neg_ℤ, min, ◌-◌, ◌^◌, List, [], ◌∷◌}
use Rattle.erl_term.specs.Rows.{append_trees, integers}
use Rattle.erl_term.specs.Tree as term
use Rattle.erl_ast.specs.declared.leaf.Leaf.{Leaf}
use Rattle.erl_ast.specs.declared.leaf.Leaf.TheVariants as leaves
use Rattle.erl_ast.specs.declared.leaf.Sign.{Sign}
use Rattle.erl_ast.specs.declared.leaf.Sign.TheVariants.{Unsigned, Plus, Minus}
use Rattle.erl_ast.specs.declared.shape.Shape.{Shape}
use Rattle.erl_ast.specs.declared.shape.Shape.TheVariants as shapes
use Rattle.erl_ast.specs.Tree.{Tree, Trees, leaf, node, case, none, more}

-- An integer is the value of its digits, with its sign. Integers of terms are in -2^63 to 2^63 - 1, and so are those of
-- sources; where a tree has another one, it means the nearest of these.
abbrev pub integer_of : Sign → ℕ → ℤ
integer_of Minus n = neg_ℤ (pos (min n (2 ^ 63)))
integer_of Plus n = pos (min n (2 ^ 63 - 1))
integer_of Unsigned n = pos (min n (2 ^ 63 - 1))

-- Adjacent strings are one: the code points of their characters.
abbrev pub characters : List (List ℕ) → term.Trees
characters [] = term.none
characters (s ∷ ss) = append_trees (integers s) (characters ss)

-- What a leaf is in a module of this name, where it is a literal. A variable is none: where a tree has one in place of a
-- literal, it means `[]`.
abbrev pub literal_of : List ℕ → Leaf → term.Tree
literal_of own (leaves.Integer sign n) = term.int (integer_of sign n)
literal_of own (leaves.Atom named) = term.atom named.name
literal_of own (leaves.Strings ss) = term.list (characters ss)
literal_of own (leaves.ModuleName at) = term.atom own
literal_of own (leaves.Variable name at) = term.list term.none

-- what a list is made of
abbrev pub elements_of : term.Tree → term.Trees
elements_of (term.list ts) = ts
elements_of t = term.none

-- elements, and behind them those of the list that stands last
abbrev pub before_tail : term.Trees → term.Trees
before_tail term.none = term.none
before_tail (term.more t term.none) = elements_of t
before_tail (term.more t (term.more u us)) = term.more t (before_tail (term.more u us))

-- what a tuple or a list of these elements is; of `[T1,..,Tn|T]` the last is the tail
abbrev pub made_term : Shape → term.Trees → term.Tree
made_term shapes.Tuple ts = term.tuple ts
made_term shapes.Cons ts = term.list (before_tail ts)
made_term shape ts = term.list ts

-- the term of an attribute
abbrev mutual
  pub term_in : List ℕ → Tree → term.Tree
  term_in own (leaf l) = literal_of own l
  term_in own (node shape ts) = made_term shape (terms_in own ts)
  term_in own (case subject cs) = term.list term.none

  pub terms_in : List ℕ → Trees → term.Trees
  terms_in own none = term.none
  terms_in own (more t ts) = term.more (term_in own t) (terms_in own ts)
