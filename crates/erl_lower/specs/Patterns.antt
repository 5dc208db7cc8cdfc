-- What patterns mean (Erlang Reference Manual, Expressions, Pattern Matching): a variable is its index among those that are
-- bound, in the order in which patterns are matched, from left to right. One that is not bound is bound behind all.
use Rattle.std.specs.Prelude.{ℕ, if◌then◌else◌, List, codes}
use Rattle.std.specs.Str.{bytes_eq}
use Rattle.erl_ast.specs.declared.leaf.Leaf.{Leaf}
use Rattle.erl_ast.specs.declared.leaf.Leaf.TheVariants as leaves
use Rattle.erl_ast.specs.declared.shape.Shape.{Shape}
use Rattle.erl_ast.specs.declared.shape.Shape.TheVariants as shapes
use Rattle.erl_ast.specs.Tree.{Tree, Trees, leaf, node, case, none, more}
use Rattle.erl_lint.specs.Scopes.{Names, pattern_names, index_of, with_names}
use Rattle.erl_ir.specs.Pattern as pattern
use Rattle.erl_ir.specs.Pattern.{Pat, Pats}
use Rattle.erl_lower.specs.Literals.{literal_of}

abbrev pub pattern_variable : Names → List ℕ → Pat
pattern_variable bound name = if bytes_eq name (codes "_") then pattern.anything else pattern.variable (index_of bound name)

abbrev pub leaf_pattern : List ℕ → Names → Leaf → Pat
leaf_pattern own bound (leaves.Variable name at) = pattern_variable bound name
leaf_pattern own bound l = pattern.literal (literal_of own l)

-- `(P)` is P
abbrev pub alone : Pats → Pat
alone (pattern.more p pattern.none) = p
alone ps = pattern.alias ps

-- what is made of the patterns of a shape's parts; but for these shapes, that is `P1 = P2`
abbrev pub made_pattern : Shape → Pats → Pat
made_pattern shapes.Tuple ps = pattern.tuple ps
made_pattern shapes.List ps = pattern.list ps
made_pattern shapes.Cons ps = pattern.cons ps
made_pattern shapes.Parenthesized ps = alone ps
made_pattern shape ps = pattern.alias ps

abbrev mutual
  pub pattern_of : List ℕ → Names → Tree → Pat
  pattern_of own bound (leaf l) = leaf_pattern own bound l
  pattern_of own bound (node shape ps) = made_pattern shape (patterns_of own bound ps)
  -- no pattern has a `case`
  pattern_of own bound (case subject cs) = pattern.anything

  pub patterns_of : List ℕ → Names → Trees → Pats
  patterns_of own bound none = pattern.none
  patterns_of own bound (more p ps) =
      pattern.more (pattern_of own bound p) (patterns_of own (with_names bound (pattern_names p)) ps)
