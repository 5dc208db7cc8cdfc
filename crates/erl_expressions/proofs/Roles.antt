-- What an expression and a pattern have in common, and the parts of a node as trees in a row.
use Rattle.std.proofs.Common.{◌≡◌, ◌≤◌, IsTrue, subst, sym, refl, arith, true≢false}
use Rattle.erl_ast.specs.declared.role.Role.{Role}
use Rattle.erl_ast.specs.declared.role.Role.TheVariants.{Expression, Pattern, Test}
use Rattle.erl_ast.specs.declared.shape.Infix.{Infix}
use Rattle.erl_ast.specs.declared.shape.Infix.TheVariants as infixes
use Rattle.erl_ast.specs.declared.shape.Shape.{Shape}
use Rattle.erl_ast.specs.declared.shape.Shape.TheVariants as shapes
use Rattle.erl_ast.specs.Tree.{Tree, Trees, leaf, node, case, none, more}
use Rattle.erl_ast.specs.Grammar.{level, level_of, matches, operations, first_level, other_level, first_role, has_operator, IsWell, ArePartsWell, AreWell}
use Rattle.erl_expressions.specs.Reading.{fits_pattern, fit_pattern, fits}
use Rattle.erl_expressions.proofs.Inversion.{both}

-- Nodes whose parts are alike

pub parts_of_row : (role : Role) (shape : Shape) → first_role role shape ≡ role → other_level role shape ≡ first_level role shape →
    (us : Trees) → AreWell role (first_level role shape) us → ArePartsWell role shape us
parts_of_row role shape alike even none well = tt
parts_of_row role shape alike even (more t us) well =
    (well.0, subst (λ r. IsWell r t) (sym alike) well.1, subst (λ m. AreWell role m us) (sym even) well.2)

pub row_of_parts : (role : Role) (shape : Shape) → first_role role shape ≡ role → other_level role shape ≡ first_level role shape →
    (us : Trees) → ArePartsWell role shape us → AreWell role (first_level role shape) us
row_of_parts role shape alike even none well = tt
row_of_parts role shape alike even (more t us) well =
    (well.0, subst (λ r. IsWell r t) alike well.1, subst (λ m. AreWell role m us) even well.2)

-- An expression that fits is a pattern, and a pattern that fits an expression.

mutual
  pub pattern_of : (t : Tree) → IsWell Expression t → IsTrue (fits_pattern t) → IsWell Pattern t
  pattern_of (leaf l) well fit = well
  pattern_of (node shapes.Tuple us) well fit =
      (refl, refl, parts_of_row Pattern shapes.Tuple refl refl us (patterns_of us (row_of_parts Expression shapes.Tuple refl refl us well.2) fit))
  pattern_of (node shapes.List us) well fit =
      (refl, refl, parts_of_row Pattern shapes.List refl refl us (patterns_of us (row_of_parts Expression shapes.List refl refl us well.2) fit))
  pattern_of (node shapes.Cons us) well fit =
      (well.0, refl, parts_of_row Pattern shapes.Cons refl refl us (patterns_of us (row_of_parts Expression shapes.Cons refl refl us well.2) fit))
  pattern_of (node shapes.Parenthesized us) well fit =
      (well.0, refl, parts_of_row Pattern shapes.Parenthesized refl refl us (patterns_of us (row_of_parts Expression shapes.Parenthesized refl refl us well.2) fit))
  pattern_of (node _ us) well fit = absurd (true≢false (sym fit))
  pattern_of (case subject cs) well fit = absurd (true≢false (sym fit))

  patterns_of : (us : Trees) → AreWell Expression operations us → IsTrue (fit_pattern us) → AreWell Pattern matches us
  patterns_of none well fit = tt
  patterns_of (more t us) well fit =
      let each = both (fits_pattern t) (fit_pattern us) fit in
      (omega (arith, well.0), pattern_of t well.1 each.0, patterns_of us well.2 each.1)

pub flat : (t : Tree) → IsTrue (fits_pattern t) → level t ≤ operations
flat (leaf l) fit = omega arith
flat (node shapes.Tuple us) fit = omega arith
flat (node shapes.List us) fit = omega arith
flat (node shapes.Cons us) fit = omega arith
flat (node shapes.Parenthesized us) fit = omega arith
flat (node _ us) fit = absurd (true≢false (sym fit))
flat (case subject cs) fit = absurd (true≢false (sym fit))

mutual
  pub expression_of : (t : Tree) → IsWell Pattern t → IsTrue (fits_pattern t) → IsWell Expression t
  expression_of (leaf l) well fit = well
  expression_of (node shapes.Tuple us) well fit =
      (refl, refl, parts_of_row Expression shapes.Tuple refl refl us (expressions_of us (row_of_parts Pattern shapes.Tuple refl refl us well.2) fit))
  expression_of (node shapes.List us) well fit =
      (refl, refl, parts_of_row Expression shapes.List refl refl us (expressions_of us (row_of_parts Pattern shapes.List refl refl us well.2) fit))
  expression_of (node shapes.Cons us) well fit =
      (well.0, refl, parts_of_row Expression shapes.Cons refl refl us (expressions_of us (row_of_parts Pattern shapes.Cons refl refl us well.2) fit))
  expression_of (node shapes.Parenthesized us) well fit =
      (well.0, refl, parts_of_row Expression shapes.Parenthesized refl refl us (expressions_of us (row_of_parts Pattern shapes.Parenthesized refl refl us well.2) fit))
  expression_of (node _ us) well fit = absurd (true≢false (sym fit))
  expression_of (case subject cs) well fit = absurd (true≢false (sym fit))

  pub expressions_of : (us : Trees) → AreWell Pattern matches us → IsTrue (fit_pattern us) → AreWell Expression operations us
  expressions_of none well fit = tt
  expressions_of (more t us) well fit =
      let each = both (fits_pattern t) (fit_pattern us) fit in
      (flat t each.0, expression_of t well.1 each.0, expressions_of us well.2 each.1)

-- What stands left of an operator

pub left_well : (role : Role) (op : Infix) (t : Tree) → IsTrue (has_operator role op) → IsWell role t → IsTrue (fits role op t) →
    IsWell (first_role role (shapes.Infix op)) t
left_well Expression infixes.Match t allowed well fit = pattern_of t well fit
left_well Pattern infixes.Match t allowed well fit = well
left_well Test infixes.Match t allowed well fit = absurd (true≢false (sym allowed))
left_well role _ t allowed well fit = well

-- of an operation, all parts have its role
pub own_role : (role : Role) (op : Infix) → level_of op ≤ operations → first_role role (shapes.Infix op) ≡ role
own_role role infixes.Match low = absurd (omega (arith, low))
own_role role _ low = refl

pub fits_operation : (role : Role) (op : Infix) (t : Tree) → level_of op ≤ operations → IsTrue (fits role op t)
fits_operation Expression infixes.Match t low = absurd (omega (arith, low))
fits_operation Expression _ t low = refl
fits_operation Pattern op t low = refl
fits_operation Test op t low = refl

-- a pattern that is no match has no level
pub pattern_flat : (t : Tree) → IsWell Pattern t → level t ≤ operations → level t ≤ 1
pattern_flat (leaf l) well low = omega arith
pattern_flat (case subject cs) well low = omega arith
pattern_flat (node (shapes.Infix infixes.Match) us) well low = absurd (omega (arith, low))
pattern_flat (node (shapes.Infix _) us) well low = absurd (true≢false (sym well.0))
pattern_flat (node _ us) well low = omega arith
