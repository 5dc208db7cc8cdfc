-- What is written in a row is read as that row.
use Rattle.std.proofs.Common.{◌≡◌, ℕ, zero, suc, ◌≤◌, IsTrue, List, [], ◌∷◌, length, Some, None, ap, sym, ◌∙◌, refl, arith, true≢false}
use Rattle.erl_ast.specs.declared.leaf.Sign.TheVariants as signs
use Rattle.erl_ast.specs.declared.leaf.Leaf.{Leaf}
use Rattle.erl_ast.specs.declared.leaf.Leaf.TheVariants as leaves
use Rattle.erl_ast.specs.declared.role.Role.{Role}
use Rattle.erl_ast.specs.declared.shape.Prefix.TheVariants.{Negate, Not}
use Rattle.erl_ast.specs.declared.shape.Qualifier.TheVariants as qualifier
use Rattle.erl_ast.specs.declared.shape.Shape.TheVariants as shapes
use Rattle.erl_ast.specs.Terminal.{Terminal}
use Rattle.erl_ast.specs.Tree.{Tree, Trees, leaf, node, case, none, more, tree_count, tree_depth, trees_depth}
use Rattle.erl_ast.specs.Grammar.{level, is_leaf, first_role, has_operator, IsWell, AreWell}
use Rattle.erl_ast.specs.Written.{written, leaf_written, row_written, others_written, other_parts_written}
use Rattle.erl_expressions.specs.declared.delimiter.Delimiter.{Delimiter}
use Rattle.erl_expressions.specs.declared.delimiter.Delimiter.TheVariants as delimiters
use Rattle.erl_expressions.specs.declared.delimiter.Delimiter.TheVariants.{Comma}
use Rattle.erl_expressions.specs.Delimiters.{delimiter, after}
use Rattle.erl_expressions.specs.Reading.{Found, Reader, and_then, other_things, separated, row, rest_of_row}
use Rattle.erl_expressions.proofs.Lengths.{own_tree, two_parts}
use Rattle.erl_expressions.specs.Readings.{Stops}
use Rattle.erl_expressions.proofs.Levels.{stops_before}
use Rattle.erl_expressions.proofs.SoundRows.{Things, only, then_more, row_of, row_of-with_more}

-- what is written is read, by a reader of one level less
abbrev pub Whole : Reader → ℕ → Type 0
Whole p n = (role : Role) (most : ℕ) (t : Tree) (rest : List Terminal) → IsWell role t → level t ≤ most → tree_depth t ≤ n →
    Stops most rest → p role most (written t rest) ≡ Some (t, rest)

-- Delimiters

pub after_there : (d : Delimiter) (ts : List Terminal) → after d (delimiter d ∷ ts) ≡ Some ts
after_there delimiters.Comma ts = refl
after_there delimiters.Semicolon ts = refl
after_there delimiters.Bar ts = refl
after_there delimiters.Arrow ts = refl
after_there delimiters.CloseParen ts = refl
after_there delimiters.CloseBrace ts = refl
after_there delimiters.CloseBracket ts = refl
after_there delimiters.When ts = refl
after_there delimiters.Of ts = refl
after_there delimiters.End ts = refl

-- No tree begins with a delimiter.

leaf_no_delimiter : (d : Delimiter) (l : Leaf) (rest : List Terminal) → IsTrue (is_leaf l) → after d (leaf_written l rest) ≡ None
leaf_no_delimiter delimiters.Comma (leaves.Integer signs.Unsigned n) rest is = refl
leaf_no_delimiter delimiters.Comma (leaves.Integer signs.Plus n) rest is = refl
leaf_no_delimiter delimiters.Comma (leaves.Integer signs.Minus n) rest is = refl
leaf_no_delimiter delimiters.Comma (leaves.Atom named) rest is = refl
leaf_no_delimiter delimiters.Comma (leaves.Strings (s ∷ ss)) rest is = refl
leaf_no_delimiter delimiters.Comma (leaves.Variable name at) rest is = refl
leaf_no_delimiter delimiters.Comma (leaves.ModuleName at) rest is = refl
leaf_no_delimiter delimiters.Semicolon (leaves.Integer signs.Unsigned n) rest is = refl
leaf_no_delimiter delimiters.Semicolon (leaves.Integer signs.Plus n) rest is = refl
leaf_no_delimiter delimiters.Semicolon (leaves.Integer signs.Minus n) rest is = refl
leaf_no_delimiter delimiters.Semicolon (leaves.Atom named) rest is = refl
leaf_no_delimiter delimiters.Semicolon (leaves.Strings (s ∷ ss)) rest is = refl
leaf_no_delimiter delimiters.Semicolon (leaves.Variable name at) rest is = refl
leaf_no_delimiter delimiters.Semicolon (leaves.ModuleName at) rest is = refl
leaf_no_delimiter delimiters.Bar (leaves.Integer signs.Unsigned n) rest is = refl
leaf_no_delimiter delimiters.Bar (leaves.Integer signs.Plus n) rest is = refl
leaf_no_delimiter delimiters.Bar (leaves.Integer signs.Minus n) rest is = refl
leaf_no_delimiter delimiters.Bar (leaves.Atom named) rest is = refl
leaf_no_delimiter delimiters.Bar (leaves.Strings (s ∷ ss)) rest is = refl
leaf_no_delimiter delimiters.Bar (leaves.Variable name at) rest is = refl
leaf_no_delimiter delimiters.Bar (leaves.ModuleName at) rest is = refl
leaf_no_delimiter delimiters.Arrow (leaves.Integer signs.Unsigned n) rest is = refl
leaf_no_delimiter delimiters.Arrow (leaves.Integer signs.Plus n) rest is = refl
leaf_no_delimiter delimiters.Arrow (leaves.Integer signs.Minus n) rest is = refl
leaf_no_delimiter delimiters.Arrow (leaves.Atom named) rest is = refl
leaf_no_delimiter delimiters.Arrow (leaves.Strings (s ∷ ss)) rest is = refl
leaf_no_delimiter delimiters.Arrow (leaves.Variable name at) rest is = refl
leaf_no_delimiter delimiters.Arrow (leaves.ModuleName at) rest is = refl
leaf_no_delimiter delimiters.CloseParen (leaves.Integer signs.Unsigned n) rest is = refl
leaf_no_delimiter delimiters.CloseParen (leaves.Integer signs.Plus n) rest is = refl
leaf_no_delimiter delimiters.CloseParen (leaves.Integer signs.Minus n) rest is = refl
leaf_no_delimiter delimiters.CloseParen (leaves.Atom named) rest is = refl
leaf_no_delimiter delimiters.CloseParen (leaves.Strings (s ∷ ss)) rest is = refl
leaf_no_delimiter delimiters.CloseParen (leaves.Variable name at) rest is = refl
leaf_no_delimiter delimiters.CloseParen (leaves.ModuleName at) rest is = refl
leaf_no_delimiter delimiters.CloseBrace (leaves.Integer signs.Unsigned n) rest is = refl
leaf_no_delimiter delimiters.CloseBrace (leaves.Integer signs.Plus n) rest is = refl
leaf_no_delimiter delimiters.CloseBrace (leaves.Integer signs.Minus n) rest is = refl
leaf_no_delimiter delimiters.CloseBrace (leaves.Atom named) rest is = refl
leaf_no_delimiter delimiters.CloseBrace (leaves.Strings (s ∷ ss)) rest is = refl
leaf_no_delimiter delimiters.CloseBrace (leaves.Variable name at) rest is = refl
leaf_no_delimiter delimiters.CloseBrace (leaves.ModuleName at) rest is = refl
leaf_no_delimiter delimiters.CloseBracket (leaves.Integer signs.Unsigned n) rest is = refl
leaf_no_delimiter delimiters.CloseBracket (leaves.Integer signs.Plus n) rest is = refl
leaf_no_delimiter delimiters.CloseBracket (leaves.Integer signs.Minus n) rest is = refl
leaf_no_delimiter delimiters.CloseBracket (leaves.Atom named) rest is = refl
leaf_no_delimiter delimiters.CloseBracket (leaves.Strings (s ∷ ss)) rest is = refl
leaf_no_delimiter delimiters.CloseBracket (leaves.Variable name at) rest is = refl
leaf_no_delimiter delimiters.CloseBracket (leaves.ModuleName at) rest is = refl
leaf_no_delimiter delimiters.When (leaves.Integer signs.Unsigned n) rest is = refl
leaf_no_delimiter delimiters.When (leaves.Integer signs.Plus n) rest is = refl
leaf_no_delimiter delimiters.When (leaves.Integer signs.Minus n) rest is = refl
leaf_no_delimiter delimiters.When (leaves.Atom named) rest is = refl
leaf_no_delimiter delimiters.When (leaves.Strings (s ∷ ss)) rest is = refl
leaf_no_delimiter delimiters.When (leaves.Variable name at) rest is = refl
leaf_no_delimiter delimiters.When (leaves.ModuleName at) rest is = refl
leaf_no_delimiter delimiters.Of (leaves.Integer signs.Unsigned n) rest is = refl
leaf_no_delimiter delimiters.Of (leaves.Integer signs.Plus n) rest is = refl
leaf_no_delimiter delimiters.Of (leaves.Integer signs.Minus n) rest is = refl
leaf_no_delimiter delimiters.Of (leaves.Atom named) rest is = refl
leaf_no_delimiter delimiters.Of (leaves.Strings (s ∷ ss)) rest is = refl
leaf_no_delimiter delimiters.Of (leaves.Variable name at) rest is = refl
leaf_no_delimiter delimiters.Of (leaves.ModuleName at) rest is = refl
leaf_no_delimiter delimiters.End (leaves.Integer signs.Unsigned n) rest is = refl
leaf_no_delimiter delimiters.End (leaves.Integer signs.Plus n) rest is = refl
leaf_no_delimiter delimiters.End (leaves.Integer signs.Minus n) rest is = refl
leaf_no_delimiter delimiters.End (leaves.Atom named) rest is = refl
leaf_no_delimiter delimiters.End (leaves.Strings (s ∷ ss)) rest is = refl
leaf_no_delimiter delimiters.End (leaves.Variable name at) rest is = refl
leaf_no_delimiter delimiters.End (leaves.ModuleName at) rest is = refl
leaf_no_delimiter d (leaves.Strings []) rest is = absurd (true≢false (sym is))

pub no_delimiter : (d : Delimiter) (role : Role) (t : Tree) (rest : List Terminal) → IsWell role t → after d (written t rest) ≡ None
no_delimiter d role (leaf l) rest is = leaf_no_delimiter d l rest is
no_delimiter d role (node (shapes.Infix op) none) rest is = absurd (omega (arith, two_parts (has_operator role op) 0 is.0))
no_delimiter d role (node (shapes.Infix op) (more t us)) rest is =
    no_delimiter d (first_role role (shapes.Infix op)) t (other_parts_written (shapes.Infix op) us rest) is.2.1
no_delimiter delimiters.Comma role (node shapes.Tuple us) rest is = refl
no_delimiter delimiters.Comma role (node shapes.List us) rest is = refl
no_delimiter delimiters.Comma role (node shapes.Cons us) rest is = refl
no_delimiter delimiters.Comma role (node shapes.Parenthesized us) rest is = refl
no_delimiter delimiters.Comma role (node shapes.Block us) rest is = refl
no_delimiter delimiters.Comma role (node (shapes.Local f) us) rest is = refl
no_delimiter delimiters.Comma role (node (shapes.Remote (qualifier.Module m) f) us) rest is = refl
no_delimiter delimiters.Comma role (node (shapes.Remote (qualifier.ModuleName at) f) us) rest is = refl
no_delimiter delimiters.Comma role (node (shapes.Prefix Negate) us) rest is = refl
no_delimiter delimiters.Comma role (node (shapes.Prefix Not) us) rest is = refl
no_delimiter delimiters.Comma role (case subject cs) rest is = refl
no_delimiter delimiters.Semicolon role (node shapes.Tuple us) rest is = refl
no_delimiter delimiters.Semicolon role (node shapes.List us) rest is = refl
no_delimiter delimiters.Semicolon role (node shapes.Cons us) rest is = refl
no_delimiter delimiters.Semicolon role (node shapes.Parenthesized us) rest is = refl
no_delimiter delimiters.Semicolon role (node shapes.Block us) rest is = refl
no_delimiter delimiters.Semicolon role (node (shapes.Local f) us) rest is = refl
no_delimiter delimiters.Semicolon role (node (shapes.Remote (qualifier.Module m) f) us) rest is = refl
no_delimiter delimiters.Semicolon role (node (shapes.Remote (qualifier.ModuleName at) f) us) rest is = refl
no_delimiter delimiters.Semicolon role (node (shapes.Prefix Negate) us) rest is = refl
no_delimiter delimiters.Semicolon role (node (shapes.Prefix Not) us) rest is = refl
no_delimiter delimiters.Semicolon role (case subject cs) rest is = refl
no_delimiter delimiters.Bar role (node shapes.Tuple us) rest is = refl
no_delimiter delimiters.Bar role (node shapes.List us) rest is = refl
no_delimiter delimiters.Bar role (node shapes.Cons us) rest is = refl
no_delimiter delimiters.Bar role (node shapes.Parenthesized us) rest is = refl
no_delimiter delimiters.Bar role (node shapes.Block us) rest is = refl
no_delimiter delimiters.Bar role (node (shapes.Local f) us) rest is = refl
no_delimiter delimiters.Bar role (node (shapes.Remote (qualifier.Module m) f) us) rest is = refl
no_delimiter delimiters.Bar role (node (shapes.Remote (qualifier.ModuleName at) f) us) rest is = refl
no_delimiter delimiters.Bar role (node (shapes.Prefix Negate) us) rest is = refl
no_delimiter delimiters.Bar role (node (shapes.Prefix Not) us) rest is = refl
no_delimiter delimiters.Bar role (case subject cs) rest is = refl
no_delimiter delimiters.Arrow role (node shapes.Tuple us) rest is = refl
no_delimiter delimiters.Arrow role (node shapes.List us) rest is = refl
no_delimiter delimiters.Arrow role (node shapes.Cons us) rest is = refl
no_delimiter delimiters.Arrow role (node shapes.Parenthesized us) rest is = refl
no_delimiter delimiters.Arrow role (node shapes.Block us) rest is = refl
no_delimiter delimiters.Arrow role (node (shapes.Local f) us) rest is = refl
no_delimiter delimiters.Arrow role (node (shapes.Remote (qualifier.Module m) f) us) rest is = refl
no_delimiter delimiters.Arrow role (node (shapes.Remote (qualifier.ModuleName at) f) us) rest is = refl
no_delimiter delimiters.Arrow role (node (shapes.Prefix Negate) us) rest is = refl
no_delimiter delimiters.Arrow role (node (shapes.Prefix Not) us) rest is = refl
no_delimiter delimiters.Arrow role (case subject cs) rest is = refl
no_delimiter delimiters.CloseParen role (node shapes.Tuple us) rest is = refl
no_delimiter delimiters.CloseParen role (node shapes.List us) rest is = refl
no_delimiter delimiters.CloseParen role (node shapes.Cons us) rest is = refl
no_delimiter delimiters.CloseParen role (node shapes.Parenthesized us) rest is = refl
no_delimiter delimiters.CloseParen role (node shapes.Block us) rest is = refl
no_delimiter delimiters.CloseParen role (node (shapes.Local f) us) rest is = refl
no_delimiter delimiters.CloseParen role (node (shapes.Remote (qualifier.Module m) f) us) rest is = refl
no_delimiter delimiters.CloseParen role (node (shapes.Remote (qualifier.ModuleName at) f) us) rest is = refl
no_delimiter delimiters.CloseParen role (node (shapes.Prefix Negate) us) rest is = refl
no_delimiter delimiters.CloseParen role (node (shapes.Prefix Not) us) rest is = refl
no_delimiter delimiters.CloseParen role (case subject cs) rest is = refl
no_delimiter delimiters.CloseBrace role (node shapes.Tuple us) rest is = refl
no_delimiter delimiters.CloseBrace role (node shapes.List us) rest is = refl
no_delimiter delimiters.CloseBrace role (node shapes.Cons us) rest is = refl
no_delimiter delimiters.CloseBrace role (node shapes.Parenthesized us) rest is = refl
no_delimiter delimiters.CloseBrace role (node shapes.Block us) rest is = refl
no_delimiter delimiters.CloseBrace role (node (shapes.Local f) us) rest is = refl
no_delimiter delimiters.CloseBrace role (node (shapes.Remote (qualifier.Module m) f) us) rest is = refl
no_delimiter delimiters.CloseBrace role (node (shapes.Remote (qualifier.ModuleName at) f) us) rest is = refl
no_delimiter delimiters.CloseBrace role (node (shapes.Prefix Negate) us) rest is = refl
no_delimiter delimiters.CloseBrace role (node (shapes.Prefix Not) us) rest is = refl
no_delimiter delimiters.CloseBrace role (case subject cs) rest is = refl
no_delimiter delimiters.CloseBracket role (node shapes.Tuple us) rest is = refl
no_delimiter delimiters.CloseBracket role (node shapes.List us) rest is = refl
no_delimiter delimiters.CloseBracket role (node shapes.Cons us) rest is = refl
no_delimiter delimiters.CloseBracket role (node shapes.Parenthesized us) rest is = refl
no_delimiter delimiters.CloseBracket role (node shapes.Block us) rest is = refl
no_delimiter delimiters.CloseBracket role (node (shapes.Local f) us) rest is = refl
no_delimiter delimiters.CloseBracket role (node (shapes.Remote (qualifier.Module m) f) us) rest is = refl
no_delimiter delimiters.CloseBracket role (node (shapes.Remote (qualifier.ModuleName at) f) us) rest is = refl
no_delimiter delimiters.CloseBracket role (node (shapes.Prefix Negate) us) rest is = refl
no_delimiter delimiters.CloseBracket role (node (shapes.Prefix Not) us) rest is = refl
no_delimiter delimiters.CloseBracket role (case subject cs) rest is = refl
no_delimiter delimiters.When role (node shapes.Tuple us) rest is = refl
no_delimiter delimiters.When role (node shapes.List us) rest is = refl
no_delimiter delimiters.When role (node shapes.Cons us) rest is = refl
no_delimiter delimiters.When role (node shapes.Parenthesized us) rest is = refl
no_delimiter delimiters.When role (node shapes.Block us) rest is = refl
no_delimiter delimiters.When role (node (shapes.Local f) us) rest is = refl
no_delimiter delimiters.When role (node (shapes.Remote (qualifier.Module m) f) us) rest is = refl
no_delimiter delimiters.When role (node (shapes.Remote (qualifier.ModuleName at) f) us) rest is = refl
no_delimiter delimiters.When role (node (shapes.Prefix Negate) us) rest is = refl
no_delimiter delimiters.When role (node (shapes.Prefix Not) us) rest is = refl
no_delimiter delimiters.When role (case subject cs) rest is = refl
no_delimiter delimiters.Of role (node shapes.Tuple us) rest is = refl
no_delimiter delimiters.Of role (node shapes.List us) rest is = refl
no_delimiter delimiters.Of role (node shapes.Cons us) rest is = refl
no_delimiter delimiters.Of role (node shapes.Parenthesized us) rest is = refl
no_delimiter delimiters.Of role (node shapes.Block us) rest is = refl
no_delimiter delimiters.Of role (node (shapes.Local f) us) rest is = refl
no_delimiter delimiters.Of role (node (shapes.Remote (qualifier.Module m) f) us) rest is = refl
no_delimiter delimiters.Of role (node (shapes.Remote (qualifier.ModuleName at) f) us) rest is = refl
no_delimiter delimiters.Of role (node (shapes.Prefix Negate) us) rest is = refl
no_delimiter delimiters.Of role (node (shapes.Prefix Not) us) rest is = refl
no_delimiter delimiters.Of role (case subject cs) rest is = refl
no_delimiter delimiters.End role (node shapes.Tuple us) rest is = refl
no_delimiter delimiters.End role (node shapes.List us) rest is = refl
no_delimiter delimiters.End role (node shapes.Cons us) rest is = refl
no_delimiter delimiters.End role (node shapes.Parenthesized us) rest is = refl
no_delimiter delimiters.End role (node shapes.Block us) rest is = refl
no_delimiter delimiters.End role (node (shapes.Local f) us) rest is = refl
no_delimiter delimiters.End role (node (shapes.Remote (qualifier.Module m) f) us) rest is = refl
no_delimiter delimiters.End role (node (shapes.Remote (qualifier.ModuleName at) f) us) rest is = refl
no_delimiter delimiters.End role (node (shapes.Prefix Negate) us) rest is = refl
no_delimiter delimiters.End role (node (shapes.Prefix Not) us) rest is = refl
no_delimiter delimiters.End role (case subject cs) rest is = refl

pub row_no_delimiter : (d : Delimiter) (role : Role) (most : ℕ) (us : Trees) (rest : List Terminal) → 1 ≤ tree_count us →
    AreWell role most us → after d (row_written us rest) ≡ None
row_no_delimiter d role most none rest some well = absurd (omega (arith, some))
row_no_delimiter d role most (more t us) rest some well = no_delimiter d role t (others_written us rest) well.1

-- Things in a row

module _ {A : Type 0} (d : Delimiter) (read : List Terminal → Found A) where
  abbrev pub Reads : List Terminal → A → List Terminal → Type 0
  Reads ts x rest = read ts ≡ Some (x, rest)

  pub things_whole : (k : ℕ) {ts : List Terminal} {xs : List A} {rest : List Terminal} → Things d Reads ts xs rest →
      length xs ≤ k → after d rest ≡ None → separated d k read ts ≡ Some (xs, rest)
  things_whole zero (only first) few ends = absurd (omega (arith, few))
  things_whole zero (then_more first things) few ends = absurd (omega (arith, few))
  things_whole (suc k) (only {x = x} {rest = rest} first) few ends =
      ap (λ o. and_then o (λ f. other_things f (after d f.1) (separated d k read))) first ∙
      ap (λ o. other_things (x, rest) o (separated d k read)) ends
  things_whole (suc k) (then_more {more = others} {x = x} first things) few ends =
      ap (λ o. and_then o (λ f. other_things f (after d f.1) (separated d k read))) first ∙
      ap (λ o. other_things (x, delimiter d ∷ others) o (separated d k read)) (after_there d others) ∙
      ap (λ o. and_then o (λ g. Some (x ∷ g.0, g.1))) (things_whole k things (omega (arith, few)) ends)

abbrev row_found : Trees → List Terminal → Found Trees
row_found us rest = Some (us, rest)

-- Rows of trees

abbrev pub list_of : Trees → List Tree
list_of none = []
list_of (more t us) = t ∷ list_of us

list_and_row : (us : Trees) → row_of (list_of us) ≡ us
list_and_row none = refl
list_and_row (more t us) = ap (λ vs. more t vs) (list_and_row us)

list_length : (us : Trees) → length (list_of us) ≡ tree_count us
list_length none = refl
list_length (more t us) = omega (arith, list_length us)

many_tokens : (role : Role) (most : ℕ) (us : Trees) (rest : List Terminal) → AreWell role most us →
    tree_count us ≤ length (row_written us rest)
many_tokens role most none rest well = omega arith
many_tokens role most (more t none) rest well = omega (arith, own_tree role t rest well.1)
many_tokens role most (more t (more u us)) rest well =
    omega (arith, own_tree role t (others_written (more u us) rest) well.1, many_tokens role most (more u us) rest well.2)

module _ (p : Reader) (n : ℕ) (whole : Whole p n) (role : Role) (most : ℕ) where
  trees_read : (us : Trees) (rest : List Terminal) → 1 ≤ tree_count us → AreWell role most us → trees_depth us ≤ n →
      Stops most rest → Things Comma (Reads Comma (p role most)) (row_written us rest) (list_of us) rest
  trees_read none rest some well deep stops = absurd (omega (arith, some))
  trees_read (more t none) rest some well deep stops =
      only (whole role most t rest well.1 well.0 (omega (arith, deep)) stops)
  trees_read (more t (more u us)) rest some well deep stops =
      then_more (whole role most t (others_written (more u us) rest) well.1 well.0 (omega (arith, deep)) (stops_before Comma most (row_written (more u us) rest)))
      (trees_read (more u us) rest (omega arith) well.2 (omega (arith, deep)) stops)

  pub row_whole : (us : Trees) (rest : List Terminal) → 1 ≤ tree_count us → AreWell role most us → trees_depth us ≤ n →
      Stops most rest → after Comma rest ≡ None → row (p role most) (row_written us rest) ≡ Some (us, rest)
  unfolding row
  row_whole us rest some well deep stops ends =
      ap (λ o. and_then o (rest_of_row none)) (things_whole Comma (p role most) (length (row_written us rest))
      (trees_read us rest some well deep stops) (omega (arith, list_length us, many_tokens role most us rest well)) ends) ∙
      ap (λ vs. row_found vs rest) (row_of-with_more none (list_of us) ∙ list_and_row us)
