-- What it is that tokens begin with a tree.
use Rattle.std.specs.Prelude.{◌≡◌, ℕ, ◌≤◌, nat_lt, Bool, true, false, IsTrue, List, ◌∷◌, Option, None, Some}
use Rattle.erl_scan.specs.declared.mark.Mark.TheVariants as marks
use Rattle.erl_ast.specs.declared.role.Role.{Role}
use Rattle.erl_ast.specs.declared.role.Role.TheVariants.{Expression, Pattern, Test}
use Rattle.erl_ast.specs.declared.shape.Infix.{Infix}
use Rattle.erl_ast.specs.Grammar.{level, level_of, matches, operations, IsWell}
use Rattle.erl_ast.specs.Terminal.{Terminal, string, mark}
use Rattle.erl_ast.specs.Tree.{Tree, tree_depth}
use Rattle.erl_ast.specs.Written.{written}
use Rattle.erl_expressions.specs.Leaves.{infix_ahead}

-- Tokens begin with a tree of a role, of at most a level, that is nested at most so many levels, and so much is left.
pub record BeginsWith (role : Role) (most levels : ℕ) (ts : List Terminal) (t : Tree) (rest : List Terminal) : Type 0 where
  pub is_written : ts ≡ written t rest
  pub is_well : IsWell role t
  pub is_level : level t ≤ most
  pub is_deep : tree_depth t ≤ levels

-- the greatest level of what stands in a role by itself: a test of a guard has no matches
abbrev pub greatest : Role → ℕ
greatest Expression = matches
greatest Pattern = matches
greatest Test = operations

-- Tokens that don't go on with a tree before them: they begin with no bracket of arguments, no colon, no other string, and no
-- operator of at most a level.

abbrev pub is_quiet : List Terminal → Bool
is_quiet (string s ∷ ts) = false
is_quiet (mark marks.OpenParen ∷ ts) = false
is_quiet (mark marks.Colon ∷ ts) = false
is_quiet ts = true

abbrev pub is_above : ℕ → Option Infix → Bool
is_above most None = true
is_above most (Some op) = nat_lt most (level_of op)

pub record Stops (most : ℕ) (ts : List Terminal) : Type 0 where
  pub quiet : IsTrue (is_quiet ts)
  pub above : IsTrue (is_above most (infix_ahead ts))

-- The law: tokens begin in one way with a tree that what is left doesn't go on with.
abbrev pub OneTree : Type 0
OneTree =
    (role : Role) (levels : ℕ) (ts : List Terminal) (t u : Tree) (rest left : List Terminal) →
    BeginsWith role (greatest role) levels ts t rest → Stops (greatest role) rest →
    BeginsWith role (greatest role) levels ts u left → Stops (greatest role) left → (t ≡ u) × (rest ≡ left)
