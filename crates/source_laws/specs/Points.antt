-- What may be matched and tested at a point that evaluation comes to, by what is bound there.
use Rattle.std.specs.Prelude.{◌≡◌, ◌≤◌, ℕ, List, length, slice_get, Some, IsTrue}
use Rattle.erl_term.specs.Tree as term
use Rattle.erl_term.specs.Tree.{Tree, Trees, count}
use Rattle.erl_ir.specs.Pattern as pattern
use Rattle.erl_ir.specs.Pattern.{Pat, Pats, pat_count}
use Rattle.erl_ir.specs.Expression as form
use Rattle.erl_ir.specs.Expression.{Expr, Exprs, Guards, Clauses, expr_count}
use Rattle.erl_semantics.specs.Matching.{matched, matched_each}
use Rattle.erl_semantics.specs.OperatorLaws.{is_guard_operation}
use Rattle.source_laws.specs.Formed.{is_of}

-- a variable is bound
abbrev pub IsBound : List Tree → ℕ → Type 0
IsBound env index = (t : Tree) × (slice_get env index ≡ Some t)

-- Each variable that a match comes to is bound, or it is the next one that is bound.
abbrev mutual
  pub MayMatch : Pat → Tree → List Tree → Type 0
  MayMatch (pattern.literal u) t env = Unit {0}
  MayMatch (pattern.variable index) t env = index ≤ length env
  MayMatch pattern.anything t env = Unit {0}
  MayMatch (pattern.tuple ps) (term.tuple ts) env = MayMatchEach ps ts env
  MayMatch (pattern.tuple ps) t env = Unit {0}
  MayMatch (pattern.list ps) (term.list ts) env = MayMatchEach ps ts env
  MayMatch (pattern.list ps) t env = Unit {0}
  MayMatch (pattern.cons ps) (term.list ts) env = MayMatchFront ps ts env
  MayMatch (pattern.cons ps) t env = Unit {0}
  MayMatch (pattern.alias ps) t env = MayMatchAll ps t env

  -- terms in a row, each behind the match of those before it
  pub MayMatchEach : Pats → Trees → List Tree → Type 0
  MayMatchEach pattern.none ts env = Unit {0}
  MayMatchEach (pattern.more p ps) term.none env = Unit {0}
  MayMatchEach (pattern.more p ps) (term.more t ts) env =
      MayMatch p t env × ((behind : List Tree) → matched p t env ≡ Some behind → MayMatchEach ps ts behind)

  -- the elements of a list, and the rest
  pub MayMatchFront : Pats → Trees → List Tree → Type 0
  MayMatchFront pattern.none ts env = Unit {0}
  MayMatchFront (pattern.more p pattern.none) ts env = MayMatch p (term.list ts) env
  MayMatchFront (pattern.more p (pattern.more q ps)) term.none env = Unit {0}
  MayMatchFront (pattern.more p (pattern.more q ps)) (term.more t ts) env =
      MayMatch p t env × ((behind : List Tree) → matched p t env ≡ Some behind → MayMatchFront (pattern.more q ps) ts behind)

  -- one term, each pattern behind the match of those before it
  pub MayMatchAll : Pats → Tree → List Tree → Type 0
  MayMatchAll pattern.none t env = Unit {0}
  MayMatchAll (pattern.more p ps) t env =
      MayMatch p t env × ((behind : List Tree) → matched p t env ≡ Some behind → MayMatchAll ps t behind)

-- A test of a guard reads what is bound, and is one that guards may have.
abbrev mutual
  pub MayTest : List Tree → Expr → Type 0
  MayTest env (form.literal t) = Unit {0}
  MayTest env (form.variable index) = IsBound env index
  MayTest env (form.apply op es) = IsTrue (is_guard_operation op) × IsTrue (is_of op (expr_count es)) × MayTestEach env es
  MayTest env (form.match p body) = ⊥
  MayTest env (form.block body) = ⊥
  MayTest env (form.case subject cs) = ⊥
  MayTest env (form.short_circuit c left right) =
      (expr_count left ≡ 1) × MayTestEach env left × (expr_count right ≡ 1) × MayTestEach env right

  pub MayTestEach : List Tree → Exprs → Type 0
  MayTestEach env form.none = Unit {0}
  MayTestEach env (form.more e es) = MayTest env e × MayTestEach env es

abbrev pub MayGuard : List Tree → Guards → Type 0
MayGuard env form.no_guards = Unit {0}
MayGuard env (form.guard tests gs) = MayTestEach env tests × MayGuard env gs

-- Clauses that are tried on terms have a pattern for each of them, and what the patterns bind is bound in the guard.
abbrev pub MayTry : List Tree → Trees → Clauses → Type 0
MayTry env ts form.no_clauses = Unit {0}
MayTry env ts (form.clause ps gs body cs) =
    (pat_count ps ≡ count ts) × MayMatchEach ps ts env ×
    ((behind : List Tree) → matched_each ps ts env ≡ Some behind → MayGuard behind gs) × MayTry env ts cs
