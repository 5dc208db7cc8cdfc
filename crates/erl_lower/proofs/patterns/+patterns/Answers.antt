-- One pattern more is made, and none is left at the end.
use Rattle.std.proofs.Common.{ap, arith, refl, rules}
use Rattle.erl_ast.specs.TreeForms.{tree, trees}
use Rattle.erl_lint.specs.Scopes.{pattern_names, pattern_names_in, with_names}
use Rattle.erl_ir.specs.PatternForms.{pats}
use Rattle.erl_lower.specs.Patterns.{patterns_of}
use Rattle.erl_lower.proofs.Rows.{ended, ended_bound, next_bound, next_pattern, onto_pats, onto_pats-none, tree_in}
use Rattle.erl_lower.proofs.patterns.+patterns.Goals as goal

pub lower_patterns-loop-tree-init : goal.lower_patterns-loop-tree-init
lower_patterns-loop-tree-init t c =
    (ap (λ ps. onto_pats ps (patterns_of c.args.own.now c.args.scope.now (trees c.args.row.now))) c.in_ok-items.ensures.items, refl)

pub lower_patterns-lower_pattern-requires : goal.lower_patterns-lower_pattern-requires
lower_patterns-lower_pattern-requires t c =
    let smaller = tree_in c.args.row.now c.loop-tree.tree-index c.tree-item.result c.loop-tree-test.true c.tree-item.is in
    search rules

pub lower_patterns-loop-tree-preserved : goal.lower_patterns-loop-tree-preserved
lower_patterns-loop-tree-preserved t c = (
  next_pattern c.args.own.now c.loop-tree.items.items c.push.new.self.items c.args.row.now c.loop-tree.tree-index c.tree-item.result
      c.in_ok-lower_pattern.field-0 c.loop-tree.scope c.lower_pattern.new.scope
      (patterns_of c.args.own.now c.args.scope.now (trees c.args.row.now)) c.loop-tree-test.true c.tree-item.is
      c.in_ok-push.ensures.items c.in_ok-lower_pattern.ensures.found c.in_ok-lower_pattern.ensures.bound c.loop-tree.invariant.0,
  next_bound (λ xs. pattern_names_in (trees xs)) (λ x. pattern_names (tree x)) (λ x xs. refl) c.args.row.now c.loop-tree.tree-index c.tree-item.result
      c.loop-tree.scope c.lower_pattern.new.scope (with_names c.args.scope.now (pattern_names_in (trees c.args.row.now)))
      c.loop-tree-test.true c.tree-item.is c.in_ok-lower_pattern.ensures.bound c.loop-tree.invariant.1,
)

pub lower_patterns-returns-clause-found : goal.lower_patterns-returns-clause-found
lower_patterns-returns-clause-found t c =
    ended onto_pats (λ s xs. patterns_of c.args.own.now s (trees xs)) pats c.loop-tree.scope onto_pats-none c.loop-tree.items.items c.args.row.now
    c.loop-tree.tree-index (patterns_of c.args.own.now c.args.scope.now (trees c.args.row.now)) (omega (arith, c.loop-tree-test.false))
    c.loop-tree.invariant.0

pub lower_patterns-returns-clause-bound : goal.lower_patterns-returns-clause-bound
lower_patterns-returns-clause-bound t c =
    ended_bound (λ xs. pattern_names_in (trees xs)) refl c.args.row.now c.loop-tree.tree-index c.loop-tree.scope
    (with_names c.args.scope.now (pattern_names_in (trees c.args.row.now))) (omega (arith, c.loop-tree-test.false)) c.loop-tree.invariant.1
