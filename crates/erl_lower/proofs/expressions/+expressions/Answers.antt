-- One item more is made, and none is left at the end; what was bound first is kept.
use Rattle.std.proofs.Common.{◌++◌, ◌∙◌, ap, arith, refl, rules}
use Rattle.erl_ast.specs.TreeForms.{tree, trees, guards as guards_in, clauses as clauses_in}
use Rattle.erl_lint.specs.Scopes.{binds, binds_in, pattern_names_in, with_names}
use Rattle.erl_lint.proofs.Walking.{kept}
use Rattle.erl_ir.specs.ExpressionForms.{exprs, guards, clauses}
use Rattle.erl_lower.specs.Expressions.{clauses_of, guards_of, row_of}
use Rattle.erl_lower.proofs.Rows.{clause_in, ended, ended_bound, first_binds, names_append, next_bound, next_clause, next_expression, next_guard, onto_clauses, onto_clauses-none, onto_exprs, onto_exprs-none, onto_guards, onto_guards-none, tests_in, tree_in}
use Rattle.erl_lower.proofs.expressions.+expressions.Goals as goal

pub lower_row-loop-tree-init : goal.lower_row-loop-tree-init
lower_row-loop-tree-init t c =
    (ap (λ es. onto_exprs es (row_of c.args.own.now c.args.scope.now (trees c.args.row.now))) c.in_ok-items.ensures.items, refl)

pub lower_row-lower_expression-requires : goal.lower_row-lower_expression-requires
lower_row-lower_expression-requires t c =
    let smaller = tree_in c.args.row.now c.loop-tree.tree-index c.tree-item.result c.loop-tree-test.true c.tree-item.is in
    search rules

pub lower_row-loop-tree-preserved : goal.lower_row-loop-tree-preserved
lower_row-loop-tree-preserved t c = (
  next_expression c.args.own.now c.loop-tree.items.items c.push.new.self.items c.args.row.now c.loop-tree.tree-index c.tree-item.result
      c.in_ok-lower_expression.field-0 c.loop-tree.scope c.lower_expression.new.scope
      (row_of c.args.own.now c.args.scope.now (trees c.args.row.now)) c.loop-tree-test.true c.tree-item.is
      c.in_ok-push.ensures.items c.in_ok-lower_expression.ensures.found c.in_ok-lower_expression.ensures.bound c.loop-tree.invariant.0,
  next_bound (λ xs. binds_in (trees xs)) (λ x. binds (tree x)) (λ x xs. refl) c.args.row.now c.loop-tree.tree-index c.tree-item.result
      c.loop-tree.scope c.lower_expression.new.scope (with_names c.args.scope.now (binds_in (trees c.args.row.now)))
      c.loop-tree-test.true c.tree-item.is c.in_ok-lower_expression.ensures.bound c.loop-tree.invariant.1,
)

pub lower_row-returns-clause-found : goal.lower_row-returns-clause-found
lower_row-returns-clause-found t c =
    ended onto_exprs (λ s xs. row_of c.args.own.now s (trees xs)) exprs c.loop-tree.scope onto_exprs-none c.loop-tree.items.items c.args.row.now
    c.loop-tree.tree-index (row_of c.args.own.now c.args.scope.now (trees c.args.row.now)) (omega (arith, c.loop-tree-test.false))
    c.loop-tree.invariant.0

pub lower_row-returns-clause-bound : goal.lower_row-returns-clause-bound
lower_row-returns-clause-bound t c =
    ended_bound (λ xs. binds_in (trees xs)) refl c.args.row.now c.loop-tree.tree-index c.loop-tree.scope
    (with_names c.args.scope.now (binds_in (trees c.args.row.now))) (omega (arith, c.loop-tree-test.false)) c.loop-tree.invariant.1

pub lower_guards-loop-tests-init : goal.lower_guards-loop-tests-init
lower_guards-loop-tests-init t c =
    (ap (λ gs. onto_guards gs (guards_of c.args.own.now c.args.scope.now (guards_in c.args.alternatives.now))) c.in_ok-items.ensures.items, refl)

pub lower_guards-lower_inside-requires : goal.lower_guards-lower_inside-requires
lower_guards-lower_inside-requires t c =
    let smaller = tests_in c.args.alternatives.now c.loop-tests.tests-index c.tests-item.result c.loop-tests-test.true c.tests-item.is in
    search rules

pub lower_guards-loop-tests-preserved : goal.lower_guards-loop-tests-preserved
lower_guards-loop-tests-preserved t c = (
  next_guard c.args.own.now c.loop-tests.items.items c.push.new.self.items c.args.alternatives.now c.loop-tests.tests-index c.tests-item.result
      c.in_ok-lower_inside.field-0 c.loop-tests.scope c.lower_inside.new.scope
      (guards_of c.args.own.now c.args.scope.now (guards_in c.args.alternatives.now)) c.loop-tests-test.true c.tests-item.is
      c.in_ok-push.ensures.items
      (c.in_ok-lower_inside.ensures.found ∙ ap (row_of c.args.own.now c.loop-tests.scope) c.as_slice.ensures)
      c.in_ok-lower_inside.ensures.kept c.loop-tests.invariant.0,
  c.in_ok-lower_inside.ensures.kept ∙ c.loop-tests.invariant.1,
)

pub lower_guards-returns-clause-found : goal.lower_guards-returns-clause-found
lower_guards-returns-clause-found t c =
    ended onto_guards (λ s xs. guards_of c.args.own.now s (guards_in xs)) guards c.loop-tests.scope onto_guards-none c.loop-tests.items.items
    c.args.alternatives.now c.loop-tests.tests-index (guards_of c.args.own.now c.args.scope.now (guards_in c.args.alternatives.now))
    (omega (arith, c.loop-tests-test.false)) c.loop-tests.invariant.0

pub lower_clauses-loop-clause-init : goal.lower_clauses-loop-clause-init
lower_clauses-loop-clause-init t c =
    (ap (λ cs. onto_clauses cs (clauses_of c.args.own.now c.args.scope.now (clauses_in c.args.row.now))) c.in_ok-items.ensures.items, refl)

pub lower_clauses-lower_clause-requires : goal.lower_clauses-lower_clause-requires
lower_clauses-lower_clause-requires t c =
    let smaller = clause_in c.args.row.now c.loop-clause.clause-index c.clause-item.result c.loop-clause-test.true c.clause-item.is in
    search rules

pub lower_clauses-loop-clause-preserved : goal.lower_clauses-loop-clause-preserved
lower_clauses-loop-clause-preserved t c = (
  next_clause c.args.own.now c.loop-clause.items.items c.push.new.self.items c.args.row.now c.loop-clause.clause-index c.clause-item.result
      c.in_ok-lower_clause.field-0 c.loop-clause.scope c.lower_clause.new.scope
      (clauses_of c.args.own.now c.args.scope.now (clauses_in c.args.row.now)) c.loop-clause-test.true c.clause-item.is
      c.in_ok-push.ensures.items c.in_ok-lower_clause.ensures.found c.in_ok-lower_clause.ensures.kept c.loop-clause.invariant.0,
  c.in_ok-lower_clause.ensures.kept ∙ c.loop-clause.invariant.1,
)

pub lower_clauses-returns-clause-found : goal.lower_clauses-returns-clause-found
lower_clauses-returns-clause-found t c =
    ended onto_clauses (λ s xs. clauses_of c.args.own.now s (clauses_in xs)) clauses c.loop-clause.scope onto_clauses-none c.loop-clause.items.items
    c.args.row.now c.loop-clause.clause-index (clauses_of c.args.own.now c.args.scope.now (clauses_in c.args.row.now))
    (omega (arith, c.loop-clause-test.false)) c.loop-clause.invariant.0

pub lower_inside-returns-clause-kept : goal.lower_inside-returns-clause-kept
lower_inside-returns-clause-kept t c =
    kept c.args.scope.now (binds_in (trees c.args.row.now)) c.lower_row.new.scope c.keep_first.new.self c.len-outer.result
    c.len-outer.ensures c.in_ok-items.ensures.bound c.keep_first.ensures

pub lower_clause-returns-clause-kept : goal.lower_clause-returns-clause-kept
lower_clause-returns-clause-kept t c =
    let in_patterns = pattern_names_in (trees c.as_slice.result.now) in
    let in_body = binds_in (trees c.as_slice-3.result.now) in
    kept c.args.scope.now (in_patterns ++ in_body) c.lower_row.new.scope c.keep_first.new.self c.len-outer.result c.len-outer.ensures
    (c.in_ok-body.ensures.bound ∙ ap (λ s. with_names s in_body) (c.in_ok-guards.ensures.kept ∙ c.in_ok-patterns.ensures.bound) ∙
    names_append c.args.scope.now in_patterns in_body) c.keep_first.ensures

pub lower_connected-returns-in_ok-right-in-len1-up-clause-bound : goal.lower_connected-returns-in_ok-right-in-len1-up-clause-bound
lower_connected-returns-in_ok-right-in-len1-up-clause-bound t c =
    c.in_ok-right-in-len1-up.ensures.kept ∙ c.in_ok-lower_expression-in-len1-up.ensures.bound ∙
    ap (with_names c.args.scope.now) (first_binds c.args.parts.now c.first-item.result c.in-len1-up.len_at_least c.first-item.is)
