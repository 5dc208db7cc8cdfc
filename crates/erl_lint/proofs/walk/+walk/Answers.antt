-- One item more is passed, none is higher than its row, and what was bound first is kept.
use Rattle.std.proofs.Common.{◌∙◌, ap, take, rules}
use Rattle.erl_ast.specs.TreeForms.{trees}
use Rattle.erl_lint.specs.First.{soonest}
use Rattle.erl_lint.specs.Scopes.{binds_in, pattern_names_in}
use Rattle.erl_lint.specs.Faults.{faults_apart}
use Rattle.erl_lint.proofs.Rows.{tree_in, tests_in, clause_in}
use Rattle.erl_lint.proofs.Walking.{kept, row_found, turn_found, turn_bound, guards_found, clauses_found}
use Rattle.erl_lint.proofs.walk.+walk.Goals as goal

pub first_in_tree-returns-in_ok-found-in-Case-2-clause-kept : goal.first_in_tree-returns-in_ok-found-in-Case-2-clause-kept
first_in_tree-returns-in_ok-found-in-Case-2-clause-kept t c =
    let outer = c.in_ok-found-in-Case.ensures.kept in
    kept c.first_in_row.new.scope (binds_in (trees c.as_slice-in-Case-2.result.now)) c.first_in_clauses.new.scope c.keep_first.new.self c.len-outer.result c.len-outer.ensures
    (c.in_ok-found-in-Case-2.ensures.kept ∙ c.in_ok-bind_row-in-Case.ensures) c.keep_first.ensures ∙ outer

pub first_in_clause-returns-clause-kept : goal.first_in_clause-returns-clause-kept
first_in_clause-returns-clause-kept t c =
    kept c.args.scope.now (pattern_names_in (trees c.as_slice.result.now)) c.first_in_turn.new.scope c.keep_first.new.self c.len-outer.result c.len-outer.ensures
    (c.in_ok-found-2.ensures.kept ∙ c.in_ok-found.ensures.kept ∙ c.in_ok-bind_patterns.ensures) c.keep_first.ensures

pub first_in_turn-returns-clause-kept : goal.first_in_turn-returns-clause-kept
first_in_turn-returns-clause-kept t c =
    kept c.args.scope.now (binds_in (trees (take c.loop-tree.tree-index c.args.row.now))) c.loop-tree.scope c.keep_first.new.self c.len-outer.result c.len-outer.ensures
    c.loop-tree.invariant.1 c.keep_first.ensures

pub first_in_row-first_in_tree-requires : goal.first_in_row-first_in_tree-requires
first_in_row-first_in_tree-requires t c =
    let smaller = tree_in c.args.row.now c.loop-tree.tree-index c.tree-item.result c.loop-tree-test.true c.tree-item.is in
    search rules

pub first_in_row-loop-tree-preserved : goal.first_in_row-loop-tree-preserved
first_in_row-loop-tree-preserved t c = (
  row_found c.args.functions.now.keys c.args.scope.now c.loop-tree.scope c.args.row.now c.loop-tree.tree-index c.tree-item.result
      c.args.first c.loop-tree.found c.in_ok-found.found c.loop-tree.invariant.1 c.loop-tree-test.true c.tree-item.is
      c.loop-tree.invariant.0 c.in_ok-found.ensures.found,
  c.in_ok-found.ensures.kept ∙ c.loop-tree.invariant.1,
)

pub first_in_turn-first_in_tree-requires : goal.first_in_turn-first_in_tree-requires
first_in_turn-first_in_tree-requires t c =
    let smaller = tree_in c.args.row.now c.loop-tree.tree-index c.tree-item.result c.loop-tree-test.true c.tree-item.is in
    search rules

pub first_in_turn-loop-tree-preserved : goal.first_in_turn-loop-tree-preserved
first_in_turn-loop-tree-preserved t c = (
  turn_found c.args.functions.now.keys c.args.scope.now c.loop-tree.scope c.args.row.now c.loop-tree.tree-index c.tree-item.result
      c.args.first c.loop-tree.found c.in_ok-found.found c.loop-tree.invariant.1 c.loop-tree-test.true c.tree-item.is
      c.loop-tree.invariant.0 c.in_ok-found.ensures.found,
  turn_bound c.args.scope.now c.loop-tree.scope c.first_in_tree.new.scope c.bind_tree.new.scope c.args.row.now c.loop-tree.tree-index
      c.tree-item.result c.loop-tree.invariant.1 c.loop-tree-test.true c.tree-item.is c.in_ok-found.ensures.kept c.in_ok-bind_tree.ensures,
  c.loop-tree.invariant.2,
)

pub first_in_guards-first_in_row-requires : goal.first_in_guards-first_in_row-requires
first_in_guards-first_in_row-requires t c =
    let smaller = tests_in c.args.alternatives.now c.loop-tests.tests-index c.tests-item.result c.loop-tests-test.true c.tests-item.is in
    search rules

pub first_in_guards-loop-tests-preserved : goal.first_in_guards-loop-tests-preserved
first_in_guards-loop-tests-preserved t c = (
  guards_found c.args.functions.now.keys c.args.scope.now c.loop-tests.scope c.args.alternatives.now c.loop-tests.tests-index
      c.tests-item.result c.args.first c.loop-tests.found c.in_ok-found.found c.loop-tests.invariant.1 c.loop-tests-test.true
      c.tests-item.is c.loop-tests.invariant.0
      (c.in_ok-found.ensures.found ∙ ap (λ ts. soonest c.loop-tests.found (faults_apart c.args.functions.now.keys c.loop-tests.scope ts)) c.as_slice.ensures),
  c.in_ok-found.ensures.kept ∙ c.loop-tests.invariant.1,
)

pub first_in_clauses-first_in_clause-requires : goal.first_in_clauses-first_in_clause-requires
first_in_clauses-first_in_clause-requires t c =
    let smaller = clause_in c.args.row.now c.loop-clause.clause-index c.clause-item.result c.loop-clause-test.true c.clause-item.is in
    search rules

pub first_in_clauses-loop-clause-preserved : goal.first_in_clauses-loop-clause-preserved
first_in_clauses-loop-clause-preserved t c = (
  clauses_found c.args.functions.now.keys c.args.scope.now c.loop-clause.scope c.args.row.now c.loop-clause.clause-index
      c.clause-item.result c.args.first c.loop-clause.found c.in_ok-found.found c.loop-clause.invariant.1 c.loop-clause-test.true
      c.clause-item.is c.loop-clause.invariant.0 c.in_ok-found.ensures.found,
  c.in_ok-found.ensures.kept ∙ c.loop-clause.invariant.1,
)
