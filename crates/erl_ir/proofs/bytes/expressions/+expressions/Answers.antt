-- Each turn writes one item more, which is no higher than its row.
use Rattle.std.proofs.Common.{◌≡◌, ◌+◌, ◌<◌, [], ◌∷◌, ◌++◌, drop, sym, ap, ◌∙◌, arith, rules, lit<}
use base.Stored.{gnum, gcons}
use Rattle.erl_term.specs.Term.{tree}
use Rattle.erl_term.specs.TreeCode.{tree_code}
use Rattle.erl_ir.specs.ExpressionCode.{connective_number}
use Rattle.erl_ir.specs.ExpressionForms.{expr, exprs, guards, clauses}
use Rattle.erl_ir.specs.FormsCode.{clauses_code, expr_code, exprs_code, guards_code}
use Rattle.erl_ir.specs.PatternCode.{pat_code, pats_code}
use Rattle.erl_ir.specs.PatternForms.{pat, pats}
use Rattle.erl_ir.specs.OperationCode.{operation_code}
use Rattle.erl_ir.specs.ModuleBytes.{written}
use Rattle.std.proofs.lemmas.List.{drop_all}
use Rattle.erl_ir.proofs.ExpressionRows.{expression_in, tests_in, clause_in}
use Rattle.erl_ir.proofs.Written.{both_is, expr-parts, exprs-parts, front_is, guards-parts, last, left, like, pat-parts, pats-parts, row_end}
use Rattle.erl_ir.proofs.bytes.expressions.+expressions.Goals as goal

pub write_expression-returns-in_ok-push-in-Literal : goal.write_expression-returns-in_ok-push-in-Literal
write_expression-returns-in_ok-push-in-Literal t c =
    last c.write_term.result (tree_code (tree c.in-Literal.term)) (expr_code (expr c.args.expression.now)) c.write_term.new.out.items c.push.new.self.items c.args.out.now.items (
    front_is 0 (tree_code (tree c.in-Literal.term)) c.args.out.now.items c.push.new.self.items (lit< tt) c.in_ok-push-in-Literal.ensures.items ∙
    like (gcons (gnum 0) (tree_code (tree c.in-Literal.term))) (expr_code (expr c.args.expression.now)) c.args.out.now.items (sym (ap (λ x. expr_code (expr x)) c.in-Literal.is))
    ) c.write_term.ensures

pub write_expression-returns-in_ok-push-in-Variable : goal.write_expression-returns-in_ok-push-in-Variable
write_expression-returns-in_ok-push-in-Variable t c =
    last c.write_number.result (gnum c.from.result) (expr_code (expr c.args.expression.now)) c.write_number.new.out.items c.push-in-Variable.new.self.items c.args.out.now.items (
    front_is 1 (gnum c.from.result) c.args.out.now.items c.push-in-Variable.new.self.items (lit< tt) c.in_ok-push-in-Variable.ensures.items ∙
    like (gcons (gnum 1) (gnum c.from.result)) (expr_code (expr c.args.expression.now)) c.args.out.now.items (ap (λ n. gcons (gnum 1) (gnum n)) c.from.ensures ∙ sym (ap (λ x. expr_code (expr x)) c.in-Variable.is))
    ) c.write_number.ensures

pub write_expression-returns-in_ok-write_operation-in-Apply : goal.write_expression-returns-in_ok-write_operation-in-Apply
write_expression-returns-in_ok-write_operation-in-Apply t c =
    last c.write_row.result (exprs_code (exprs c.as_slice.result.now)) (expr_code (expr c.args.expression.now)) c.write_row.new.out.items c.write_operation.new.out.items c.args.out.now.items (
    sym (c.in_ok-write_operation-in-Apply.ensures (exprs_code (exprs c.as_slice.result.now))) ∙
    front_is 2 (gcons (operation_code c.in-Apply.operation) (exprs_code (exprs c.as_slice.result.now))) c.args.out.now.items c.push-in-Apply.new.self.items (lit< tt) c.in_ok-push-in-Apply.ensures.items ∙
    like (gcons (gnum 2) (gcons (operation_code c.in-Apply.operation) (exprs_code (exprs c.as_slice.result.now)))) (expr_code (expr c.args.expression.now)) c.args.out.now.items (ap (λ r. gcons (gnum 2) (gcons (operation_code c.in-Apply.operation) (exprs_code r))) c.as_slice.ensures ∙ sym (ap (λ x. expr_code (expr x)) c.in-Apply.is))
    ) c.write_row.ensures

pub write_expression-returns-in_ok-write_pattern-in-Match : goal.write_expression-returns-in_ok-write_pattern-in-Match
write_expression-returns-in_ok-write_pattern-in-Match t c =
    last c.write_row-in-Match.result (exprs_code (exprs c.as_slice-in-Match.result.now)) (expr_code (expr c.args.expression.now)) c.write_row-in-Match.new.out.items c.write_pattern.new.out.items c.args.out.now.items (
    both_is (pat_code (pat c.in-Match.pattern)) (exprs_code (exprs c.as_slice-in-Match.result.now)) c.push-in-Match.new.self.items c.push-in-Match-2.new.self.items c.write_pattern.new.out.items (pat-parts (pat c.in-Match.pattern)) c.in_ok-push-in-Match-2.ensures.items c.in_ok-write_pattern-in-Match.ensures ∙
    front_is 3 (gcons (pat_code (pat c.in-Match.pattern)) (exprs_code (exprs c.as_slice-in-Match.result.now))) c.args.out.now.items c.push-in-Match.new.self.items (lit< tt) c.in_ok-push-in-Match.ensures.items ∙
    like (gcons (gnum 3) (gcons (pat_code (pat c.in-Match.pattern)) (exprs_code (exprs c.as_slice-in-Match.result.now)))) (expr_code (expr c.args.expression.now)) c.args.out.now.items (ap (λ r. gcons (gnum 3) (gcons (pat_code (pat c.in-Match.pattern)) (exprs_code r))) c.as_slice-in-Match.ensures ∙ sym (ap (λ x. expr_code (expr x)) c.in-Match.is))
    ) c.write_row-in-Match.ensures

pub write_expression-returns-in_ok-push-in-Block : goal.write_expression-returns-in_ok-push-in-Block
write_expression-returns-in_ok-push-in-Block t c =
    last c.write_row-in-Block.result (exprs_code (exprs c.as_slice-in-Block.result.now)) (expr_code (expr c.args.expression.now)) c.write_row-in-Block.new.out.items c.push-in-Block.new.self.items c.args.out.now.items (
    front_is 4 (exprs_code (exprs c.as_slice-in-Block.result.now)) c.args.out.now.items c.push-in-Block.new.self.items (lit< tt) c.in_ok-push-in-Block.ensures.items ∙
    like (gcons (gnum 4) (exprs_code (exprs c.as_slice-in-Block.result.now))) (expr_code (expr c.args.expression.now)) c.args.out.now.items (ap (λ r. gcons (gnum 4) (exprs_code r)) c.as_slice-in-Block.ensures ∙ sym (ap (λ x. expr_code (expr x)) c.in-Block.is))
    ) c.write_row-in-Block.ensures

pub write_expression-returns-in_ok-write_row-in-Case : goal.write_expression-returns-in_ok-write_row-in-Case
write_expression-returns-in_ok-write_row-in-Case t c =
    last c.write_clauses.result (clauses_code (clauses c.as_slice-in-Case-2.result.now)) (expr_code (expr c.args.expression.now)) c.write_clauses.new.out.items c.write_row-in-Case.new.out.items c.args.out.now.items (
    both_is (exprs_code (exprs c.as_slice-in-Case.result.now)) (clauses_code (clauses c.as_slice-in-Case-2.result.now)) c.push-in-Case.new.self.items c.push-in-Case-2.new.self.items c.write_row-in-Case.new.out.items (exprs-parts (exprs c.as_slice-in-Case.result.now)) c.in_ok-push-in-Case-2.ensures.items c.in_ok-write_row-in-Case.ensures ∙
    front_is 5 (gcons (exprs_code (exprs c.as_slice-in-Case.result.now)) (clauses_code (clauses c.as_slice-in-Case-2.result.now))) c.args.out.now.items c.push-in-Case.new.self.items (lit< tt) c.in_ok-push-in-Case.ensures.items ∙
    like (gcons (gnum 5) (gcons (exprs_code (exprs c.as_slice-in-Case.result.now)) (clauses_code (clauses c.as_slice-in-Case-2.result.now)))) (expr_code (expr c.args.expression.now)) c.args.out.now.items ((λ i. gcons (gnum 5) (gcons (exprs_code (c.as_slice-in-Case.ensures i)) (clauses_code (c.as_slice-in-Case-2.ensures i)))) ∙ sym (ap (λ x. expr_code (expr x)) c.in-Case.is))
    ) c.write_clauses.ensures

pub write_expression-returns-in_ok-write_row-in-ShortCircuit : goal.write_expression-returns-in_ok-write_row-in-ShortCircuit
write_expression-returns-in_ok-write_row-in-ShortCircuit t c =
    let value : 128 + c.connective_index.result ≡ connective_number c.in-ShortCircuit.connective + 128 = omega (arith, c.connective_index.ensures.value) in
    let small : connective_number c.in-ShortCircuit.connective < 128 = omega (arith, c.connective_index.ensures.value, c.connective_index.ensures.bound) in
    last c.write_row-in-ShortCircuit-2.result (exprs_code (exprs c.as_slice-in-ShortCircuit-2.result.now)) (expr_code (expr c.args.expression.now)) c.write_row-in-ShortCircuit-2.new.out.items c.write_row-in-ShortCircuit.new.out.items c.args.out.now.items (
    both_is (exprs_code (exprs c.as_slice-in-ShortCircuit.result.now)) (exprs_code (exprs c.as_slice-in-ShortCircuit-2.result.now)) c.push-in-ShortCircuit-2.new.self.items c.push-in-ShortCircuit-3.new.self.items c.write_row-in-ShortCircuit.new.out.items (exprs-parts (exprs c.as_slice-in-ShortCircuit.result.now)) c.in_ok-push-in-ShortCircuit-3.ensures.items c.in_ok-write_row-in-ShortCircuit.ensures ∙
    front_is (connective_number c.in-ShortCircuit.connective) (gcons (exprs_code (exprs c.as_slice-in-ShortCircuit.result.now)) (exprs_code (exprs c.as_slice-in-ShortCircuit-2.result.now))) c.push-in-ShortCircuit.new.self.items c.push-in-ShortCircuit-2.new.self.items small (c.in_ok-push-in-ShortCircuit-2.ensures.items ∙ ap (λ n. c.push-in-ShortCircuit.new.self.items ++ n ∷ []) value) ∙
    front_is 6 (gcons (gnum (connective_number c.in-ShortCircuit.connective)) (gcons (exprs_code (exprs c.as_slice-in-ShortCircuit.result.now)) (exprs_code (exprs c.as_slice-in-ShortCircuit-2.result.now)))) c.args.out.now.items c.push-in-ShortCircuit.new.self.items (lit< tt) c.in_ok-push-in-ShortCircuit.ensures.items ∙
    like (gcons (gnum 6) (gcons (gnum (connective_number c.in-ShortCircuit.connective)) (gcons (exprs_code (exprs c.as_slice-in-ShortCircuit.result.now)) (exprs_code (exprs c.as_slice-in-ShortCircuit-2.result.now))))) (expr_code (expr c.args.expression.now)) c.args.out.now.items ((λ i. gcons (gnum 6) (gcons (gnum (connective_number c.in-ShortCircuit.connective)) (gcons (exprs_code (c.as_slice-in-ShortCircuit.ensures i)) (exprs_code (c.as_slice-in-ShortCircuit-2.ensures i))))) ∙ sym (ap (λ x. expr_code (expr x)) c.in-ShortCircuit.is))
    ) c.write_row-in-ShortCircuit-2.ensures

pub write_row-write_expression-requires : goal.write_row-write_expression-requires
write_row-write_expression-requires t c =
    let smaller = expression_in c.args.row.now c.loop-expression.expression-index c.expression-item.result c.loop-expression-test.true c.expression-item.is in
    search rules

pub write_row-loop-expression-preserved : goal.write_row-loop-expression-preserved
write_row-loop-expression-preserved t c =
    both_is (expr_code (expr c.expression-item.result)) (exprs_code (exprs (drop (c.loop-expression.expression-index + 1) c.args.row.now))) c.loop-expression.out.items c.push.new.self.items c.write_expression.new.out.items (expr-parts (expr c.expression-item.result)) c.in_ok-push.ensures.items c.in_ok-write_expression.ensures ∙
    like (gcons (expr_code (expr c.expression-item.result)) (exprs_code (exprs (drop (c.loop-expression.expression-index + 1) c.args.row.now)))) (exprs_code (exprs (drop c.loop-expression.expression-index c.args.row.now))) c.loop-expression.out.items (
    sym (ap (λ l. exprs_code (exprs l)) (left c.args.row.now c.loop-expression.expression-index c.expression-item.result c.loop-expression-test.true c.expression-item.is))) ∙
    c.loop-expression.invariant

pub write_row-returns : goal.write_row-returns
write_row-returns t c =
    row_end (exprs_code (exprs (drop c.loop-expression.expression-index c.args.row.now))) c.loop-expression.out.items c.push-2.new.self.items (written (exprs_code (exprs c.args.row.now)) c.args.out.now.items)
    (ap (λ l. exprs_code (exprs l)) (drop_all c.loop-expression.expression-index c.args.row.now c.loop-expression-test.false)) c.loop-expression.invariant c.in_ok-push-2.ensures.items

pub write_guards-write_row-requires : goal.write_guards-write_row-requires
write_guards-write_row-requires t c =
    let smaller = tests_in c.args.alternatives.now c.loop-tests.tests-index c.tests-item.result c.loop-tests-test.true c.tests-item.is in
    search rules

pub write_guards-loop-tests-preserved : goal.write_guards-loop-tests-preserved
write_guards-loop-tests-preserved t c =
    both_is (exprs_code (exprs c.as_slice.result.now)) (guards_code (guards (drop (c.loop-tests.tests-index + 1) c.args.alternatives.now))) c.loop-tests.out.items c.push.new.self.items c.write_row.new.out.items (exprs-parts (exprs c.as_slice.result.now)) c.in_ok-push.ensures.items c.in_ok-write_row.ensures ∙
    like (gcons (exprs_code (exprs c.as_slice.result.now)) (guards_code (guards (drop (c.loop-tests.tests-index + 1) c.args.alternatives.now)))) (guards_code (guards (drop c.loop-tests.tests-index c.args.alternatives.now))) c.loop-tests.out.items (
    ap (λ r. gcons (exprs_code r) (guards_code (guards (drop (c.loop-tests.tests-index + 1) c.args.alternatives.now)))) c.as_slice.ensures ∙
    sym (ap (λ l. guards_code (guards l)) (left c.args.alternatives.now c.loop-tests.tests-index c.tests-item.result c.loop-tests-test.true c.tests-item.is))) ∙
    c.loop-tests.invariant

pub write_guards-returns : goal.write_guards-returns
write_guards-returns t c =
    row_end (guards_code (guards (drop c.loop-tests.tests-index c.args.alternatives.now))) c.loop-tests.out.items c.push-2.new.self.items (written (guards_code (guards c.args.alternatives.now)) c.args.out.now.items)
    (ap (λ l. guards_code (guards l)) (drop_all c.loop-tests.tests-index c.args.alternatives.now c.loop-tests-test.false)) c.loop-tests.invariant c.in_ok-push-2.ensures.items

pub write_clauses-write_guards-requires : goal.write_clauses-write_guards-requires
write_clauses-write_guards-requires t c =
    let smaller = clause_in c.args.items.now c.loop-clause.clause-index c.clause-item.result c.loop-clause-test.true c.clause-item.is in
    search rules

pub write_clauses-write_row-requires : goal.write_clauses-write_row-requires
write_clauses-write_row-requires t c =
    let smaller = clause_in c.args.items.now c.loop-clause.clause-index c.clause-item.result c.loop-clause-test.true c.clause-item.is in
    search rules

pub write_clauses-loop-clause-preserved : goal.write_clauses-loop-clause-preserved
write_clauses-loop-clause-preserved t c =
    both_is (exprs_code (exprs c.as_slice-in-loop-clause-2.result.now)) (clauses_code (clauses (drop (c.loop-clause.clause-index + 1) c.args.items.now))) c.write_guards.new.out.items c.push-in-loop-clause-2.new.self.items c.write_row.new.out.items (exprs-parts (exprs c.as_slice-in-loop-clause-2.result.now)) c.in_ok-push-3.ensures.items c.in_ok-write_row.ensures ∙
    both_is (guards_code (guards c.as_slice-in-loop-clause.result.now)) (gcons (exprs_code (exprs c.as_slice-in-loop-clause-2.result.now)) (clauses_code (clauses (drop (c.loop-clause.clause-index + 1) c.args.items.now)))) c.write_patterns.new.out.items c.push-in-loop-clause.new.self.items c.write_guards.new.out.items (guards-parts (guards c.as_slice-in-loop-clause.result.now)) c.in_ok-push-2.ensures.items c.in_ok-write_guards.ensures ∙
    both_is (pats_code (pats c.as_slice.result.now)) (gcons (guards_code (guards c.as_slice-in-loop-clause.result.now)) (gcons (exprs_code (exprs c.as_slice-in-loop-clause-2.result.now)) (clauses_code (clauses (drop (c.loop-clause.clause-index + 1) c.args.items.now))))) c.loop-clause.out.items c.push.new.self.items c.write_patterns.new.out.items (pats-parts (pats c.as_slice.result.now)) c.in_ok-push.ensures.items c.in_ok-write_patterns.ensures ∙
    like (gcons (pats_code (pats c.as_slice.result.now)) (gcons (guards_code (guards c.as_slice-in-loop-clause.result.now)) (gcons (exprs_code (exprs c.as_slice-in-loop-clause-2.result.now)) (clauses_code (clauses (drop (c.loop-clause.clause-index + 1) c.args.items.now)))))) (clauses_code (clauses (drop c.loop-clause.clause-index c.args.items.now))) c.loop-clause.out.items (
    (λ i. gcons (pats_code (c.as_slice.ensures i)) (gcons (guards_code (c.as_slice-in-loop-clause.ensures i)) (gcons (exprs_code (c.as_slice-in-loop-clause-2.ensures i)) (clauses_code (clauses (drop (c.loop-clause.clause-index + 1) c.args.items.now)))))) ∙
    sym (ap (λ l. clauses_code (clauses l)) (left c.args.items.now c.loop-clause.clause-index c.clause-item.result c.loop-clause-test.true c.clause-item.is))) ∙
    c.loop-clause.invariant

pub write_clauses-returns : goal.write_clauses-returns
write_clauses-returns t c =
    row_end (clauses_code (clauses (drop c.loop-clause.clause-index c.args.items.now))) c.loop-clause.out.items c.push-2.new.self.items (written (clauses_code (clauses c.args.items.now)) c.args.out.now.items)
    (ap (λ l. clauses_code (clauses l)) (drop_all c.loop-clause.clause-index c.args.items.now c.loop-clause-test.false)) c.loop-clause.invariant c.in_ok-push-4.ensures.items
