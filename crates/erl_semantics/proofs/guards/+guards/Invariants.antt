-- What comes of the other operands, behind the values that are there, is what comes of all; and each call goes down.
use Rattle.std.proofs.Common.{◌≡◌, ◌+◌, ◌*◌, max, drop}
use Rattle.erl_ir.specs.ExpressionForms.{expr, exprs}
use Rattle.erl_ir.specs.Heights.{expr_height, exprs_height}
use Rattle.erl_semantics.specs.Bindings.{bindings}
use Rattle.erl_semantics.specs.Guards.{tested_row}
use Rattle.erl_semantics.proofs.Tests.{behind_values}
use Rattle.erl_semantics.proofs.guards.+guards.Given as goal

abbrev pub decreases-test : goal.decreases-test
decreases-test l = 4 * expr_height (expr l.expression.now)

abbrev pub decreases-test_operation : goal.decreases-test_operation
decreases-test_operation l = 4 * exprs_height (exprs l.operands.now) + 2

abbrev pub decreases-test_row : goal.decreases-test_row
decreases-test_row l = 4 * exprs_height (exprs l.row.now) + 1

abbrev pub decreases-test_alone : goal.decreases-test_alone
decreases-test_alone l = 4 * exprs_height (exprs l.side.now) + 1

abbrev pub decreases-test_connective : goal.decreases-test_connective
decreases-test_connective l = 4 * max (exprs_height (exprs l.left.now)) (exprs_height (exprs l.right.now)) + 3

abbrev pub decreases-test_right : goal.decreases-test_right
decreases-test_right l = 4 * exprs_height (exprs l.right.now) + 2

abbrev pub invariant-test_row-loop-expression : goal.invariant-test_row-loop-expression
invariant-test_row-loop-expression l =
    behind_values l.values.items (tested_row l.setting.own (bindings l.bound.base.now l.bound.fresh.now)
    (exprs (drop l.expression-index l.row)) l.calls) ≡
    tested_row l.setting.own (bindings l.bound.base.now l.bound.fresh.now) (exprs l.row) l.fn.calls
