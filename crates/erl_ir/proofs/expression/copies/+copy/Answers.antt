-- Nothing is higher than the row that it stands in.
use Rattle.std.proofs.Common.{rules}
use Rattle.erl_ir.proofs.ExpressionRows.{expression_in, tests_in, clause_in}
use Rattle.erl_ir.proofs.expression.copies.+copy.Goals as goal

pub copied_expressions-copy-requires : goal.copied_expressions-copy-requires
copied_expressions-copy-requires t c =
    let smaller = expression_in c.args.items.now c.loop-item.item-index c.item-item.result c.loop-item-test.true c.item-item.is in
    search rules

pub copied_guards-copy-requires : goal.copied_guards-copy-requires
copied_guards-copy-requires t c =
    let smaller = tests_in c.args.items.now c.loop-item.item-index c.item-item.result c.loop-item-test.true c.item-item.is in
    search rules

pub copied_clauses-copy-requires : goal.copied_clauses-copy-requires
copied_clauses-copy-requires t c =
    let smaller = clause_in c.args.items.now c.loop-item.item-index c.item-item.result c.loop-item-test.true c.item-item.is in
    search rules
