-- The names of the calls so far are noted, and each call goes down.
use Rattle.std.proofs.Common.{◌≡◌, ◌+◌, ◌*◌, take}
use Rattle.std.specs.Str.{bytes_eq}
use Rattle.indexmap.specs.IndexSet.{insert_all}
use Rattle.erl_ir.specs.ExpressionForms.{expr, exprs, guards, clauses}
use Rattle.erl_ir.specs.Heights.{expr_height, exprs_height, guards_height, clauses_height}
use Rattle.erl_ir.specs.Module.{called_in_row, called_in_guards, called_in_clauses}
use Rattle.erl_ir.proofs.calls.+calls.Given as goal

abbrev pub decreases-note_expression : goal.decreases-note_expression
decreases-note_expression l = 2 * expr_height (expr l.expression.now)

abbrev pub decreases-note_row : goal.decreases-note_row
decreases-note_row l = 2 * exprs_height (exprs l.row.now) + 1

abbrev pub decreases-note_guards : goal.decreases-note_guards
decreases-note_guards l = 2 * guards_height (guards l.alternatives.now) + 1

abbrev pub decreases-note_clauses : goal.decreases-note_clauses
decreases-note_clauses l = 2 * clauses_height (clauses l.items.now) + 1

abbrev pub invariant-note_row-loop-expression : goal.invariant-note_row-loop-expression
invariant-note_row-loop-expression l = l.names.keys ≡ insert_all bytes_eq l.fn.names.keys (called_in_row (exprs (take l.expression-index l.row)))

abbrev pub invariant-note_guards-loop-tests : goal.invariant-note_guards-loop-tests
invariant-note_guards-loop-tests l = l.names.keys ≡ insert_all bytes_eq l.fn.names.keys (called_in_guards (guards (take l.tests-index l.alternatives)))

abbrev pub invariant-note_clauses-loop-clause : goal.invariant-note_clauses-loop-clause
invariant-note_clauses-loop-clause l = l.names.keys ≡ insert_all bytes_eq l.fn.names.keys (called_in_clauses (clauses (take l.clause-index l.items)))
