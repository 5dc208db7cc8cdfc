-- The clauses that were read stand before those that are left.
use Rattle.std.proofs.Common.{◌≡◌, ◌+◌, ◌-◌, length}
use Rattle.erl_ast.specs.Terminal.{terminals}
use Rattle.erl_expressions.specs.Reading.{and_then}
use Rattle.erl_expressions.specs.Refusing.{Leaves}
use Rattle.module_forms.specs.FormReading.{function_from, clauses_like, rest_of_function}
use Rattle.module_forms.proofs.functions.function_from.Given as goal

abbrev pub invariant-loop-turn : goal.invariant-loop-turn
invariant-loop-turn l =
    (function_from l.fn.name l.fn.first (terminals l.fn.tokens) ≡
    and_then (clauses_like (length l.tokens + 1 - l._turn) l.name l.arity (terminals l.left)) (rest_of_function l.name l.clauses.items)) ×
    Leaves l.tokens l.left
