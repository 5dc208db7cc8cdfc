-- What is selected of the clauses that are left is selected of all.
use Rattle.std.proofs.Common.{◌≡◌, map, drop}
use Rattle.erl_term.specs.Term.{tree, trees}
use Rattle.erl_ir.specs.ExpressionForms.{clauses}
use Rattle.erl_semantics.specs.Guards.{selected}
use Rattle.erl_semantics.proofs.guards.select.Given as goal

abbrev pub invariant-loop-clause : goal.invariant-loop-clause
invariant-loop-clause l =
    selected l.setting.own (map tree l.base) (clauses (drop l.clause-index l.items)) (trees l.terms) l.calls ≡
    selected l.setting.own (map tree l.base) (clauses l.items) (trees l.terms) l.fn.calls
