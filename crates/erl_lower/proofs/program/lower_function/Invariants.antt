-- The clauses so far, and those that are left, are all; nothing is bound between them.
use Rattle.std.proofs.Common.{◌≡◌, [], drop}
use Rattle.erl_lower.specs.Meaning.{function_clauses}
use Rattle.erl_lower.proofs.Rows.{onto_clauses}
use Rattle.erl_lower.proofs.program.lower_function.Given as goal

abbrev pub invariant-loop-clause : goal.invariant-loop-clause
invariant-loop-clause l =
    (onto_clauses l.items.items (function_clauses l.own (drop l.clause-index l.row)) ≡ function_clauses l.own l.row) × (l.scope ≡ [])
