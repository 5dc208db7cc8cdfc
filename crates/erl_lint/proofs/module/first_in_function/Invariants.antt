-- The first fault of the clauses so far is found.
use Rattle.std.proofs.Common.{◌≡◌, [], take}
use Rattle.erl_lint.specs.First.{soonest}
use Rattle.erl_lint.specs.Faults.{faults_in_function}
use Rattle.erl_lint.proofs.module.first_in_function.Given as goal

abbrev pub invariant-loop-clause : goal.invariant-loop-clause
invariant-loop-clause l =
    (l.found ≡ soonest l.fn.first (faults_in_function l.functions.keys (take l.clause-index l.clauses))) × (l.scope ≡ [])
