-- The first fault of the entries so far is found.
use Rattle.std.proofs.Common.{◌≡◌, take}
use Rattle.erl_lint.specs.First.{soonest}
use Rattle.erl_lint.specs.Faults.{exports_faults}
use Rattle.erl_lint.proofs.module.first_in_exports.Given as goal

abbrev pub invariant-loop-entry : goal.invariant-loop-entry
invariant-loop-entry l = l.found ≡ soonest l.fn.first (exports_faults l.functions.keys (take l.entry-index l.entries))
