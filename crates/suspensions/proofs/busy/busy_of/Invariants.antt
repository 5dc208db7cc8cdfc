-- None of the applications so far has one.
use Rattle.std.proofs.Common.{◌≡◌, drop}
use Rattle.std.specs.List.{find}
use Rattle.process_store.specs.Table.{living}
use Rattle.suspensions.specs.Suspending.{is_busy, pids_of}
use Rattle.suspensions.proofs.busy.busy_of.Given as goal

abbrev pub invariant-loop-index : goal.invariant-loop-index
invariant-loop-index l = find (λ p. is_busy (living p l.processes)) (pids_of l.name l.apps) ≡ find (λ p. is_busy (living p l.processes)) (pids_of l.name (drop l.index l.apps))
