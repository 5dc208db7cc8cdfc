-- None of the children so far.
use Rattle.std.proofs.Common.{◌≡◌, drop}
use Rattle.std.specs.List.{find}
use Rattle.process_store.specs.Table.{living}
use Rattle.suspensions.specs.Suspending.{is_busy, pids_in}
use Rattle.suspensions.proofs.busy.busy_in.Given as goal

abbrev pub invariant-loop-child : goal.invariant-loop-child
invariant-loop-child l = find (λ p. is_busy (living p l.processes)) (pids_in l.name l.children) ≡ find (λ p. is_busy (living p l.processes)) (pids_in l.name (drop l.child-index l.children))
