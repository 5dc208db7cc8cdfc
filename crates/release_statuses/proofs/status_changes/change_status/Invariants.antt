-- The releases so far have their changes, and the others are unchanged.
use Rattle.std.proofs.Common.{◌≡◌, ◌++◌, take, drop, map}
use Rattle.release_statuses.proofs.Standing.{status_changed_one}
use Rattle.release_statuses.proofs.status_changes.change_status.Given as goal

abbrev pub invariant-loop-index : goal.invariant-loop-index
invariant-loop-index l =
    l.table ≡ map (status_changed_one l.from l.to) (take l.index l.fn.table) ++ drop l.index l.fn.table
