-- The releases so far have their statuses.
use Rattle.std.proofs.Common.{◌≡◌, take}
use Rattle.release_statuses.specs.Undo.{with_statuses}
use Rattle.release_statuses.proofs.status_changes.restore.Given as goal

abbrev pub invariant-loop-index : goal.invariant-loop-index
invariant-loop-index l = l.table ≡ with_statuses (take l.index l.former) l.fn.table
