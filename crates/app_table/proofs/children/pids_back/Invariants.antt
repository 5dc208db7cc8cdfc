-- The pids of those from here on.
use Rattle.std.proofs.Common.{◌≡◌, drop}
use Rattle.app_table.specs.Changes.{pids_back}
use Rattle.app_table.proofs.children.pids_back.Given as goal

abbrev pub invariant-loop-index : goal.invariant-loop-index
invariant-loop-index l = l.pids.items ≡ pids_back (drop l.index l.row)
