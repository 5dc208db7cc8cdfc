-- Those that are left run as all do.
use Rattle.std.proofs.Common.{◌≡◌, drop, map}
use Rattle.app_table.specs.Changes.{all_run, at_spots}
use Rattle.app_table.proofs.table.AppTable.run_each.Given as goal

abbrev pub invariant-loop-at : goal.invariant-loop-at
invariant-loop-at l = all_run (at_spots (map (λ r. r.spot) (drop l.at l.reruns)) (drop l.at l.pids)) l.self ≡ all_run (at_spots (map (λ r. r.spot) l.reruns) l.pids) l.fn.self
