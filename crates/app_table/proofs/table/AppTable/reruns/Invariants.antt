-- What is noted is of the spots so far, and there is room for the others.
use Rattle.std.proofs.Common.{◌≡◌, ◌≤◌, ◌++◌, drop, length, map, vec_capacity, vec_len}
use Rattle.app_table.specs.Changes.{AreNoted}
use Rattle.app_table.proofs.table.AppTable.reruns.Given as goal

abbrev pub invariant-loop-spot : goal.invariant-loop-spot
invariant-loop-spot l = record {
  spots : map (λ r. r.spot) l.reruns.items ++ drop l.spot-index l.spots ≡ l.spots;
  noted : AreNoted l.reruns.items l.self;
  len : vec_len l.reruns ≡ l.spot-index;
  room : length l.spots ≤ vec_capacity l.reruns;
}
