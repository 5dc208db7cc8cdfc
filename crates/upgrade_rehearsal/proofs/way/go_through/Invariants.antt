-- The records so far.
use Rattle.std.proofs.Common.{◌≡◌, ◌-◌, true, All, length, slice_get}
use Rattle.rehearsals.specs.Observing.{view_of}
use Rattle.rehearsals.specs.Ways.{is_carried_out}
use Rattle.upgrade_rehearsal.specs.Going.{Extends}
use Rattle.upgrade_rehearsal.specs.Players.{stage_of}
use Rattle.upgrade_rehearsal.specs.Seen.{AreSeen, node_view}
use Rattle.upgrade_rehearsal.proofs.way.go_through.Given as goal

abbrev pub invariant-loop : goal.invariant-loop
invariant-loop g l = record {
  seen : AreSeen l.traffic (stage_of l.fn.player) l.stations.items (stage_of l.player);
  carried_out : All (λ s. is_carried_out s.outcome ≡ true) l.stations.items;
  journal : Extends l.fn.player.journal l.player.journal;
  at : view_of (slice_get l.stations.items (length l.stations.items - 1)) l.begun ≡ node_view (stage_of l.player).node;
}
