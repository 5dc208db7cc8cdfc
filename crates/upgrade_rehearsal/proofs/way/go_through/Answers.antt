-- One instruction more is run.
use Rattle.std.proofs.Common.{◌∙◌, ◌-◌, List, ap, length, rules, slice_get}
use Rattle.rehearsals.specs.Observing.{view_of}
use Rattle.rehearsals.specs.declared.station.Station.{Station}
use Rattle.upgrade_rehearsal.proofs.Going.{goes_both}
use Rattle.upgrade_rehearsal.proofs.Ways.{carried_through, seen_through, view_through}
use Rattle.upgrade_rehearsal.proofs.way.go_through.Goals as goal

pub go_on-requires : goal.go_on-requires
go_on-requires g c =
    c.last_view.ensures ∙ ap (λ (ss : List Station). view_of (slice_get ss (length ss - 1)) c.args.begun.now) c.as_slice.ensures.value
    ∙ c.loop.invariant.at

pub loop-preserved : goal.loop-preserved
loop-preserved g c = record {
  seen = seen_through _ c.loop.stations.items c.push.new.self.items c.in_ok-station.station _ _ _ (search rules) c.loop.invariant.seen c.in_ok-station.ensures.seen;
  carried_out = carried_through c.loop.stations.items c.push.new.self.items c.in_ok-station.station (search rules) c.loop.invariant.carried_out (cc);
  journal = goes_both _ _ _ c.loop.invariant.journal c.in_ok-station.ensures.journal;
  at = view_through c.loop.stations.items c.push.new.self.items c.in_ok-station.station _ _ (search rules) c.in_ok-station.ensures.seen.seen_after;
}

pub returns-then-not-is_carried_out-clause-seen : goal.returns-then-not-is_carried_out-clause-seen
returns-then-not-is_carried_out-clause-seen g c =
    seen_through _ c.loop.stations.items c.push.new.self.items c.in_ok-station.station _ _ _ (search rules) c.loop.invariant.seen
    c.in_ok-station.ensures.seen
