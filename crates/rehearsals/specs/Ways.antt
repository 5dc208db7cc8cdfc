-- How ways end (release_handler(3)).
use Rattle.std.specs.Prelude.{◌-◌, Bool, true, false, not, ◌&&◌, length, Option, None, Some, slice_get}
use Rattle.rehearsals.specs.declared.station.Outcome.{Outcome}
use Rattle.rehearsals.specs.declared.station.Outcome.TheVariants.{Ran, Finished, Recovered, Restarted, Refused}
use Rattle.rehearsals.specs.declared.station.Station.{Station}
use Rattle.rehearsals.specs.declared.way.Rehearsal.{Rehearsal}
use Rattle.rehearsals.specs.declared.way.Returned.{Returned}
use Rattle.rehearsals.specs.declared.way.Returned.TheVariants.{Untried, Failed, Behind}
use Rattle.rehearsals.specs.declared.way.Way.{Way}

-- Whether an instruction was executed, and whether its script is finished.

abbrev pub is_carried_out : Outcome → Bool
is_carried_out Ran = true
is_carried_out Finished = false
is_carried_out (Recovered reason) = false
is_carried_out (Restarted reason) = false
is_carried_out (Refused why) = false

abbrev pub is_end : Outcome → Bool
is_end Ran = false
is_end Finished = true
is_end (Recovered reason) = false
is_end (Restarted reason) = false
is_end (Refused why) = false

-- Whether a way has reached the end of its script, which was seen last.

abbrev pub last_of : Way → Option Station
last_of w = slice_get w.stations.items (length w.stations.items - 1)

abbrev pub is_finished_by : Option Station → Bool
is_finished_by None = false
is_finished_by (Some s) = is_end s.outcome

abbrev pub is_finished : Way → Bool
is_finished w = is_finished_by (last_of w)

-- Whether there was a way down, and it has reached its end; whether one of the ways fails without traffic; and whether an
-- upgrade would go up and down, with traffic and without.

abbrev pub is_down : Option Way → Bool
is_down None = false
is_down (Some w) = is_finished w

abbrev pub has_failed : Returned → Bool
has_failed Untried = false
has_failed Failed = true
has_failed (Behind view) = false

abbrev pub would_go : Rehearsal → Bool
would_go r = is_finished r.up && is_down r.down && not (has_failed r.returned)
