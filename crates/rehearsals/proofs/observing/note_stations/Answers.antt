-- Each station in turn.
use Rattle.std.proofs.Common.{◌≡◌, ◌∙◌, ◌<◌, ◌≤◌, List, length, get_or, ap, arith}
use Rattle.upgrade_review.proofs.Adding.{ends, goes_on}
use Rattle.rehearsals.specs.Observing.{IsAtStation}
use Rattle.rehearsals.specs.declared.station.Station.{Station}
use Rattle.rehearsals.proofs.observing.note_stations.Goals as goal

pub loop-index-preserved : goal.loop-index-preserved
loop-index-preserved c =
    let w = c.args.way.now in
    let xs : List Station = w.stations.items in
    let n = c.loop-index.index in
    let s = c.index-stations-index.result in
    let size = ap length c.as_slice-stations.ensures.value in
    let within : n < length xs = omega (arith, c.loop-index-test.true, size) in
    let item : s ≡ get_or xs n s =
    c.index-stations-index.is ∙ ap (λ (ys : List Station). get_or ys n s) c.as_slice-stations.ensures.value in
    goes_on (IsAtStation c.args.direction c.args.first.now w) xs _ _ _ _ _ within item c.loop-index.invariant c.in_ok-note_station.ensures

pub returns : goal.returns
returns c =
    let w = c.args.way.now in
    let xs : List Station = w.stations.items in
    let size = ap length c.as_slice-stations.ensures.value in
    let past : length xs ≤ c.loop-index.index = omega (arith, c.loop-index-test.false, size) in
    ends (IsAtStation c.args.direction c.args.first.now w) xs _ _ _ past c.loop-index.invariant
