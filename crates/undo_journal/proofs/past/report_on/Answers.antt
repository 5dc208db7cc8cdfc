-- The notes of stations are those of their entries, one for each.
use Rattle.std.proofs.Common.{◌+◌, take, ap, ◌∙◌, arith}
use Rattle.std.proofs.lemmas.Grind.{common_steps}
use Rattle.std.proofs.lemmas.List.{take_all, length-map}
use Rattle.undo_journal.specs.Past.{station_of, stations}
use Rattle.undo_journal.specs.Timeline.{notes_of}
use Rattle.undo_journal.proofs.Stations.{notes_of-stations}
use Rattle.undo_journal.proofs.past.report_on.Goals as goal

pub loop-entry-preserved : goal.loop-entry-preserved
loop-entry-preserved g c =
    let before = notes_of-stations (take c.loop-entry.entry-index c.args.cut.now) in
    let after = notes_of-stations (take (c.loop-entry.entry-index + 1) c.args.cut.now) in
    grind (arith, common_steps)

pub returns : goal.returns
returns g c =
    let all = take_all c.loop-entry.entry-index c.args.cut.now (omega arith) in
    let notes = c.new.ensures ∙ c.loop-entry.invariant ∙ ap (λ cut. notes_of (stations cut)) all in
    let count = length-map c.args.cut.now station_of in
    cc
