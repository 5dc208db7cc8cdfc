-- What stays up to the mark is a front, and the report is of the others.
use Rattle.undo_journal.proofs.Timelines.{report-kept}
use Rattle.undo_journal.proofs.journal.Journal.report.Goals as goal

pub returns-in-Ok-clause-reported : goal.returns-in-Ok-clause-reported
returns-in-Ok-clause-reported g c =
    let j = c.self.inside in
    report-kept j.floor j.first.value j.first_note j.past.items c.deref.result.now j.last c.args.mark c.in_ok-keep.keep c.in-Ok.report c.args.self.now c.self.view_is c.in_ok-keep.ensures.kept c.in_ok-keep.ensures.within c.deref.ensures.value c.in-Ok.ensures
