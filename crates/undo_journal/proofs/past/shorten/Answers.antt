-- Each turn shortens the next report.
use Rattle.std.proofs.Common.{◌-◌, length, drop, set, ap, sym, ◌∙◌, arith}
use Rattle.std.proofs.lemmas.List.Edits.{map_over_more}
use Rattle.undo_journal.specs.Past.{shortened}
use Rattle.undo_journal.proofs.past.shorten.Goals as goal

pub loop-report-preserved : goal.loop-report-preserved
loop-report-preserved g c =
    let cut = c.args.cut in
    let report = c.report-item.result in
    let more = map_over_more (λ r. shortened cut r) c.deref_mut-report-items.result.now c.loop-report.report-items c.loop-report.report-index report (omega arith) c.loop-report.invariant c.report-item.is in
    let written = c.truncate_front.ensures ∙ ap (λ r. drop (length r.notes - cut) r.notes) (sym c.report-item.is) in
    ap (λ ns. set c.loop-report.report-items c.loop-report.report-index record { cut = cut; notes = ns }) written ∙ more
