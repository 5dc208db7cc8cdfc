-- No station is below the first.
use Rattle.std.proofs.Common.{◌<◌, subst, ap, arith}
use Rattle.undo_journal.specs.Timeline.{IsOrdered}
use Rattle.undo_journal.proofs.Forgets.{cut_to-below}
use Rattle.undo_journal.proofs.journal.Journal.entries_to.Goals as goal

pub returns-then-mark-self-clause-err : goal.returns-then-mark-self-clause-err
returns-then-mark-self-clause-err g c =
    let t = c.args.self.now in
    let floor = ap (λ u. u.first.serial) c.self.view_is in
    let below : c.args.mark < t.first.serial = omega (arith, c.if-mark-self.true, floor) in
    (below, cut_to-below c.args.mark t (subst IsOrdered c.self.view_is c.self.invariant.1) below)
