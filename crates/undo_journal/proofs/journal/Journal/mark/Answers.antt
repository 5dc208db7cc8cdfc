-- The newest serial is where the timeline stands, and keeps all of it.
use Rattle.std.proofs.Common.{◌≡◌, Some, option_map, subst, sym, ap, ◌∙◌, refl}
use Rattle.undo_journal.specs.Past.{stations}
use Rattle.undo_journal.specs.Timeline.{Station, here, newest, cut_to, IsOrdered}
use Rattle.undo_journal.proofs.Timelines.{cut_to-here}
use Rattle.undo_journal.proofs.journal.Journal.mark.Goals as goal

pub returns-clause-names : goal.returns-clause-names
returns-clause-names g c =
    let j = c.self.inside in
    let t = c.args.self.now in
    let first : Station g.row.S.Denot g.row.S-Note.Denot = record { serial = j.floor; node = j.first.value; note = j.first_note } in
    let serial = c.newest_serial.ensures first refl ∙ ap (λ past. (newest first (stations past)).serial) c.as_slice.ensures.value ∙ ap (λ u. (here u).serial) c.self.view_is in
    subst (λ m. cut_to m t ≡ Some t) (sym serial) (cut_to-here t (subst IsOrdered c.self.view_is c.self.invariant.1))

pub returns-clause-node : goal.returns-clause-node
returns-clause-node g c =
    let t = c.args.self.now in
    ap (λ o. option_map (λ u. (here u).node) o) (returns-clause-names g c)
