-- The entry of an index has the record of its station.
use Rattle.std.proofs.Common.{◌≡◌, ◌<◌, ◌∙◌, Some, ap, arith, length, refl, slice_get, subst, sym}
use Rattle.std.proofs.lemmas.Bool.{ltb-true}
use Rattle.std.proofs.lemmas.Option.{slice_get_read}
use Rattle.undo_journal.proofs.Chains.{record_at}
use Rattle.undo_journal.specs.Past.{IsRecordAt}
use Rattle.undo_journal.proofs.journal.Journal.record.Goals as goal

pub returns-clause-takes_back : goal.returns-clause-takes_back
returns-clause-takes_back g c =
    let j = c.self.inside in
    let index = c.args.index in
    let entry = c.in_ok-entry.entry.now in
    let found = c.in_ok-entry.ensures.lookup in
    let within : index < length c.deref.result.now = ltb-true index (length c.deref.result.now) (sym found.0) in
    let read = slice_get_read c.deref.result.now (length c.deref.result.now) index entry refl within found.1 in
    let at : slice_get j.past.items index ≡ Some entry = ap (λ es. slice_get es index) (sym c.deref.ensures.value) ∙ read in
    subst (λ t. IsRecordAt g.S.Reversible.undoes index t entry.trace) c.self.view_is
    (record_at g.S.Reversible.undoes j.floor j.first.value j.first_note j.past.items j.last j.state index entry c.self.invariant.0 at)
