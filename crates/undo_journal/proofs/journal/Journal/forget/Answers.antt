-- The mark's station is the first one, or that of an entry, behind which the others stay.
use Rattle.std.proofs.Common.{◌≡◌, Some, take, subst, sym, ap, ◌∙◌}
use Rattle.undo_journal.specs.Timeline.{kept_to, forgotten_to}
use Rattle.undo_journal.proofs.Forgets.{forgotten_to-mark, here-forgotten}
use Rattle.undo_journal.proofs.Timelines.{forgotten-front, forgotten-same, kept-forgotten}
use Rattle.undo_journal.proofs.journal.Journal.forget.Goals as goal

pub returns-then-count-eq0-clause-forgotten : goal.returns-then-count-eq0-clause-forgotten
returns-then-count-eq0-clause-forgotten g c =
    let t = c.args.self.now in
    forgotten-same c.args.mark t (c.in_ok-count.ensures.kept ∙ ap (λ n. Some (take n t.later)) c.if-count-eq0.true)

pub returns-then-count-eq0-clause-at_mark : goal.returns-then-count-eq0-clause-at_mark
returns-then-count-eq0-clause-at_mark g c =
    forgotten_to-mark c.args.mark c.args.self.now c.args.self.now (returns-then-count-eq0-clause-forgotten g c)

pub invariant_of-self : goal.invariant_of-self
invariant_of-self g c =
    let j = c.self.inside in
    let past = j.past.items in
    let parts = c.drop_before-serial.ensures in
    let items = c.drop_before-serial.new.past.items in
    let entry = c.drop_before-serial.result in
    let kept = subst (λ u. kept_to c.args.mark u.first u.later ≡ Some (take c.in_ok-count.count u.later)) (sym c.self.view_is) c.in_ok-count.ensures.kept in
    let found = forgotten-front j.floor j.first.value j.first_note past parts.0 items j.last c.args.mark c.in_ok-count.count entry kept parts.1 parts.2 in
    kept-forgotten g.S.Reversible.undoes j.floor j.first.value j.first_note past parts.0 items j.last c.args.mark entry j.state parts.1 found c.self.invariant.0 c.self.invariant.1

pub returns-clause-forgotten : goal.returns-clause-forgotten
returns-clause-forgotten g c =
    let j = c.self.inside in
    let parts = c.drop_before-serial.ensures in
    let items = c.drop_before-serial.new.past.items in
    let entry = c.drop_before-serial.result in
    let kept = subst (λ u. kept_to c.args.mark u.first u.later ≡ Some (take c.in_ok-count.count u.later)) (sym c.self.view_is) c.in_ok-count.ensures.kept in
    ap (λ u. forgotten_to c.args.mark u) (sym c.self.view_is) ∙ forgotten-front j.floor j.first.value j.first_note j.past.items parts.0 items j.last c.args.mark c.in_ok-count.count entry kept parts.1 parts.2

pub returns-clause-at_mark : goal.returns-clause-at_mark
returns-clause-at_mark g c =
    forgotten_to-mark c.args.mark c.args.self.now _ (returns-clause-forgotten g c)

pub returns-clause-here : goal.returns-clause-here
returns-clause-here g c =
    here-forgotten c.args.mark c.args.self.now _ (returns-clause-forgotten g c)
