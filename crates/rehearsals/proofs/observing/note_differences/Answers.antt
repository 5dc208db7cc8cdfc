-- Each one in turn.
use Rattle.std.proofs.Common.{◌≡◌, ℕ, subst}
use Rattle.node_questions.specs.declared.comparing.Difference.{Difference}
use Rattle.upgrade_review.proofs.Adding.{ends, goes_on}
use Rattle.upgrade_review.specs.Gathering.{Adds}
use Rattle.rehearsals.proofs.Pids.{members_noted}
use Rattle.rehearsals.specs.declared.observing.Observation.{Observation}
use Rattle.rehearsals.specs.declared.observing.Observation.TheVariants.{Differs}
use Rattle.rehearsals.proofs.observing.note_differences.Goals as goal

pub loop-difference-preserved : goal.loop-difference-preserved
loop-difference-preserved c =
    let R : ℕ → Difference → Observation → Type 0 = λ i d o. o ≡ Differs d in
    goes_on R c.args.differences.now _ _ _ _ _ c.loop-difference-test.true c.difference-item.is c.loop-difference.invariant
    (subst (λ (d : Difference). Adds (λ o. o ≡ Differs d) c.loop-difference.found.items c.note.new.found.items)
    c.in_ok-difference.ensures c.in_ok-note.ensures)

pub returns : goal.returns
returns c =
    let R : Difference → Observation → Type 0 = λ d o. o ≡ Differs d in
    members_noted R c.args.differences.now c.args.found.now.items c.loop-difference.found.items
    (ends (λ i d. R d) c.args.differences.now _ _ _ c.loop-difference-test.false c.loop-difference.invariant)
