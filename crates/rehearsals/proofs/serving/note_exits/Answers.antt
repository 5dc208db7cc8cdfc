-- Each event in turn.
use Rattle.std.proofs.Common.{ℕ}
use Rattle.upgrade_review.proofs.Adding.{ends, goes_on}
use Rattle.rehearsals.proofs.Pids.{members_noted}
use Rattle.rehearsals.specs.Observing.{IsExitOf}
use Rattle.rehearsals.specs.declared.happening.Happening.{Happening}
use Rattle.rehearsals.specs.declared.observing.Observation.{Observation}
use Rattle.rehearsals.proofs.serving.note_exits.Goals as goal

pub loop-happening-preserved : goal.loop-happening-preserved
loop-happening-preserved c =
    let R : ℕ → Happening → Observation → Type 0 = λ i h o. IsExitOf c.args.when h o in
    goes_on R c.args.happened.now _ _ _ _ _ c.loop-happening-test.true c.happening-item.is c.loop-happening.invariant
    c.in_ok-note_exit_of.ensures

pub returns : goal.returns
returns c =
    let R : Happening → Observation → Type 0 = λ h o. IsExitOf c.args.when h o in
    let old = c.args.found.now.items in
    let new = c.loop-happening.found.items in
    members_noted R c.args.happened.now old new
    (ends (λ i h. R h) c.args.happened.now _ _ _ c.loop-happening-test.false c.loop-happening.invariant)
