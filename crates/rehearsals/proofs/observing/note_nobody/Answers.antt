-- Each module in turn.
use Rattle.std.proofs.Common.{◌≡◌, ℕ, List, Contains, subst}
use Rattle.upgrade_review.proofs.Adding.{ends, goes_on}
use Rattle.upgrade_review.specs.Gathering.{Adds}
use Rattle.rehearsals.proofs.Pids.{members_noted}
use Rattle.rehearsals.specs.declared.observing.Observation.{Observation}
use Rattle.rehearsals.specs.declared.observing.Observation.TheVariants.{SuspendsNobody}
use Rattle.rehearsals.proofs.observing.note_nobody.Goals as goal

pub loop-module-preserved : goal.loop-module-preserved
loop-module-preserved c =
    let xs = c.as_slice-module-items.result.now in
    let R : ℕ → List ℕ → Observation → Type 0 = λ i m o. o ≡ SuspendsNobody c.args.way c.args.index m in
    goes_on R xs _ _ _ _ _ c.loop-module-test.true c.module-item.is c.loop-module.invariant
    (subst (λ (m : List ℕ). Adds (λ o. o ≡ SuspendsNobody c.args.way c.args.index m) c.loop-module.found.items
    c.note_suspension.new.found.items) c.in_ok-name.ensures c.in_ok-note_suspension.ensures)

pub returns : goal.returns
returns c =
    let xs = c.as_slice-module-items.result.now in
    let R : List ℕ → Observation → Type 0 = λ m o. o ≡ SuspendsNobody c.args.way c.args.index m in
    let old = c.args.found.now.items in
    let new = c.loop-module.found.items in
    subst (λ (items : List (List ℕ)). Adds (λ o. (m : List ℕ) × Contains items m × R m o) old new) c.as_slice-module-items.ensures
    (members_noted R xs old new (ends (λ i m. R m) xs _ _ _ c.loop-module-test.false c.loop-module.invariant))
