-- Each one in turn.
use Rattle.std.proofs.Common.{◌≡◌, ℕ, List, Contains, subst}
use Rattle.upgrade_review.proofs.Adding.{adds_alike, ends, goes_on}
use Rattle.upgrade_review.specs.Gathering.{Adds}
use Rattle.rehearsals.proofs.Pids.{members_noted}
use Rattle.rehearsals.specs.Observing.{IsLingering}
use Rattle.rehearsals.specs.declared.observing.Observation.{Observation}
use Rattle.rehearsals.specs.declared.observing.Observation.TheVariants.{Lingers}
use Rattle.rehearsals.proofs.observing.note_lingering.Goals as goal

pub loop-lingering-preserved : goal.loop-lingering-preserved
loop-lingering-preserved c =
    let xs = c.as_slice-lingering-items.result.now in
    let R : ℕ → List ℕ × ℕ → Observation → Type 0 = λ i u o. o ≡ Lingers c.args.direction u.0 u.1 in
    goes_on R xs _ _ _ _ _ c.loop-lingering-test.true c.lingering-item.is c.loop-lingering.invariant
    (subst (λ (m : List ℕ). Adds (λ o. o ≡ Lingers c.args.direction m c.lingering-item.result.1) c.loop-lingering.found.items
    c.note_user.new.found.items) c.in_ok-name.ensures c.in_ok-note_user.ensures)

pub returns : goal.returns
returns c =
    let xs = c.as_slice-lingering-items.result.now in
    let way = c.args.way.now in
    let R : List ℕ × ℕ → Observation → Type 0 = λ u o. o ≡ Lingers c.args.direction u.0 u.1 in
    let old = c.args.found.now.items in
    let new = c.loop-lingering.found.items in
    let all = subst (λ (items : List (List ℕ × ℕ)). Adds (λ o. (u : List ℕ × ℕ) × Contains items u × R u o) old new)
    c.as_slice-lingering-items.ensures
    (members_noted R xs old new (ends (λ i u. R u) xs _ _ _ c.loop-lingering-test.false c.loop-lingering.invariant)) in
    adds_alike (λ o. (u : List ℕ × ℕ) × Contains way.lingering u × R u o) (IsLingering c.args.direction way) old new
    (λ o w. ((w.0).0, (w.0).1, w.1, w.2)) (λ o w. ((w.0, w.1), w.2, w.3)) all
