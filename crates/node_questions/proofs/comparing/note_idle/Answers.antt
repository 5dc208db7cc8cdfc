-- The copies are noted.
use Rattle.std.proofs.Common.{◌≡◌, ◌∙◌, false, true≢false, sym}
use Rattle.upgrade_review.proofs.Adding.{adds_alike, adds_nothing}
use Rattle.upgrade_review.proofs.Noting.{on_ok}
use Rattle.upgrade_review.specs.Gathering.{Adds}
use Rattle.node_questions.proofs.Noted.{of_two}
use Rattle.node_questions.specs.declared.comparing.Difference.{Difference}
use Rattle.node_questions.specs.declared.comparing.Difference.TheVariants.{ChildMissing}
use Rattle.node_questions.proofs.comparing.note_idle.Goals as goal

pub returns : goal.returns
returns c =
    let one = ChildMissing c.in_ok-application.application c.in_ok-id.id in
    let missing = ChildMissing c.args.app.now c.args.id.now in
    let same : one ≡ missing = of_two ChildMissing _ _ _ _ c.in_ok-application.ensures c.in_ok-id.ensures in
    let old = c.args.found.now.items in
    let new = c.note.new.found.items in
    let Told : Difference → Type 0 = λ d. (c.args.awaited ≡ false) × (d ≡ missing) in
    on_ok c.note.result (Adds (λ d. d ≡ one) old new) (Adds Told old new)
    (λ adds. adds_alike (λ d. d ≡ one) Told old new (λ d is. (c.if-awaited.false, is ∙ same)) (λ d w. w.1 ∙ sym same) adds)
    c.note.ensures

pub returns-then-awaited : goal.returns-then-awaited
returns-then-awaited c =
    adds_nothing (λ d. (c.args.awaited ≡ false) × (d ≡ ChildMissing c.args.app.now c.args.id.now)) c.args.found.now.items
    (λ d w. true≢false (sym c.if-awaited.true ∙ w.0))
