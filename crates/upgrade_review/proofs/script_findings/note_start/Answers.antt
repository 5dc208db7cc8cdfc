-- It is the one finding of its kind.
use Rattle.std.proofs.Common.{◌≡◌, ◌∙◌, true, false, true≢false, inl, inr, sym, ap, take}
use Rattle.upgrade_review.proofs.Noting.{noted}
use Rattle.upgrade_review.specs.Gathering.{IsStart}
use Rattle.upgrade_review.specs.Scripts.{is_stopped}
use Rattle.upgrade_review.specs.declared.finding.Finding.TheVariants.{Restarts, Starts}
use Rattle.upgrade_review.proofs.script_findings.note_start.Goals as goal

pub returns-then-is_stopped : goal.returns-then-is_stopped
returns-then-is_stopped c =
    let script = c.args.script.now in
    let index = c.args.index in
    let app = c.args.app.now in
    let told = Restarts index c.in_ok-application.application in
    let stopped : is_stopped app (take index script) ≡ true = sym c.is_stopped.ensures ∙ c.if-is_stopped.true in
    let same : told ≡ Restarts index app = ap (Restarts index) c.in_ok-application.ensures in
    noted _ (IsStart script index app) told _ _ (inr (stopped, same))
    (λ f w. elim w [ inl first ↦ absurd (true≢false (sym stopped ∙ first.0)) | inr again ↦ again.1 ∙ sym same ]) c.note.ensures

pub returns-else-is_stopped : goal.returns-else-is_stopped
returns-else-is_stopped c =
    let script = c.args.script.now in
    let index = c.args.index in
    let app = c.args.app.now in
    let told = Starts index c.in_ok-application.application in
    let running : is_stopped app (take index script) ≡ false = sym c.is_stopped.ensures ∙ c.if-is_stopped.false in
    let same : told ≡ Starts index app = ap (Starts index) c.in_ok-application.ensures in
    noted _ (IsStart script index app) told _ _ (inl (running, same))
    (λ f w. elim w [ inl first ↦ first.1 ∙ sym same | inr again ↦ absurd (true≢false (sym again.0 ∙ running)) ])
    c.note-else-is_stopped.ensures
