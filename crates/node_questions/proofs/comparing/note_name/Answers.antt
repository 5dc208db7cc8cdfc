-- It is noted if the names differ.
use Rattle.std.proofs.Common.{◌≡◌, ◌≢◌, ◌∙◌, OnOk, false, subst, sym}
use Rattle.std.proofs.lemmas.Bool.{false≢true}
use Rattle.upgrade_review.specs.Gathering.{Adds}
use Rattle.node_questions.proofs.Noted.{of_four}
use Rattle.node_questions.proofs.Turns.{noted_where, nothing_noted}
use Rattle.node_questions.specs.declared.comparing.Difference.{Difference}
use Rattle.node_questions.specs.declared.comparing.Difference.TheVariants.{OtherName}
use Rattle.node_questions.proofs.comparing.note_name.Goals as goal

pub returns-then-is_same_name : goal.returns-then-is_same_name
returns-then-is_same_name c =
    let q = c.args.upgraded.now in
    let p = c.args.booted.now in
    let same : q.name ≡ p.name = sym c.name.ensures ∙ c.is_same_name.ensures.0 c.if-is_same_name.true ∙ c.name-2.ensures in
    nothing_noted (q.name ≢ p.name) (λ d. d ≡ OtherName c.args.app.now c.args.id.now q.name p.name) _ (λ other. other same)

pub returns : goal.returns
returns c =
    let q = c.args.upgraded.now in
    let p = c.args.booted.now in
    let app = c.args.app.now in
    let id = c.args.id.now in
    let other : q.name ≢ p.name =
    λ same. false≢true (sym c.if-is_same_name.false ∙ c.is_same_name.ensures.1 (c.name.ensures ∙ same ∙ sym c.name-2.ensures)) in
    let is : OtherName c.in_ok-application.application c.in_ok-id.id c.in_ok-upgraded.upgraded c.in_ok-booted.booted
    ≡ OtherName app id q.name p.name =
    of_four OtherName _ _ _ _ _ _ _ _ c.in_ok-application.ensures c.in_ok-id.ensures c.in_ok-upgraded.ensures
    c.in_ok-booted.ensures in
    noted_where c.note.result (q.name ≢ p.name) (OtherName app id q.name p.name) _ _ other
    (subst (λ (one : Difference). OnOk c.note.result (Adds (λ d. d ≡ one) c.args.found.now.items c.note.new.found.items)) is
    c.note.ensures)
