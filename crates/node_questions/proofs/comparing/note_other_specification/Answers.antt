-- It is noted if they differ.
use Rattle.std.proofs.Common.{◌≡◌, ◌≢◌, ◌∙◌, OnOk, subst, sym}
use Rattle.std.proofs.lemmas.Bool.{false≢true}
use Rattle.upgrade_review.specs.Gathering.{Adds}
use Rattle.node_questions.proofs.Noted.{of_two}
use Rattle.node_questions.proofs.Turns.{noted_where, nothing_noted}
use Rattle.node_questions.specs.declared.comparing.Difference.{Difference}
use Rattle.node_questions.specs.declared.comparing.Difference.TheVariants.{OtherSpecification}
use Rattle.node_questions.proofs.comparing.note_other_specification.Goals as goal

pub returns-then-same : goal.returns-then-same
returns-then-same c =
    let child = c.args.child.now in
    nothing_noted (c.args.other.now.spec ≢ child.spec) (λ d. d ≡ OtherSpecification c.args.app.now child.spec.id) _
    (λ differs. differs (c.same.ensures.0 c.if-same.true))

pub returns : goal.returns
returns c =
    let app = c.args.app.now in
    let child = c.args.child.now in
    let other = c.args.other.now in
    let differs : other.spec ≢ child.spec = λ same. false≢true (sym c.if-same.false ∙ c.same.ensures.1 same) in
    let is : OtherSpecification c.in_ok-application.application c.in_ok-id.id ≡ OtherSpecification app child.spec.id =
    of_two OtherSpecification _ _ _ _ c.in_ok-application.ensures c.in_ok-id.ensures in
    noted_where c.note.result (other.spec ≢ child.spec) (OtherSpecification app child.spec.id) _ _ differs
    (subst (λ (one : Difference). OnOk c.note.result (Adds (λ d. d ≡ one) c.args.found.now.items c.note.new.found.items)) is
    c.note.ensures)
