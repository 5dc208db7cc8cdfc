-- It is noted if they rest otherwise.
use Rattle.std.proofs.Common.{◌≡◌, ◌∙◌, OnOk, false, subst, sym}
use Rattle.std.proofs.lemmas.Bool.{false≢true}
use Rattle.upgrade_review.specs.Gathering.{Adds}
use Rattle.node_questions.proofs.Noted.{of_four, of_two}
use Rattle.node_questions.proofs.Turns.{noted_where, nothing_noted}
use Rattle.node_questions.specs.Shapes.{is_alike}
use Rattle.node_questions.specs.declared.comparing.Difference.{Difference}
use Rattle.node_questions.specs.declared.comparing.Difference.TheVariants.{OtherState}
use Rattle.node_questions.proofs.comparing.note_state.Goals as goal

pub returns-then-is_alike : goal.returns-then-is_alike
returns-then-is_alike c =
    let q = c.args.upgraded.now in
    let p = c.args.booted.now in
    let told = is_alike q.place p.place in
    let alike : c.is_alike.result ≡ told =
    c.is_alike.ensures ∙ of_two is_alike _ _ _ _ c.place-now.ensures c.place-before.ensures in
    nothing_noted (told ≡ false) (λ d. d ≡ OtherState c.args.app.now c.args.id.now q.place p.place) _
    (λ not. false≢true (sym not ∙ sym alike ∙ c.if-is_alike.true))

pub returns : goal.returns
returns c =
    let q = c.args.upgraded.now in
    let p = c.args.booted.now in
    let app = c.args.app.now in
    let id = c.args.id.now in
    let told = is_alike q.place p.place in
    let alike : c.is_alike.result ≡ told =
    c.is_alike.ensures ∙ of_two is_alike _ _ _ _ c.place-now.ensures c.place-before.ensures in
    let not : told ≡ false = sym alike ∙ c.if-is_alike.false in
    let upgraded : c.in_ok-upgraded.upgraded ≡ q.place = c.in_ok-upgraded.ensures ∙ c.place-now.ensures in
    let booted : c.in_ok-booted.booted ≡ p.place = c.in_ok-booted.ensures ∙ c.place-before.ensures in
    let is : OtherState c.in_ok-application.application c.in_ok-id.id c.in_ok-upgraded.upgraded c.in_ok-booted.booted
    ≡ OtherState app id q.place p.place =
    of_four OtherState _ _ _ _ _ _ _ _ c.in_ok-application.ensures c.in_ok-id.ensures upgraded booted in
    noted_where c.note.result (told ≡ false) (OtherState app id q.place p.place) _ _ not
    (subst (λ (one : Difference). OnOk c.note.result (Adds (λ d. d ≡ one) c.args.found.now.items c.note.new.found.items)) is
    c.note.ensures)
