-- It is noted if the code differs.
use Rattle.std.proofs.Common.{◌≡◌, ◌≢◌, ◌∙◌, ℕ, List, OnOk, subst, sym}
use Rattle.std.proofs.lemmas.Bool.{false≢true}
use Rattle.upgrade_review.specs.Gathering.{Adds}
use Rattle.node_questions.proofs.Turns.{noted_where, nothing_noted}
use Rattle.node_questions.specs.declared.comparing.Difference.TheVariants.{OtherCode}
use Rattle.node_questions.proofs.comparing.note_other_code.Goals as goal

pub returns-then-same : goal.returns-then-same
returns-then-same c =
    nothing_noted (c.args.upgraded.now ≢ c.args.booted.now) (λ d. d ≡ OtherCode c.args.name.now) _
    (λ differs. differs (c.same.ensures.0 c.if-same.true))

pub returns : goal.returns
returns c =
    let differs : c.args.upgraded.now ≢ c.args.booted.now = λ same. false≢true (sym c.if-same.false ∙ c.same.ensures.1 same) in
    noted_where c.note.result (c.args.upgraded.now ≢ c.args.booted.now) (OtherCode c.args.name.now) _ _ differs
    (subst (λ (m : List ℕ). OnOk c.note.result (Adds (λ d. d ≡ OtherCode m) c.args.found.now.items c.note.new.found.items))
    c.in_ok-module.ensures c.note.ensures)
