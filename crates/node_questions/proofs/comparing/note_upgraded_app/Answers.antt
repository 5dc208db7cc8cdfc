-- It differs only if it runs.
use Rattle.std.proofs.Common.{◌≡◌, ◌∙◌, true, sym}
use Rattle.std.proofs.lemmas.Bool.{false≢true}
use Rattle.node_questions.proofs.Turns.{noted_besides, nothing_noted}
use Rattle.node_questions.specs.Parts.{StaysAsStarted}
use Rattle.node_questions.specs.Running.{runs}
use Rattle.node_questions.proofs.comparing.note_upgraded_app.Goals as goal

pub returns-then-is_started : goal.returns-then-is_started
returns-then-is_started c =
    let a = c.args.app.now in
    let booted = c.args.booted.now in
    noted_besides c.note_staying_app.result (a.is_started ≡ true) (StaysAsStarted (runs a.spec.name booted) booted a)
    _ _ (sym c.is_started.ensures ∙ c.if-is_started.true) c.note_staying_app.ensures

pub returns-else-is_started : goal.returns-else-is_started
returns-else-is_started c =
    let a = c.args.app.now in
    let booted = c.args.booted.now in
    nothing_noted (a.is_started ≡ true) (StaysAsStarted (runs a.spec.name booted) booted a) _
    (λ is. false≢true (sym c.if-is_started.false ∙ c.is_started.ensures ∙ is))
