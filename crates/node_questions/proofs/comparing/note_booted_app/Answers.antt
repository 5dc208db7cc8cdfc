-- It differs only if it runs.
use Rattle.std.proofs.Common.{◌≡◌, ◌∙◌, true, sym}
use Rattle.std.proofs.lemmas.Bool.{false≢true}
use Rattle.node_questions.proofs.Turns.{noted_besides, nothing_noted}
use Rattle.node_questions.specs.Parts.{DiffersAsStarted}
use Rattle.node_questions.specs.Running.{running_of, runs}
use Rattle.node_questions.proofs.comparing.note_booted_app.Goals as goal

pub returns-then-is_started : goal.returns-then-is_started
returns-then-is_started c =
    let a = c.args.app.now in
    let u = running_of c.args.upgraded in
    noted_besides c.note_started_app.result (a.is_started ≡ true) (DiffersAsStarted (runs a.spec.name u.apps) u
    c.args.processes.now a)
    _ _ (sym c.is_started.ensures ∙ c.if-is_started.true) c.note_started_app.ensures

pub returns-else-is_started : goal.returns-else-is_started
returns-else-is_started c =
    let a = c.args.app.now in
    let u = running_of c.args.upgraded in
    nothing_noted (a.is_started ≡ true) (DiffersAsStarted (runs a.spec.name u.apps) u c.args.processes.now a) _
    (λ is. false≢true (sym c.if-is_started.false ∙ c.is_started.ensures ∙ is))
