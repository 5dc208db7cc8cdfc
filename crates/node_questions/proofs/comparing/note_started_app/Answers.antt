-- Its children are compared if it runs on both.
use Rattle.std.proofs.Common.{ap}
use Rattle.otp_files.specs.declared.app.AppSpec.{AppSpec}
use Rattle.node_questions.proofs.Noted.{children_noted, missing_noted}
use Rattle.node_questions.specs.Running.{running_of}
use Rattle.node_questions.proofs.comparing.note_started_app.Goals as goal

pub returns-then-runs : goal.returns-then-runs
returns-then-runs c =
    let named = ap (λ (s : AppSpec). s.name) c.spec.ensures in
    children_noted _ c.args.app.now _ c.runs.result _ _ named (running_of c.args.upgraded) c.args.processes.now _
    c.children.ensures
    c.runs.ensures c.if-runs.true c.note_children.ensures

pub returns : goal.returns
returns c =
    let named = ap (λ (s : AppSpec). s.name) c.spec.ensures in
    missing_noted _ c.args.app.now _ c.runs.result _ _ named (running_of c.args.upgraded) c.args.processes.now _
    c.in_ok-application.ensures c.runs.ensures c.if-runs.false c.note.ensures
