-- Whether there is one after the upgrade.
use Rattle.std.proofs.Common.{Option}
use Rattle.process.specs.Process.{ProcessState}
use Rattle.node_questions.proofs.Noted.{by_option}
use Rattle.node_questions.specs.Parts.{DiffersAsProcess}
use Rattle.node_questions.specs.declared.comparing.Difference.{Difference}
use Rattle.node_questions.proofs.comparing.note_beside.Goals as goal

pub returns-in-Some : goal.returns-in-Some
returns-in-Some c =
    let P : Option ProcessState → Difference → Type 0 = λ o. DiffersAsProcess c.args.app.now c.args.id.now c.args.awaited o
    c.args.booted.now in
    by_option c.note_process.result P c.args.upgraded _ _ _ c.in-Some.is c.note_process.ensures

pub returns-in-None : goal.returns-in-None
returns-in-None c =
    let P : Option ProcessState → Difference → Type 0 = λ o. DiffersAsProcess c.args.app.now c.args.id.now c.args.awaited o
    c.args.booted.now in
    by_option c.note_idle.result P c.args.upgraded _ _ _ c.in-None.is c.note_idle.ensures
