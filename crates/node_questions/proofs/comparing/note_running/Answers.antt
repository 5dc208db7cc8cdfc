-- Whether there is a process after the boot.
use Rattle.std.proofs.Common.{Option}
use Rattle.std.specs.Option.{option_copied}
use Rattle.process.specs.Process.{ProcessState}
use Rattle.node_questions.proofs.Noted.{by_none, by_option}
use Rattle.node_questions.specs.Parts.{DiffersIfRuns}
use Rattle.node_questions.specs.declared.comparing.Difference.{Difference}
use Rattle.node_questions.proofs.comparing.note_running.Goals as goal

pub returns-in-Some : goal.returns-in-Some
returns-in-Some c =
    let P : Option ProcessState → Difference → Type 0 =
    DiffersIfRuns c.args.app.now c.args.id.now c.args.awaited (option_copied c.args.upgraded) in
    by_option c.note_beside.result P c.args.booted _ _ _ c.in-Some.is c.note_beside.ensures

pub returns-in-None : goal.returns-in-None
returns-in-None c =
    let P : Option ProcessState → Difference → Type 0 =
    DiffersIfRuns c.args.app.now c.args.id.now c.args.awaited (option_copied c.args.upgraded) in
    by_none P c.args.booted _ c.in-None.is (λ d w. w)
