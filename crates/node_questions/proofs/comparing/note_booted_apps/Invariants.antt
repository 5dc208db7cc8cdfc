-- What is noted so far.
use Rattle.std.proofs.Common.{ℕ}
use Rattle.app_table.specs.Applications.{Application}
use Rattle.upgrade_review.proofs.Adding.{UpTo}
use Rattle.upgrade_review.specs.Gathering.{Adds}
use Rattle.node_questions.specs.Parts.{DiffersAsBooted}
use Rattle.node_questions.specs.Running.{running_of}
use Rattle.node_questions.proofs.comparing.note_booted_apps.Given as goal

abbrev pub invariant-loop-index : goal.invariant-loop-index
invariant-loop-index l =
    let R = λ (i : ℕ) (a : Application). DiffersAsBooted (running_of l.fn.upgraded) l.fn.booted.processes.now a in
    Adds (UpTo R l.fn.booted.apps.now l.index) l.fn.found.items l.found.items
