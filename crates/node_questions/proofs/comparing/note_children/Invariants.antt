-- What is noted so far.
use Rattle.std.proofs.Common.{ℕ}
use Rattle.app_table.specs.declared.child.Child.{Child}
use Rattle.upgrade_review.proofs.Adding.{UpTo}
use Rattle.upgrade_review.specs.Gathering.{Adds}
use Rattle.node_questions.specs.Parts.{DiffersAsChild}
use Rattle.node_questions.specs.Running.{running_of}
use Rattle.node_questions.proofs.comparing.note_children.Given as goal

abbrev pub invariant-loop-child : goal.invariant-loop-child
invariant-loop-child l =
    let R = λ (i : ℕ) (it : Child). DiffersAsChild l.app (running_of l.fn.upgraded) l.processes it in
    Adds (UpTo R l.children l.child-index) l.fn.found.items l.found.items
