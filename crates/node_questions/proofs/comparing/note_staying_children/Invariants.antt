-- What is noted so far.
use Rattle.std.proofs.Common.{ℕ}
use Rattle.app_table.specs.declared.child.Child.{Child}
use Rattle.upgrade_review.proofs.Adding.{UpTo}
use Rattle.upgrade_review.specs.Gathering.{Adds}
use Rattle.node_questions.specs.Parts.{IsChildStaying}
use Rattle.node_questions.proofs.comparing.note_staying_children.Given as goal

abbrev pub invariant-loop-child : goal.invariant-loop-child
invariant-loop-child l =
    let R = λ (i : ℕ) (it : Child). IsChildStaying l.app l.booted it in
    Adds (UpTo R l.children l.child-index) l.fn.found.items l.found.items
