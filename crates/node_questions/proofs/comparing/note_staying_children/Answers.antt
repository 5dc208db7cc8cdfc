-- The next item, and then none is left.
use Rattle.std.proofs.Common.{ℕ}
use Rattle.app_table.specs.declared.child.Child.{Child}
use Rattle.upgrade_review.proofs.Adding.{ends, goes_on}
use Rattle.node_questions.specs.Parts.{IsChildStaying}
use Rattle.node_questions.specs.declared.comparing.Difference.{Difference}
use Rattle.node_questions.proofs.comparing.note_staying_children.Goals as goal

pub loop-child-preserved : goal.loop-child-preserved
loop-child-preserved c =
    let R : ℕ → Child → Difference → Type 0 =
    λ i it. IsChildStaying c.args.app.now c.args.booted.now it in
    goes_on R c.args.children.now _ _ _ _ _ c.loop-child-test.true c.child-item.is c.loop-child.invariant
    c.in_ok-note_staying_child.ensures

pub returns : goal.returns
returns c =
    let R : ℕ → Child → Difference → Type 0 =
    λ i it. IsChildStaying c.args.app.now c.args.booted.now it in
    ends R c.args.children.now _ _ _ c.loop-child-test.false c.loop-child.invariant
