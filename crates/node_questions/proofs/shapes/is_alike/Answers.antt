-- Loops in one function have as many arguments.
use Rattle.std.proofs.Common.{◌∙◌, sym}
use Rattle.std.proofs.lemmas.Bool.{false≢true}
use Rattle.node_questions.proofs.Shaped.{same_loop}
use Rattle.node_questions.proofs.shapes.is_alike.Goals as goal
use Rattle.node_questions.proofs.shapes.is_alike.Goals.{then-eq-2, else-eq-2}

pub returns-then-eq-3 : goal.returns-then-eq-3
returns-then-eq-3 c = elim c.if-eq-2.branch [
  | then-eq-2 w ↦ same_loop c.args.one.now c.args.other.now _ _ _ _ _ _ _ _ _ _ c.in-Loop-Loop.is-0 c.in-Loop-Loop.is-1
      c.as_slice.ensures c.as_slice-then-eq-3.ensures (sym c.eq-in-Loop-Loop.ensures ∙ w.if-eq-2.true)
      (sym w.eq-then-eq-2.ensures ∙ sym w.value-is ∙ c.if-eq-3.true)
  | else-eq-2 w ↦ absurd (false≢true (sym w.if-eq-2.false ∙ sym w.value-is ∙ c.if-eq-3.true))
]
