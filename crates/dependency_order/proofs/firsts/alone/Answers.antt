use Rattle.std.proofs.Common.{[], ◌∷◌, ◌++◌, ap, sym, ◌∙◌}
use Rattle.dependency_order.proofs.Upto.{upto-more}
use Rattle.dependency_order.proofs.firsts.alone.Goals as goal

pub loop-vertex-preserved : goal.loop-vertex-preserved
loop-vertex-preserved c =
    c.in_ok-push.ensures.items ∙ ap (λ ps. ps ++ c.loop-vertex.vertex ∷ []) c.loop-vertex.invariant ∙ sym (upto-more c.loop-vertex.vertex)
