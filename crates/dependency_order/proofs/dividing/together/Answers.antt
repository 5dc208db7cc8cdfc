use Rattle.std.proofs.Common.{◌≡◌, ◌++◌, ◌∷◌, [], ℕ, List, arith, ap, ◌∙◌, Vec, Global}
use Rattle.dependency_order.specs.declared.group.Group.{Group}
use Rattle.dependency_order.specs.Dealt.{group_of}
use Rattle.dependency_order.specs.Lists.{row}
use Rattle.dependency_order.proofs.Dealing.{leaders-left, leaders-pushed}
use Rattle.dependency_order.proofs.dividing.together.Goals as goal
use Rattle.dependency_order.proofs.dividing.together.Goals.{else-first-vertex, then-first-vertex+in_ok-group+in_ok-push}

same_group : (g : Group) (one another : List ℕ) → g.dependencies_first ≡ one → g.dependants_first ≡ another → g ≡ record { dependencies_first = one; dependants_first = another }
same_group g one another first second =
    ap (λ l. record { dependencies_first = l; dependants_first = g.dependants_first }) first ∙ ap (λ l. record { dependencies_first = one; dependants_first = l }) second

items-same : (v w : Vec Group Global) → v ≡ w → v.items ≡ w.items
items-same v w e = ap (λ (u : Vec Group Global). u.items) e

pub loop-vertex-preserved : goal.loop-vertex-preserved
loop-vertex-preserved c =
    let firsts = c.args.firsts.now in
    let i = c.loop-vertex.vertex in
    let g = group_of c.args.dependencies_first.now c.args.dependants_first.now in
    let before = c.loop-vertex.groups.items in
    elim c.if-first-vertex.branch [
      | then-first-vertex+in_ok-group+in_ok-push w ↦
          let made = same_group w.in_ok-group.field-0 (row c.args.dependencies_first.now i) (row c.args.dependants_first.now i)
          (w.in_ok-group.ensures.dependencies ∙ w.at.ensures) (w.in_ok-group.ensures.dependants ∙ w.at-then-first-vertex.ensures) in
          let pushed = items-same c.if-first-vertex.groups _ w.groups-is ∙ w.in_ok-push.ensures.items ∙ ap (λ x. before ++ x ∷ []) made in
          leaders-pushed firsts i g before c.if-first-vertex.groups.items (omega arith) c.loop-vertex.invariant w.if-first-vertex.true pushed
      | else-first-vertex w ↦
          items-same c.if-first-vertex.groups _ w.groups-is ∙ leaders-left firsts i g before (omega arith) c.loop-vertex.invariant w.if-first-vertex.false
    ]
