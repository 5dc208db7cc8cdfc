use Rattle.std.proofs.Common.{◌<◌, ◌||◌, ◌++◌, ◌∷◌, [], ℕ, List, length, take, get_or, arith, sym, ap, ◌∙◌, subst, nat_cmp, BTreeSet}
use Rattle.std.specs.BTreeSet.{contains}
use Rattle.std.proofs.lemmas.List.{take_more}
use Rattle.dependency_order.specs.Left.{AreOffered}
use Rattle.dependency_order.specs.Orders.{stands}
use Rattle.dependency_order.proofs.FreeSets.{more_offered, none_more_offered}
use Rattle.dependency_order.proofs.order.offer_askers.Goals as goal
use Rattle.dependency_order.proofs.order.offer_askers.Goals.{else-held-module-le1, then-held-module-le1+in_ok-offer}

pub loop-module-preserved : goal.loop-module-preserved
loop-module-preserved c =
    let old = c.args.free.now in
    let now = c.loop-module.free in
    let held = c.args.held.now in
    let given = c.args.given.now in
    let askers = c.args.askers.now in
    let i = c.loop-module.module-index in
    let x = get_or given i 0 in
    let below : i < length given = omega arith in
    let P : List ℕ → Type 0 = λ ys. AreOffered old c.if-held-module-le1.free held ys askers in
    subst P (sym (take_more given i 0 below))
    (elim c.if-held-module-le1.branch [
      | then-held-module-le1+in_ok-offer w ↦
          let N : BTreeSet ℕ → Type 0 = λ new. AreOffered old new held (take i given ++ x ∷ []) askers in
          subst N (sym w.free-is)
          (more_offered old now w.offer.new.free held (take i given) askers x c.loop-module.invariant
          (λ p. w.in_ok-offer.ensures p ∙ ap (λ ys. contains nat_cmp now p || stands p ys) w.at.ensures))
      | else-held-module-le1 w ↦
          let N : BTreeSet ℕ → Type 0 = λ new. AreOffered old new held (take i given ++ x ∷ []) askers in
          let many = w.if-held-module-le1.false in
          subst N (sym w.free-is) (none_more_offered old now held (take i given) askers x (omega (arith, many)) c.loop-module.invariant)
    ])
