use Rattle.std.proofs.Common.{◌<◌, ◌||◌, length, take, get_or, arith, sym, ap, ◌∙◌, nat_cmp}
use Rattle.std.specs.BTreeSet.{contains}
use Rattle.std.proofs.lemmas.List.{take_more}
use Rattle.dependency_order.specs.Orders.{stands}
use Rattle.dependency_order.proofs.FreeSets.{one_offered}
use Rattle.dependency_order.proofs.order.offer.Goals as goal

pub loop-vertex-preserved : goal.loop-vertex-preserved
loop-vertex-preserved c = λ q.
    let xs = c.args.vertices.now in
    let i = c.loop-vertex.vertex-index in
    let below : i < length xs = omega arith in
    one_offered c.args.free.now c.loop-vertex.free c.insert.new.self (take i xs) (get_or xs i 0) q (c.loop-vertex.invariant q) c.in_ok-insert.ensures.updates ∙
    ap (λ ys. contains nat_cmp c.args.free.now q || stands q ys) (sym (take_more xs i 0 below))
