use Rattle.std.proofs.Common.{◌≡◌, ℕ, List, [], map, replicate, vec_items, ap, ◌∙◌, arith}
use Rattle.dependency_order.proofs.Rows.{more_empty}
use Rattle.dependency_order.proofs.lists.Lists.new.Goals as goal

pub loop-preserved : goal.loop-preserved
loop-preserved c = more_empty c.loop.rows.items c.push.new.self.items c.new.result c.loop.counter c.in_ok-push.ensures.items c.new.ensures.items c.loop.invariant

pub loop-init : goal.loop-init
loop-init c = ap (map vec_items) c.in_ok-rows.ensures.items

pub returns : goal.returns
returns c = let same : c.loop.counter ≡ c.args.count = omega arith in c.loop.invariant ∙ ap (λ n. replicate {A = List ℕ} n []) same
