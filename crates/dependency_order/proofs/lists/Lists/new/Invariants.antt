use Rattle.std.proofs.Common.{◌≡◌, ℕ, List, [], map, replicate, vec_items}
use Rattle.dependency_order.proofs.lists.Lists.new.Given as goal

abbrev pub invariant-loop : goal.invariant-loop
invariant-loop l = map vec_items l.rows.items ≡ replicate {A = List ℕ} l.counter []
