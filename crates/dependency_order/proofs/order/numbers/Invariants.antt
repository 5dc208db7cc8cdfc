use Rattle.std.proofs.Common.{◌≡◌, ℕ, ltb, nat_cmp}
use Rattle.std.specs.BTreeSet.{contains}
use Rattle.dependency_order.proofs.order.numbers.Given as goal

abbrev pub invariant-loop-k : goal.invariant-loop-k
invariant-loop-k l = (p : ℕ) → contains nat_cmp l.numbers p ≡ ltb p l.k
