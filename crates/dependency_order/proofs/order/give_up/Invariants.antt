use Rattle.std.proofs.Common.{◌≡◌, ◌+◌, ℕ, length, get_or, take}
use Rattle.dependency_order.specs.Orders.{times}
use Rattle.dependency_order.proofs.order.give_up.Given as goal

abbrev pub invariant-loop-module : goal.invariant-loop-module
invariant-loop-module l = record {
  many : length l.held ≡ length l.initial.held;
  each : (k : ℕ) → get_or l.held k 0 + times k (take l.module-index l.given) ≡ get_or l.initial.held k 0;
}
