use Rattle.std.proofs.Common.{◌≡◌}
use Rattle.erl_semantics.specs.Bindings.{rest_behind}
use Rattle.erl_semantics.proofs.matching.rest_behind.Given as goal

abbrev pub invariant-loop : goal.invariant-loop
invariant-loop l = l.left ≡ rest_behind l.counter l.row
