use Rattle.std.proofs.Common.{take}
use Rattle.dependency_order.specs.Lists.{IsEntered}
use Rattle.dependency_order.proofs.relation.enter.Given as goal

abbrev pub invariant-loop-number : goal.invariant-loop-number
invariant-loop-number l = IsEntered l.initial.lists l.lists (take l.number-index l.numbers) l.item
