-- What was told, and what is left; and there is room for it.
use Rattle.std.proofs.Common.{◌≡◌, ◌≤◌, ◌+◌, ◌++◌, map, None, vec_capacity, vec_len}
use Rattle.std.specs.Vec.Iter.{into_iter_items, into_iter_len}
use Rattle.node_types.specs.declared.event.Answer.TheVariants as answer
use Rattle.node_parts.proofs.telling.tell_done.Given as goal

abbrev pub invariant-loop-sent : goal.invariant-loop-sent
invariant-loop-sent l = record {
  told : l.told.items ++ map (λ replies. record { answer = answer.Unit; note = record { replies = replies; arrival = None } }) (into_iter_items l.sent-iterator) ≡ map (λ replies. record { answer = answer.Unit; note = record { replies = replies; arrival = None } }) l.fn.lists.items;
  room : vec_len l.told + into_iter_len l.sent-iterator ≤ vec_capacity l.told;
}
