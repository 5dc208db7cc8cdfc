-- What was told, and what is left; and there is room for it.
use Rattle.std.proofs.Common.{◌≡◌, ◌≤◌, ◌+◌, ◌++◌, [], map, Some, vec_capacity, vec_len}
use Rattle.std.specs.Vec.Iter.{into_iter_items, into_iter_len}
use Rattle.node_types.specs.declared.event.Answer.TheVariants as answer
use Rattle.node_parts.proofs.telling.tell_arrivals.Given as goal

abbrev pub invariant-loop-arrival : goal.invariant-loop-arrival
invariant-loop-arrival l = record {
  told : l.told.items ++ map (λ it. record { answer = answer.Unit; note = record { replies = []; arrival = Some it } }) (into_iter_items l.arrival-iterator) ≡ map (λ it. record { answer = answer.Unit; note = record { replies = []; arrival = Some it } }) l.fn.arrivals.items;
  room : vec_len l.told + into_iter_len l.arrival-iterator ≤ vec_capacity l.told;
}
