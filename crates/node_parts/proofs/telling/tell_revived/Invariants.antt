-- What was told, and what is left; and there is room for it.
use Rattle.std.proofs.Common.{◌≡◌, ◌≤◌, ◌+◌, ◌++◌, map, None, vec_capacity, vec_len}
use Rattle.std.specs.Vec.Iter.{into_iter_items, into_iter_len}
use Rattle.node_types.specs.declared.event.Answer.TheVariants as answer
use Rattle.node_parts.proofs.telling.tell_revived.Given as goal

abbrev pub invariant-loop-replies : goal.invariant-loop-replies
invariant-loop-replies l = record {
  told : l.told.items ++ map (λ replies. record { answer = answer.Revived l.pid; note = record { replies = replies; arrival = None } }) (into_iter_items l.replies-iterator) ≡ map (λ replies. record { answer = answer.Revived l.pid; note = record { replies = replies; arrival = None } }) l.fn.lists.items;
  room : vec_len l.told + into_iter_len l.replies-iterator ≤ vec_capacity l.told;
}
