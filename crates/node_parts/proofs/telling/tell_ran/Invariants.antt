-- What was told, and what is left; there is room for it, and an instruction for each.
use Rattle.std.proofs.Common.{◌≡◌, ◌≤◌, ◌+◌, ◌++◌, length, map, replicate, None, vec_capacity, vec_len}
use Rattle.std.specs.Vec.Iter.{into_iter_items, into_iter_len}
use Rattle.low_instructions.specs.declared.low.Low.{Low}
use Rattle.node_types.specs.declared.event.Answer.TheVariants as answer
use Rattle.node_parts.proofs.telling.tell_ran.Given as goal

abbrev pub invariant-loop-replies : goal.invariant-loop-replies
invariant-loop-replies l = record {
  told : (i : Low) → l.fn.instructions.items ≡ replicate (length l.fn.lists.items) i → l.told.items ++ map (λ replies. record { answer = answer.Ran i; note = record { replies = replies; arrival = None } }) (into_iter_items l.replies-iterator) ≡ map (λ replies. record { answer = answer.Ran i; note = record { replies = replies; arrival = None } }) l.fn.lists.items;
  left : (i : Low) → l.fn.instructions.items ≡ replicate (length l.fn.lists.items) i → l.instructions.items ≡ replicate (length (into_iter_items l.replies-iterator)) i;
  room : vec_len l.told + into_iter_len l.replies-iterator ≤ vec_capacity l.told;
  copies : vec_len l.instructions ≡ into_iter_len l.replies-iterator;
}
