-- What was told, and what is left.
use Rattle.std.proofs.Common.{◌≡◌, ◌++◌, map, None}
use Rattle.std.specs.Vec.Iter.{into_iter_items}
use Rattle.node_types.specs.declared.event.Answer.TheVariants as answer
use Rattle.node_parts.proofs.telling.tell_swept.Given as goal

abbrev pub invariant-loop-replies : goal.invariant-loop-replies
invariant-loop-replies l = l.told.items ++ map (λ replies. record { answer = answer.Swept l.names; note = record { replies = replies; arrival = None } }) (into_iter_items l.replies-iterator) ≡ map (λ replies. record { answer = answer.Swept l.names; note = record { replies = replies; arrival = None } }) l.fn.lists.items
