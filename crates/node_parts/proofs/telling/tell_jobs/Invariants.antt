-- What was told, and what is left; and there is room for it.
use Rattle.std.proofs.Common.{◌≡◌, ◌≤◌, ◌+◌, ◌++◌, [], map, None, vec_capacity, vec_len}
use Rattle.std.specs.Vec.Iter.{into_iter_items, into_iter_len}
use Rattle.node_types.specs.declared.event.Answer.TheVariants as answer
use Rattle.node_parts.proofs.telling.tell_jobs.Given as goal

abbrev pub invariant-loop-job : goal.invariant-loop-job
invariant-loop-job l = record {
  told : l.told.items ++ map (λ job. record { answer = answer.Job job; note = record { replies = []; arrival = None } }) (into_iter_items l.job-iterator) ≡ map (λ job. record { answer = answer.Job job; note = record { replies = []; arrival = None } }) l.fn.jobs.items;
  room : vec_len l.told + into_iter_len l.job-iterator ≤ vec_capacity l.told;
}
