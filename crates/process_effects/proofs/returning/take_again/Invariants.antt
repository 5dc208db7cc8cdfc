-- The others leave as they would have at first, behind those that have left.
use Rattle.std.proofs.Common.{◌≡◌, ◌+◌, ◌++◌, ◌≤◌, map, vec_len, vec_capacity}
use Rattle.process_effects.specs.Ends.{all_ended, all_vacated}
use Rattle.process_effects.proofs.returning.take_again.Given as goal

abbrev pub invariant-loop-leaves : goal.invariant-loop-leaves
invariant-loop-leaves l = record {
  table : all_vacated (map (λ p. p.pid) l.back.items) l.store ≡ all_vacated (map (λ p. p.pid) l.fn.back.items) l.fn.store;
  out : l.out.items ++ all_ended l.back.items l.store ≡ l.fn.out.items ++ all_ended l.fn.back.items l.fn.store;
  room : vec_len l.out + vec_len l.back ≤ vec_capacity l.out;
}

abbrev pub decreases-loop-leaves : goal.decreases-loop-leaves
decreases-loop-leaves l = vec_len l.back
