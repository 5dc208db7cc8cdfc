-- The others return as all would have at first; and those that have returned leave as they had.
use Rattle.std.proofs.Common.{◌≡◌, ◌+◌, ◌++◌, ◌≤◌, All, map, vec_len, vec_capacity}
use Rattle.process_effects.specs.Ends.{AllReturn, Lives, all_ended, all_returned, all_vacated}
use Rattle.process_effects.proofs.returning.return_all.Given as goal

abbrev pub invariant-loop-ended : goal.invariant-loop-ended
invariant-loop-ended l = record {
  table : all_vacated (map (λ p. p.pid) l.back.items) l.store ≡ l.fn.store;
  out : l.killed.items ++ all_ended l.back.items l.store ≡ l.fn.killed.items;
  returned : all_returned l.modules l.killed.items l.store ≡ all_returned l.modules l.fn.killed.items l.fn.store;
  can : AllReturn l.modules l.killed.items l.store;
  lives : All (Lives l.modules) l.killed.items → All (Lives l.modules) l.fn.killed.items;
  room : vec_len l.killed + vec_len l.back ≤ vec_capacity l.killed;
  room_back : vec_len l.killed + vec_len l.back ≤ vec_capacity l.back;
}

abbrev pub decreases-loop-ended : goal.decreases-loop-ended
decreases-loop-ended l = vec_len l.killed
