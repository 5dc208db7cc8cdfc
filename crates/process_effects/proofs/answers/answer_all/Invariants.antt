-- What is left gives what all of it gives, and there is room for it.
use Rattle.std.proofs.Common.{◌≡◌, ◌≤◌, ◌+◌, ◌++◌, vec_capacity, vec_len}
use Rattle.std.specs.Vec.Iter.{into_iter_items, into_iter_len}
use Rattle.smallvec.specs.SmallVec.{small_vec_len}
use Rattle.process_effects.specs.Parted.{AllReopen, all_answered, all_reopened, answers_told}
use Rattle.process_effects.proofs.answers.answer_all.Given as goal

abbrev pub invariant-loop-each : goal.invariant-loop-each
invariant-loop-each l = record {
  answered : all_answered (into_iter_items l.each-iterator) l.store ≡ all_answered l.fn.answers.items l.fn.store;
  told : l.replies.items ++ answers_told (into_iter_items l.each-iterator) l.store ≡ l.fn.replies.items ++ answers_told l.fn.answers.items l.fn.store;
  fits : AllReopen l.closed.items l.store;
  back : all_reopened l.closed.items l.store ≡ l.fn.store;
  replies : vec_len l.replies + into_iter_len l.each-iterator ≤ vec_len l.fn.replies + vec_len l.fn.answers;
  replies_room : vec_capacity l.replies ≡ vec_capacity l.fn.replies;
  closed : small_vec_len l.closed + into_iter_len l.each-iterator ≤ small_vec_len l.fn.closed + vec_len l.fn.answers;
  closed_room : l.closed.capacity ≡ l.fn.closed.capacity;
}
