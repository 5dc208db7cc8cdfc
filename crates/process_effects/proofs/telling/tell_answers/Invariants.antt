-- What was told is what is told so far, and what the answers that are left tell, and there is room for it.
use Rattle.std.proofs.Common.{◌≡◌, ◌≤◌, ◌+◌, ◌++◌, List, map, vec_capacity, vec_len}
use Rattle.std.specs.Vec.Iter.{into_iter_items, into_iter_len}
use Rattle.erl_term.specs.declared.term.Term.{Term}
use Rattle.process_effects.specs.Parted.{answers_told}
use Rattle.process_effects.specs.Told.{down}
use Rattle.process_index.specs.declared.calls.Call.{Call}
use Rattle.process_store.specs.Table.{Table}
use Rattle.process_effects.proofs.telling.tell_answers.Given as goal

abbrev pub invariant-loop-answer : goal.invariant-loop-answer
invariant-loop-answer l = record {
  told : (table : Table) (calls : List Call) (reason : Term) → l.told ≡ answers_told l.fn.answers.items table ++ map (down reason) calls → (after : Table) × (l.told ≡ l.replies.items ++ (answers_told (into_iter_items l.answer-iterator) after ++ map (down reason) calls));
  len : vec_len l.replies + into_iter_len l.answer-iterator ≤ vec_len l.fn.replies + vec_len l.fn.answers;
  room : vec_capacity l.replies ≡ vec_capacity l.fn.replies;
}
