-- The calls that are left are told what all of them are told, and there are reasons and room for them.
use Rattle.std.proofs.Common.{◌≡◌, ◌≤◌, ◌+◌, ◌++◌, All, length, map, vec_capacity, vec_len}
use Rattle.erl_term.specs.declared.term.Term.{Term}
use Rattle.process_effects.specs.Told.{down}
use Rattle.process_effects.proofs.exiting.tell_downs.Given as goal

abbrev pub invariant-loop-call : goal.invariant-loop-call
invariant-loop-call l = record {
  same : (reason : Term) → All (λ r. r ≡ reason) l.fn.reasons.items → All (λ r. r ≡ reason) l.reasons.items;
  told : (reason : Term) → All (λ r. r ≡ reason) l.fn.reasons.items → l.replies.items ++ map (down reason) l.call-iterator ≡ l.fn.replies.items ++ map (down reason) l.calls;
  enough : length l.call-iterator ≤ vec_len l.reasons;
  room : vec_len l.replies + length l.call-iterator ≡ vec_len l.fn.replies + length l.calls;
  capacity : vec_capacity l.replies ≡ vec_capacity l.fn.replies;
}
