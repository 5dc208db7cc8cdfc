-- The calls so far are told, and there are reasons and room for those that are left.
use Rattle.std.proofs.Common.{◌≡◌, ◌≤◌, ◌+◌, ◌++◌, All, length, take, vec_capacity, vec_len}
use Rattle.erl_term.specs.declared.term.Term.{Term}
use Rattle.process_effects.proofs.telling.tell_downs.Given as goal

abbrev pub invariant-loop-down : goal.invariant-loop-down
invariant-loop-down l = record {
  same : (reason : Term) → All (λ r. r ≡ reason) l.fn.reasons.items → All (λ r. r ≡ reason) l.reasons.items;
  told : l.replies.items ≡ l.fn.replies.items ++ take l.down-index l.downs;
  enough : length l.downs ≤ vec_len l.reasons + l.down-index;
  room : vec_len l.replies ≡ vec_len l.fn.replies + l.down-index;
  capacity : vec_capacity l.replies ≡ vec_capacity l.fn.replies;
}
