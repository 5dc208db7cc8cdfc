-- One reason for each call so far, and one more is to come for each that is left.
use Rattle.std.proofs.Common.{◌≡◌, ◌+◌, All, length, vec_len}
use Rattle.process_effects.proofs.exiting.copies_for.Given as goal

abbrev pub invariant-loop : goal.invariant-loop
invariant-loop l = record {
  same : All (λ r. r ≡ l.reason) l.reasons.items;
  as_many : vec_len l.reasons + length l.iterator' ≡ length l.calls;
}
