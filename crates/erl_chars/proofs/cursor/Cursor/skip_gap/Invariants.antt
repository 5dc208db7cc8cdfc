-- What is left ends the gap in the same offset.
use Rattle.std.proofs.Common.{◌≡◌, length}
use Rattle.erl_chars.specs.Cursor.{left, total}
use Rattle.erl_chars.specs.Gaps.{past_gap, after_gap}
use Rattle.erl_chars.proofs.cursor.Cursor.skip_gap.Given as goal

abbrev pub invariant-loop-c : goal.invariant-loop-c
invariant-loop-c l = record {
  gap : past_gap l.is_comment (left l.self) ≡ after_gap (left l.fn.self);
  whole : total l.self ≡ total l.fn.self;
  same : left l.ahead ≡ left l.self;
  ahead : total l.ahead ≡ total l.self;
}

abbrev pub decreases-loop-c : goal.decreases-loop-c
decreases-loop-c l = length (left l.ahead)
