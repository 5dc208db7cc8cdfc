-- The digits that are left give the number, behind the number so far.
use Rattle.std.proofs.Common.{◌≡◌, ◌<◌, length}
use Rattle.erl_chars.specs.Chars.{is_digit, front, after_front}
use Rattle.erl_chars.specs.Cursor.{left, total}
use Rattle.erl_chars.specs.Digits.{saturated}
use Rattle.erl_chars.proofs.cursor.Cursor.number.Given as goal

abbrev pub invariant-loop-digit : goal.invariant-loop-digit
invariant-loop-digit l = record {
  number : saturated l.number (front (is_digit 16) (left l.self)) ≡ saturated l.fn.first (front (is_digit 16) (left l.fn.self));
  behind : after_front (is_digit 16) (left l.self) ≡ after_front (is_digit 16) (left l.fn.self);
  small : l.number < 4294967296;
  whole : total l.self ≡ total l.fn.self;
}

abbrev pub decreases-loop-digit : goal.decreases-loop-digit
decreases-loop-digit l = length (left l.self)
