-- The digits to come, behind the value so far, give the value.
use Rattle.std.proofs.Common.{◌≡◌, length}
use Rattle.std.specs.Str.Parse.{digits_value_after}
use Rattle.erl_scan.specs.Numbers.{digits_on, after_digits, value_in, saturated}
use Rattle.erl_scan.specs.Scanner.{left, total}
use Rattle.erl_scan.proofs.scanner.Scanner.digits.Given as goal

abbrev pub invariant-loop-digit : goal.invariant-loop-digit
invariant-loop-digit l = record {
  fits : saturated l.value ≡ l.value;
  value : saturated (digits_value_after l.base l.value (digits_on l.base (left l.self))) ≡ saturated (value_in l.base (left l.fn.self));
  behind : after_digits l.base (left l.self) ≡ after_digits l.base (left l.fn.self);
  whole : total l.self ≡ total l.fn.self;
}

abbrev pub decreases-loop-digit : goal.decreases-loop-digit
decreases-loop-digit l = length (digits_on l.base (left l.self))
