-- One digit more, or none.
use Rattle.std.proofs.Common.{◌∙◌, refl, sym, ap}
use Rattle.std.specs.Str.Parse.{digits_value_after}
use Rattle.erl_scan.specs.Numbers.{saturated}
use Rattle.erl_scan.proofs.Digits.{digits_step, saturated-zero, saturated-saturated}
use Rattle.erl_scan.proofs.scanner.Scanner.digits.Goals as goal

pub loop-digit-init : goal.loop-digit-init
loop-digit-init c = record { fits = saturated-zero; value = refl; behind = refl; whole = refl }

pub loop-digit-preserved : goal.loop-digit-preserved
loop-digit-preserved c =
    let goes_on = c.in-Some.ensures.digit in
    record {
      fits = rw c.with_digit-value.ensures (saturated-saturated _);
      value = digits_step c.args.base c.loop-digit.value c.in-Some.digit goes_on.0 c.with_digit-value.result _ _ c.requires.least goes_on.1 goes_on.2 c.with_digit-value.ensures ∙ c.loop-digit.invariant.value;
      behind = sym goes_on.3 ∙ c.loop-digit.invariant.behind;
      whole = c.in-Some.ensures.total ∙ c.loop-digit.invariant.whole;
    }

pub returns-clause-value : goal.returns-clause-value
returns-clause-value c =
    let ended = c.in_default.ensures.digit in
    let last = ap (λ ds. saturated (digits_value_after c.args.base c.loop-digit.value ds)) ended.0 in
    sym c.loop-digit.invariant.fits ∙ sym last ∙ c.loop-digit.invariant.value
