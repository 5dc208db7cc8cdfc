-- A digit more in each turn, and none at the end.
use Rattle.std.proofs.Common.{◌≡◌, ◌∙◌, ◌+◌, ◌*◌, min, rules, arith}
use Rattle.erl_chars.specs.Cursor.{left}
use Rattle.erl_chars.proofs.Numbers.{saturated-more, saturated-end, behind-more, behind-end}
use Rattle.erl_chars.proofs.cursor.Cursor.number.Goals as goal

pub loop-digit-preserved : goal.loop-digit-preserved
loop-digit-preserved c =
    let n = c.loop-digit.number in
    let before = left c.loop-digit.self in
    let after = left c.take_digit.new.self in
    let more = c.saturating_add-number.result in
    let sum : more ≡ min 4294967295 (min 4294967295 (n * 16) + c.in-Some.digit) = omega arith in
    record {
      number = saturated-more n c.in-Some.digit more before after c.in-Some.ensures.digit sum ∙ c.loop-digit.invariant.number;
      behind = behind-more c.in-Some.digit before after c.in-Some.ensures.digit ∙ c.loop-digit.invariant.behind;
      small = omega arith;
      whole = search rules;
    }

pub returns-clause-number : goal.returns-clause-number
returns-clause-number c =
    saturated-end c.loop-digit.number (left c.loop-digit.self) (left c.take_digit.new.self) c.loop-digit.invariant.small c.in_default.ensures.digit ∙ c.loop-digit.invariant.number

pub returns-clause-left : goal.returns-clause-left
returns-clause-left c =
    behind-end (left c.loop-digit.self) (left c.take_digit.new.self) c.in_default.ensures.digit ∙ c.loop-digit.invariant.behind
