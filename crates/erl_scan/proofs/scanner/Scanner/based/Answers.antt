-- No digit of the base follows.
use Rattle.std.proofs.Common.{arith, rules}
use Rattle.erl_scan.proofs.Digits.{based_alone}
use Rattle.erl_scan.proofs.scanner.Scanner.based.Goals as goal

pub returns-then-not-begins_with_digit-clause-number : goal.returns-then-not-begins_with_digit-clause-number
returns-then-not-begins_with_digit-clause-number c =
    based_alone c.args.base _ c.requires.hash (omega arith) (omega arith) (search rules)
