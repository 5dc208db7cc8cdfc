-- A base is judged by its whole value.
use Rattle.std.proofs.Common.{◌∙◌}
use Rattle.erl_scan.specs.Numbers.{value_in, after_digits}
use Rattle.erl_scan.specs.Scanner.{left}
use Rattle.erl_scan.proofs.Digits.{number_by-saturated}
use Rattle.erl_scan.proofs.scanner.Scanner.number.Goals as goal

pub returns-in-Some-eq35-clause-number : goal.returns-in-Some-eq35-clause-number
returns-in-Some-eq35-clause-number c =
    (rw (c.digits-value.ensures.value, c.digits-value.ensures.left) at c.based.ensures.number) ∙ number_by-saturated (value_in 10 (left c.args.self.now)) (after_digits 10 (left c.args.self.now))
