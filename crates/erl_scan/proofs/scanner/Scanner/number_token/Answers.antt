-- An integer, or a base that is none.
use Rattle.erl_scan.specs.Answers.{faulty}
use Rattle.erl_scan.proofs.Digits.{integer_next, no_base_next}
use Rattle.erl_scan.proofs.scanner.Scanner.number_token.Goals as goal

pub returns-in-Integer-clause-answers : goal.returns-in-Integer-clause-answers
returns-in-Integer-clause-answers c = integer_next c.in-Integer.value _ _ _ c.in-Integer.ensures.number

pub returns-in-NoBase-clause-answers : goal.returns-in-NoBase-clause-answers
returns-in-NoBase-clause-answers c = faulty _ (no_base_next _ _ c.in-NoBase.ensures.number) c.offset-at.ensures
