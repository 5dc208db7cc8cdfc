-- A mark of one character.
use Rattle.erl_scan.proofs.Reading.{mark_alone}
use Rattle.erl_scan.proofs.scanner.Scanner.mark_token.Goals as goal

pub returns-in-Some-clause-answers : goal.returns-in-Some-clause-answers
returns-in-Some-clause-answers c =
    mark_alone c.in-Some.mark _ _ c.args.first c.requires.first c.in-Some.ensures c.advance.ensures.left
