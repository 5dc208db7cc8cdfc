-- The mark that the first three characters tell, or none.
use Rattle.erl_scan.specs.Answers.{faulty}
use Rattle.erl_scan.proofs.Reading.{mark_some, mark_none}
use Rattle.erl_scan.proofs.scanner.Scanner.longest_mark_token.Goals as goal

pub returns-in-Some-clause-answers : goal.returns-in-Some-clause-answers
returns-in-Some-clause-answers c =
    mark_some c.in-Some.mark _ _ c.args.first c.second.result c.third.result c.requires.first c.second.ensures c.third.ensures c.in-Some.ensures (rw c.width.ensures at c.skip.ensures.left)

pub returns-in-None-clause-answers : goal.returns-in-None-clause-answers
returns-in-None-clause-answers c =
    faulty _ (mark_none _ c.args.first c.second.result c.third.result c.requires.first c.second.ensures c.third.ensures c.in-None.ensures) c.offset.ensures
