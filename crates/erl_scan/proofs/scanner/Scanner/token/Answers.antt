-- A token that begins with no quote.
use Rattle.erl_scan.proofs.Reading.{plain_takes}
use Rattle.erl_scan.proofs.scanner.Scanner.token.Goals as goal

pub returns-else-first-eq34-clause-takes : goal.returns-else-first-eq34-clause-takes
returns-else-first-eq34-clause-takes c =
    plain_takes _ c.args.first _ _ _ c.requires.first c.if-first-eq39.false c.if-first-eq34.false c.plain_token.ensures.answers
