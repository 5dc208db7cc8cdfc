-- An escape's offset is told as it was found.
use Rattle.erl_scan.proofs.Reading.{escape_told}
use Rattle.erl_scan.proofs.scanner.Scanner.between.Goals as goal

pub returns-in-Err-BadEscape-clause-between : goal.returns-in-Err-BadEscape-clause-between
returns-in-Err-BadEscape-clause-between c =
    escape_told _ _ _ _ _ _ c.advance.ensures.left c.advance.ensures.total (rw c.in-Err-BadEscape.field-0-is at c.in-Err-BadEscape.ensures.read)
