-- A fault is told of what is behind the gap.
use Rattle.erl_scan.proofs.scanner.Scanner.next_token.Goals as goal

pub returns-in-Err-clause-scans : goal.returns-in-Err-clause-scans
returns-in-Err-clause-scans c =
    rw (c.skip_gap.ensures.left, c.skip_gap.ensures.total) at c.in-Err.ensures.takes
