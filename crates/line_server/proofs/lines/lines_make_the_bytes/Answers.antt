-- By induction over the bytes.
use Rattle.line_server.proofs.Cuts.{closed-whole_lines, whole_lines-clean, rest_of-clean}
use Rattle.line_server.proofs.lines.lines_make_the_bytes.Goals as goal

pub returns-clause-made : goal.returns-clause-made
returns-clause-made c = closed-whole_lines c.args.bytes.now

pub returns-clause-lines : goal.returns-clause-lines
returns-clause-lines c = whole_lines-clean c.args.bytes.now

pub returns-clause-rest : goal.returns-clause-rest
returns-clause-rest c = rest_of-clean c.args.bytes.now
