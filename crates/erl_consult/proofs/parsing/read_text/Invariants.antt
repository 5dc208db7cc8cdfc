-- The tokens so far were scanned and taken; each makes what is left shorter.
use Rattle.std.proofs.Common.{length}
use Rattle.erl_scan.specs.Scanner.{left, total}
use Rattle.erl_consult.specs.Parser.{seen}
use Rattle.erl_consult.proofs.Joining.{Joined}
use Rattle.erl_consult.proofs.parsing.read_text.Given as goal

abbrev pub invariant-loop-parser : goal.invariant-loop-parser
invariant-loop-parser l = Joined l.text (left l.scanner) (total l.scanner) (seen l.parser)

abbrev pub decreases-loop-parser : goal.decreases-loop-parser
decreases-loop-parser l = length (left l.scanner)
