-- The tokens so far come first in the text; each makes what is left shorter.
use Rattle.std.proofs.Common.{length}
use Rattle.erl_scan.specs.Scanner.{left, total}
use Rattle.erl_scan.proofs.WholeTexts.{SoFar}
use Rattle.erl_scan.proofs.whole.scan.Given as goal

abbrev pub invariant-loop-spot : goal.invariant-loop-spot
invariant-loop-spot l = SoFar l.text (left l.scanner) (total l.scanner) l.tokens.items

abbrev pub decreases-loop-spot : goal.decreases-loop-spot
decreases-loop-spot l = length (left l.scanner)
