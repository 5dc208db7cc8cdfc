use Rattle.erl_scan.proofs.Longest.{longest}
use Rattle.erl_scan.proofs.laws.marks_are_longest.Goals as goal

pub returns : goal.returns
returns c = longest
