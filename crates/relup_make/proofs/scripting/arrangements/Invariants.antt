-- The jobs so far.
use Rattle.std.proofs.Common.{take}
use Rattle.relup_make.specs.Arranging.{AreArrangements}
use Rattle.relup_make.proofs.scripting.arrangements.Given as goal

abbrev pub invariant-loop-job : goal.invariant-loop-job
invariant-loop-job l = AreArrangements (take l.job-index l.jobs) l.arrangements.items
