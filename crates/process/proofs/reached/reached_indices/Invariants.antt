use Rattle.std.proofs.Common.{◌+◌, ◌-◌, length}
use Rattle.process.proofs.Finding.{Explored}
use Rattle.process.proofs.reached.reached_indices.Given as goal

abbrev pub invariant-loop-index : goal.invariant-loop-index
invariant-loop-index l = Explored l.modules l.from l.found

-- the indices that were not found yet, and those that wait
abbrev pub decreases-loop-index : goal.decreases-loop-index
decreases-loop-index l = (length l.modules.entries - length l.found.indices.keys) + length l.found.waiting.items
