-- Those so far can be counted on.
use Rattle.std.proofs.Common.{All, take}
use Rattle.process_store.specs.Table.{living}
use Rattle.upgrade_calls.specs.Evaluated.{CanCount}
use Rattle.upgrade_calls.proofs.evaluating.can_count_all.Given as goal

abbrev pub invariant-loop-change : goal.invariant-loop-change
invariant-loop-change l = All (λ c. CanCount c.turns (living c.pid l.processes)) (take l.change-index l.changes)
