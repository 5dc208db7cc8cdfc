-- So many seats have a part each.
use Rattle.std.proofs.Common.{◌≡◌, ◌+◌}
use Rattle.node_lock.specs.Opening.{AreFresh}
use Rattle.node_lock.proofs.opening.hand_out.Given as goal

abbrev pub invariant-loop-i : goal.invariant-loop-i
invariant-loop-i g l = AreFresh l.i l.seats.items × (l.rest.parts + l.i ≡ l.initial.rest.parts) × (l.rest.amount ≡ 0)
