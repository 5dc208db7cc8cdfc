-- What is put together, and what the seats have that are left, is what all had.
use Rattle.std.proofs.Common.{◌≡◌, ◌+◌, length}
use Rattle.node_lock.specs.Closing.{lines_in}
use Rattle.node_lock.proofs.closing.gathered.Given as goal

abbrev pub invariant-loop-seat : goal.invariant-loop-seat
invariant-loop-seat g l = (l.rest.parts + length l.seats.items ≡ l.fn.rest.parts + length l.fn.seats.items)
    × (l.rest.amount + lines_in l.seats.items ≡ l.fn.rest.amount + lines_in l.fn.seats.items)

abbrev pub decreases-loop-seat : goal.decreases-loop-seat
decreases-loop-seat g l = length l.seats.items
