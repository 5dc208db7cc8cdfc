-- Each seat that was looked at has the list that the history says.
use Rattle.std.proofs.Common.{ℕ, ◌<◌, slice_index_or}
use Rattle.entry_lists.specs.Entries.{written_out}
use Rattle.node_lock.specs.Closing.{IsListOf}
use Rattle.node_lock.specs.Core.{SeatState}
use Rattle.node_lock.proofs.closing.has_foreign.Given as goal

abbrev pub invariant-loop-i : goal.invariant-loop-i
invariant-loop-i g l = (k : ℕ) (d : SeatState) → k < l.i → IsListOf (written_out l.history) (slice_index_or l.seats k d)
