-- The lines that are left are those of the entries that are left where all are those of all.
use Rattle.std.proofs.Common.{◌≡◌, ◌↔◌, length}
use Rattle.entry_lists.specs.Entries.{written_out}
use Rattle.node_history.specs.Lists.{lines_of}
use Rattle.node_lock.proofs.closing.is_list_of.Given as goal

abbrev pub invariant-loop-entry : goal.invariant-loop-entry
invariant-loop-entry l = (l.left ≡ lines_of l.number l.entries) ↔ (written_out l.lines ≡ lines_of l.number (written_out l.history))

abbrev pub decreases-loop-entry : goal.decreases-loop-entry
decreases-loop-entry l = length l.entries
