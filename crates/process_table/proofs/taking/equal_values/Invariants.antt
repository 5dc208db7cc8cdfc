-- So many copies so far.
use Rattle.std.proofs.Common.{◌≡◌, replicate}
use Rattle.process_table.proofs.taking.equal_values.Given as goal

abbrev pub invariant-loop-i : goal.invariant-loop-i
invariant-loop-i g l = l.values.items ≡ replicate l._i l.item
