-- The names from here on are found.
use Rattle.std.proofs.Common.{drop}
use Rattle.relup_make.specs.Indexes.{FindsFrom}
use Rattle.relup_make.proofs.names.index.Given as goal

abbrev pub invariant-loop-index : goal.invariant-loop-index
invariant-loop-index l = FindsFrom l.index l.indices (drop l.index l.items)
