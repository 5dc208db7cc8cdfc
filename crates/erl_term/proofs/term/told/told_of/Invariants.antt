-- What is told of the terms so far.
use Rattle.std.proofs.Common.{take}
use Rattle.erl_term.specs.Parts.{HasExtent}
use Rattle.erl_term.proofs.term.told.told_of.Given as goal

abbrev pub invariant-loop-i : goal.invariant-loop-i
invariant-loop-i l = HasExtent (take l.i l.items) l.told.depth l.told.last l.told.size
