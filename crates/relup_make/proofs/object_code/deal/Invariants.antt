-- The pairs so far are dealt.
use Rattle.std.proofs.Common.{take, length}
use Rattle.relup_make.specs.Dealt.{IsDealt}
use Rattle.relup_make.proofs.object_code.deal.Given as goal

abbrev pub invariant-loop-pair : goal.invariant-loop-pair
invariant-loop-pair l = IsDealt l.names (take l.pair-index l.loaded) (length l.loaded) l.piles.items
