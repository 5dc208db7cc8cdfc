-- So many are empty.
use Rattle.std.proofs.Common.{[]}
use Rattle.relup_make.specs.Dealt.{IsDealt}
use Rattle.relup_make.proofs.object_code.empty.Given as goal

abbrev pub invariant-loop-i : goal.invariant-loop-i
invariant-loop-i l = IsDealt [] [] l.i l.piles.items
