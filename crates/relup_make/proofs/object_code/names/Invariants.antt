-- The names so far.
use Rattle.std.proofs.Common.{◌≡◌, take}
use Rattle.relup_make.specs.Dealt.{names_of_pairs}
use Rattle.relup_make.proofs.object_code.names.Given as goal

abbrev pub invariant-loop-pair : goal.invariant-loop-pair
invariant-loop-pair l = l.names.items ≡ names_of_pairs (take l.pair-index l.loaded)
