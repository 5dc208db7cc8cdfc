-- The removals so far.
use Rattle.std.proofs.Common.{◌≡◌, ◌++◌, map, take}
use Rattle.low_instructions.specs.declared.low.Low.TheVariants.{Remove}
use Rattle.release_words.specs.declared.purge.Purge.TheVariants.{Brutal}
use Rattle.relup_make.proofs.working.append_removals.Given as goal

abbrev pub invariant-loop-module : goal.invariant-loop-module
invariant-loop-module l = l.parts.items ≡ l.fn.parts.items ++ map (λ m. Remove m Brutal Brutal) (take l.module-index l.modules)
