-- The loads so far.
use Rattle.std.proofs.Common.{◌≡◌, ◌++◌, take}
use Rattle.relup_make.specs.Parts.{loads}
use Rattle.relup_make.proofs.working.append_loads.Given as goal

abbrev pub invariant-loop-module : goal.invariant-loop-module
invariant-loop-module l = l.parts.items ≡ l.fn.parts.items ++ loads (take l.module-index l.modules)
