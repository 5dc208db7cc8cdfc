-- The modules so far.
use Rattle.std.proofs.Common.{◌≡◌, ◌++◌, map, take}
use Rattle.relup_make.proofs.loading.append_all.Given as goal

abbrev pub invariant-loop-module : goal.invariant-loop-module
invariant-loop-module l = l.loaded.items ≡ l.fn.loaded.items ++ map (λ m. (l.app, m)) (take l.module-index l.modules)
