-- The names so far.
use Rattle.std.proofs.Common.{◌≡◌, take}
use Rattle.relup_make.specs.Work.{names_of}
use Rattle.relup_make.proofs.release.names_of.Given as goal

abbrev pub invariant-loop-app : goal.invariant-loop-app
invariant-loop-app l = l.names.items ≡ names_of (take l.app-index l.apps)
