-- The names so far, each once, and of those that are left what is not among them.
use Rattle.std.proofs.Common.{◌≡◌, ◌++◌}
use Rattle.relup_make.specs.Scripts.{each_once}
use Rattle.relup_make.proofs.Indices.{left}
use Rattle.relup_make.proofs.names.each_once.Given as goal

abbrev pub invariant-loop-i : goal.invariant-loop-i
invariant-loop-i l = each_once l.items ≡ l.firsts.items ++ left l.i l.items
