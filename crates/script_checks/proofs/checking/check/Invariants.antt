-- The point of no return stands among those so far, or doesn't, and none of them is faulty.
use Rattle.std.proofs.Common.{◌≡◌, ◌-◌, length, take}
use Rattle.std.specs.List.{find, range_with_len}
use Rattle.script_checks.specs.Checks.{has_point, is_faulty_at}
use Rattle.script_checks.proofs.checking.check.Given as goal

abbrev pub invariant-loop-index : goal.invariant-loop-index
invariant-loop-index l = record {
  point : l.has_point ≡ has_point (take l.index l.script);
  least : find (is_faulty_at l.script) (range_with_len 0 (length l.script)) ≡ find (is_faulty_at l.script) (range_with_len l.index (length l.script - l.index));
}
