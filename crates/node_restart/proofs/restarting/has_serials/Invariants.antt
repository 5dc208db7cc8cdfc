-- The serials of those so far were given, and those of the rest are left.
use Rattle.std.proofs.Common.{◌≡◌, ◌+◌, ◌^◌, ◌<◌, drop, length}
use Rattle.release_boot.specs.Boot.{modules_of}
use Rattle.node_restart.proofs.restarting.has_serials.Given as goal

abbrev pub invariant-loop-app : goal.invariant-loop-app
invariant-loop-app l = record {
  sum : l.last + length (modules_of (drop l.app-index l.apps)) ≡ l.fn.last + length (modules_of l.fn.apps);
  fits : l.last < 2 ^ 64;
}
