-- The specifications so far, and those that are left.
use Rattle.std.proofs.Common.{◌≡◌, ◌++◌, drop}
use Rattle.sys_protocol.specs.Stopping.{specs_at}
use Rattle.sys_protocol.proofs.starting_again.specs_at.Given as goal

abbrev pub invariant-loop-spot : goal.invariant-loop-spot
invariant-loop-spot l = l.specs.items ++ specs_at (drop l.spot-index l.spots) l.apps ≡ specs_at l.spots l.apps
