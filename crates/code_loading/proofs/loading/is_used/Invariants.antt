-- One of those that are left uses it, if one of all does.
use Rattle.std.proofs.Common.{◌≡◌}
use Rattle.process_effects.specs.Uses.{users, uses}
use Rattle.process_effects.proofs.Alive.{passing}
use Rattle.code_loading.specs.Loading.{is_any}
use Rattle.code_loading.proofs.loading.is_used.Given as goal

abbrev pub invariant-loop-living : goal.invariant-loop-living
invariant-loop-living l = is_any (passing (uses l.serial) l.living-iterator) ≡ is_any (users l.serial l.processes)
