-- Those of the modules that had their turn, and those of the others.
use Rattle.std.proofs.Common.{◌≡◌, ◌++◌, drop}
use Rattle.code_loading.proofs.ModuleByModule.{left_lingering}
use Rattle.code_loading.specs.Several.{without_all_users}
use Rattle.code_loading.proofs.purging.all_lingering.Given as goal

abbrev pub invariant-loop-name : goal.invariant-loop-name
invariant-loop-name l =
    l.pids.items ++ left_lingering (drop l.name-index l.names) l.modules (without_all_users l.serials.items l.processes) ≡ left_lingering l.names l.modules l.processes
