-- What is left is loaded behind what is.
use Rattle.std.proofs.Common.{◌≡◌, drop}
use Rattle.release_boot.specs.Boot.{all_loaded, modules_of}
use Rattle.release_boot.proofs.booting.load_all.Given as goal

abbrev pub invariant-loop-app : goal.invariant-loop-app
invariant-loop-app l = all_loaded (modules_of (drop l.app-index l.apps)) l.modules ≡ all_loaded (modules_of l.apps) l.fn.modules
