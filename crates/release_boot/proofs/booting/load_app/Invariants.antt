-- What is left is loaded behind what is.
use Rattle.std.proofs.Common.{◌≡◌, drop}
use Rattle.release_boot.specs.Boot.{all_loaded}
use Rattle.release_boot.proofs.booting.load_app.Given as goal

abbrev pub invariant-loop-each : goal.invariant-loop-each
invariant-loop-each l = all_loaded (drop l.each-index l.code) l.modules ≡ all_loaded l.code l.fn.modules
