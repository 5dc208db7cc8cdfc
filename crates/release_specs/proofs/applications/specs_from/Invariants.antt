-- What is there, and what is left.
use Rattle.std.proofs.Common.{◌≡◌, ◌++◌, drop, map}
use Rattle.release_specs.specs.Specs.{spec_of}
use Rattle.release_specs.proofs.applications.specs_from.Given as goal

abbrev pub invariant-loop-app : goal.invariant-loop-app
invariant-loop-app l = l.specs.items ++ map (spec_of l.files) (drop l.app-index l.apps) ≡ map (spec_of l.files) l.apps
