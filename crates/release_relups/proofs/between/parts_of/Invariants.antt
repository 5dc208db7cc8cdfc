-- Those that are there, and those that are left.
use Rattle.std.proofs.Common.{◌≡◌, ◌++◌, map}
use Rattle.std.specs.Vec.Iter.{into_iter_items}
use Rattle.release_relups.proofs.between.parts_of.Given as goal

abbrev pub invariant-loop-app : goal.invariant-loop-app
invariant-loop-app l = record {
  specs : l.specs.items ++ map (λ app. app.spec) (into_iter_items l.app-iterator) ≡ map (λ app. app.spec) l.fn.release.apps;
  appups : l.appups.items ++ map (λ app. app.appup) (into_iter_items l.app-iterator) ≡ map (λ app. app.appup) l.fn.release.apps;
}
