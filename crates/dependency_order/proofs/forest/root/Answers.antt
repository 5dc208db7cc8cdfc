use Rattle.std.proofs.Common.{◌<◌, length, refl, arith, length-set}
use Rattle.dependency_order.specs.Groups.{IsJoined}
use Rattle.dependency_order.specs.Forests.{parent}
use Rattle.dependency_order.proofs.Forests.{flatter_itself, still_flatter, still_joined, still_one}
use Rattle.dependency_order.proofs.forest.root.Goals as goal

pub loop-parents-init : goal.loop-parents-init
loop-parents-init c = record {
  flatter = flatter_itself c.args.parents.now c.requires.forest;
  before = omega arith;
  known = c.requires.known;
  joined = λ names sound. IsJoined.itself;
  one = λ label respects. refl;
}

pub loop-parents-preserved : goal.loop-parents-preserved
loop-parents-preserved c =
    let old = c.args.parents.now in
    let ps = c.loop-parents.parents in
    let at' = c.loop-parents.at in
    let is = c.loop-parents.invariant in
    let first = is.flatter.forest at' is.known in
    let up : parent ps at' < length ps = let k = is.known in omega (arith, first, k) in
    let second = is.flatter.forest (parent ps at') up in
    let long = length-set ps at' (parent ps (parent ps at')) in
    let b = is.before in
    record {
      flatter = still_flatter old ps c.args.vertex at' is.known is.flatter;
      before = omega (arith, first, second, b);
      known = omega (arith, first, second, long, up);
      joined = still_joined old ps c.args.vertex at' is.known is.flatter is.joined;
      one = still_one old ps c.args.vertex at' is.known is.flatter is.one;
    }
