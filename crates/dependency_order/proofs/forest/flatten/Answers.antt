use Rattle.std.proofs.Common.{◌<◌, length, arith}
use Rattle.dependency_order.proofs.Forests.{flat_more, still_flatter}
use Rattle.dependency_order.proofs.forest.flatten.Goals as goal

pub loop-vertex-preserved : goal.loop-vertex-preserved
loop-vertex-preserved c =
    let here : c.loop-vertex.vertex < length c.loop-vertex.parents = omega arith in
    let flatter = c.loop-vertex.invariant.flatter in record {
      flatter = still_flatter c.args.parents.now c.loop-vertex.parents 0 c.loop-vertex.vertex here flatter;
      flat = flat_more c.loop-vertex.parents c.loop-vertex.vertex here flatter.forest c.loop-vertex.invariant.flat;
    }
