-- The groups have each vertex once.
use Rattle.dependency_order.proofs.EachOnce.{each-once}
use Rattle.dependency_order.proofs.laws.each_vertex_stands_once.Goals as goal

pub returns : goal.returns
returns c = each-once
