-- Each start function gives one outcome, in the processes that the ones before have left.
use Rattle.sys_protocol.proofs.ChildrenOneWay.{children_start_one_way}
use Rattle.sys_protocol.proofs.laws.children_start_one_way.Goals as goal

pub returns : goal.returns
returns c = children_start_one_way
