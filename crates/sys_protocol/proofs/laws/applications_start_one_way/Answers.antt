-- `init` gives one outcome, and so do the start functions of the children.
use Rattle.sys_protocol.proofs.ApplicationsOneWay.{applications_start_one_way}
use Rattle.sys_protocol.proofs.laws.applications_start_one_way.Goals as goal

pub returns : goal.returns
returns c = applications_start_one_way
