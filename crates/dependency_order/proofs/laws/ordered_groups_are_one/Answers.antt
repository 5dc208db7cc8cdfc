-- Groups and their orders are the only ones.
use Rattle.dependency_order.proofs.OneDivision.{division_one}
use Rattle.dependency_order.proofs.laws.ordered_groups_are_one.Goals as goal

pub returns : goal.returns
returns c = division_one
