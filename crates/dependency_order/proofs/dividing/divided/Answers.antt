use Rattle.std.proofs.Common.{◌∙◌}
use Rattle.dependency_order.proofs.Dealing.{parts-same}
use Rattle.dependency_order.proofs.dividing.divided.Goals as goal

pub returns : goal.returns
returns c =
    c.in_ok-together.ensures ∙
    parts-same c.args.firsts.now c.args.dependencies_first.now c.args.dependants_first.now c.in_ok-dependencies_first.dependencies_first c.in_ok-dependants_first.dependants_first
    c.in_ok-dependencies_first.ensures c.in_ok-dependants_first.ensures
