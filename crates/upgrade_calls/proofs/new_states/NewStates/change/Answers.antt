-- What the map gives for a pid is the change of the process of that pid.
use Rattle.std.proofs.Common.{◌∙◌, ap}
use Rattle.upgrade_calls.proofs.NewStates.{found}
use Rattle.upgrade_calls.specs.NewStates.{change_of}
use Rattle.upgrade_calls.proofs.new_states.NewStates.change.Goals as goal

pub returns : goal.returns
returns c =
    c.get.ensures.value ∙ found c.args.pid c.self.inside.by_pid.entries c.self.invariant.0 ∙ ap (change_of c.args.pid) c.self.view_is
