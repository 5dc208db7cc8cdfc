-- What the start gives in the call that it went back to.
use Rattle.std.proofs.Common.{◌≡◌, ◌∙◌, map}
use Rattle.erl_term.specs.Term.{tree}
use Rattle.erl_semantics.specs.State as state
use Rattle.erl_steps.specs.Machine as machine
use Rattle.erl_steps.specs.Machine.{settled_by}
use Rattle.erl_steps.specs.Views.{activation_of, control_of, machine_of, starter_of, world_of}
use Rattle.erl_steps.proofs.Results.{if_ok}
use Rattle.erl_steps.proofs.Leads.{settled_again}
use Rattle.erl_steps.proofs.machine.Machine.return_with.Goals as goal

pub returns : goal.returns
returns c = if_ok
    (λ it. let next : machine.Next = (control_of it, machine_of c.end_start.new.self) in next ≡
    settled_by (world_of c.args.world.now) (starter_of c.args.starter) (machine_of c.return_to.new.self).state.bindings
    (machine_of c.return_to.new.self).activation c.args.module_name (state.value (tree c.args.value)) (machine_of c.return_to.new.self))
    (λ it. let next : machine.Next = (control_of it, machine_of c.end_start.new.self) in next ≡
    settled_by (world_of c.args.world.now) (starter_of c.args.starter) (map tree c.args.bindings.items)
    (activation_of c.args.activation) c.args.module_name (state.value (tree c.args.value)) (machine_of c.args.self.now))
    c.end_start.result
    (λ it is. is ∙ settled_again (world_of c.args.world.now) (starter_of c.args.starter) (map tree c.args.bindings.items)
    (activation_of c.args.activation) c.args.module_name (state.value (tree c.args.value)) (machine_of c.args.self.now)
    (machine_of c.return_to.new.self) c.return_to.ensures)
    c.end_start.ensures
