-- An arrival is what the node makes of it.
use Rattle.std.proofs.Common.{sym, subst}
use Rattle.script_events.specs.Changes.{IsStep, state_of}
use Rattle.node_types.specs.declared.event.Event.{Event}
use Rattle.node_core.proofs.stepping.step_of.Goals as goal

pub returns-in-Arrive : goal.returns-in-Arrive
returns-in-Arrive c =
    subst (λ (e : Event). IsStep e c.args.n (state_of c.args.parts.now) (state_of c.arrive.new.parts) c.arrive.result) (sym c.in-Arrive.is) c.arrive.ensures
