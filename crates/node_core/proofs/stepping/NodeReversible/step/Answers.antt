-- The parts make the step.
use Rattle.node_core.proofs.Stepped.{accepted_by, kept_after, refused_by, reversible_by, stays_by, told_refusal}
use Rattle.script_events.specs.Changes.{state_of}
use Rattle.node_core.proofs.stepping.NodeReversible.step.Goals as goal

pub refusal_of-requires : goal.refusal_of-requires
refusal_of-requires c = c.self.invariant.script

pub returns-in-Some-clause-refused : goal.returns-in-Some-clause-refused
returns-in-Some-clause-refused c = told_refusal c.args.event.now (state_of c.self.inside.parts) c.args.self.now c.refusal_of.result c.in-Some.refusal c.in-Some.is c.self.view_is c.refusal_of.ensures

pub step_of-requires-clause-wants : goal.step_of-requires-clause-wants
step_of-requires-clause-wants c = c.in_default.ensures

pub step_of-requires-clause-kept : goal.step_of-requires-clause-kept
step_of-requires-clause-kept c = c.self.invariant.script

pub invariant_of-self : goal.invariant_of-self
invariant_of-self c = kept_after c.args.event.now c.args.n (state_of c.self.inside.parts) (state_of c.step_of.new.parts) c.step_of.result c.step_of.ensures c.self.invariant

pub returns-clause-accepted : goal.returns-clause-accepted
returns-clause-accepted c = accepted_by c.args.event.now c.args.n (state_of c.self.inside.parts) c.args.self.now (state_of c.step_of.new.parts) c.step_of.result c.self.view_is c.step_of.ensures

pub returns-clause-reversible : goal.returns-clause-reversible
returns-clause-reversible c = reversible_by c.args.event.now c.args.n (state_of c.self.inside.parts) c.args.self.now (state_of c.step_of.new.parts) c.step_of.result c.self.view_is c.self.invariant c.step_of.ensures

pub returns-clause-refused : goal.returns-clause-refused
returns-clause-refused c = refused_by c.args.event.now c.args.n (state_of c.self.inside.parts) c.args.self.now (state_of c.step_of.new.parts) c.step_of.result c.self.view_is c.step_of.ensures

pub returns-clause-err : goal.returns-clause-err
returns-clause-err c = stays_by c.args.event.now c.args.n (state_of c.self.inside.parts) c.args.self.now (state_of c.step_of.new.parts) c.step_of.result c.self.view_is c.step_of.ensures
