-- The parts take the step back.
use Rattle.std.proofs.Common.{sym, subst}
use Rattle.node_core.proofs.Stepped.{back_by, given_by, kept_back, same_by}
use Rattle.script_events.specs.Changes.{state_of}
use Rattle.script_events.specs.Record.{Undoes}
use Rattle.script_events.specs.Node.{NodeState}
use Rattle.node_core.proofs.stepping.NodeReversible.revert.Goals as goal

pub revert-requires : goal.revert-requires
revert-requires c = let (before, undoes) = c.requires in (before, subst (λ (m : NodeState). Undoes c.args.trace before m) (sym c.self.view_is) undoes)

pub invariant_of-self : goal.invariant_of-self
invariant_of-self c =
    let (before, undoes) = c.requires in
    kept_back c.args.trace before (state_of c.self.inside.parts) (state_of c.revert.new.parts) c.revert.result (subst (λ (m : NodeState). Undoes c.args.trace before m) (sym c.self.view_is) undoes) c.revert.ensures c.self.invariant

pub returns-clause-ok : goal.returns-clause-ok
returns-clause-ok c = back_by c.args.trace (state_of c.self.inside.parts) c.args.self.now (state_of c.revert.new.parts) c.revert.result c.self.view_is c.revert.ensures

pub returns-clause-err : goal.returns-clause-err
returns-clause-err c = same_by c.args.trace (state_of c.self.inside.parts) c.args.self.now (state_of c.revert.new.parts) c.revert.result c.self.view_is c.revert.ensures

pub returns-clause-back : goal.returns-clause-back
returns-clause-back c = given_by c.args.trace (state_of c.self.inside.parts) (state_of c.revert.new.parts) c.revert.result c.revert.ensures
