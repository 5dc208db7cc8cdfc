-- The number of no other process tells what is not so.
use Rattle.process_store.specs.Changes.{unrestate_living}
use Rattle.process_store.proofs.Marking.{changed_but}
use Rattle.process_store.proofs.marked.changing.unrestate_at.Goals as goal

pub mark-requires : goal.mark-requires
mark-requires c =
    let i = c.slots.inside in
    changed_but (unrestate_living c.args.state c.args.turns) i.ready i.below i.slots c.unrestate_at-former.new.slots c.args.pid c.slots.invariant c.unrestate_at-former.ensures.unrestated
