-- The number of no other process tells what is not so.
use Rattle.process_store.specs.Changes.{restate_living}
use Rattle.process_store.proofs.Marking.{changed_but}
use Rattle.process_store.proofs.marked.changing.restate_at.Goals as goal

pub mark-requires : goal.mark-requires
mark-requires c =
    let i = c.slots.inside in
    changed_but (restate_living c.args.state c.args.turns) i.ready i.below i.slots c.restate_at-former.new.slots c.args.pid c.slots.invariant c.restate_at-former.ensures.restated
