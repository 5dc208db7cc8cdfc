-- The number of no other process tells what is not so.
use Rattle.process_store.specs.Changes.{closed_living}
use Rattle.process_store.proofs.Marking.{changed_but}
use Rattle.process_store.proofs.marked.changing.close_at.Goals as goal

pub mark-requires : goal.mark-requires
mark-requires c =
    let i = c.slots.inside in
    changed_but (closed_living c.args.call) i.ready i.below i.slots c.close_at.new.slots c.args.pid c.slots.invariant c.close_at.ensures
