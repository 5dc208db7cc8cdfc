-- The number of no other process tells what is not so.
use Rattle.process_store.specs.Changes.{suspend_living}
use Rattle.process_store.proofs.Marking.{changed_but}
use Rattle.process_store.proofs.marked.changing.suspend_at.Goals as goal

pub mark-requires : goal.mark-requires
mark-requires c =
    let i = c.slots.inside in
    changed_but suspend_living i.ready i.below i.slots c.suspend_at.new.slots c.args.pid c.slots.invariant c.suspend_at.ensures
