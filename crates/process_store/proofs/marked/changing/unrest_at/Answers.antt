-- The number of no other process tells what is not so.
use Rattle.process_store.specs.Changes.{unrest_living}
use Rattle.process_store.proofs.Marking.{changed_but}
use Rattle.process_store.proofs.marked.changing.unrest_at.Goals as goal

pub mark-requires : goal.mark-requires
mark-requires c =
    let i = c.slots.inside in
    changed_but (unrest_living c.args.ran) i.ready i.below i.slots c.unrest_at.new.slots c.args.pid c.slots.invariant c.unrest_at.ensures
