-- The number of no other process tells what is not so.
use Rattle.process_store.specs.Changes.{rest_living}
use Rattle.process_store.proofs.Marking.{changed_but}
use Rattle.process_store.proofs.marked.changing.rest_at.Goals as goal

pub mark-requires : goal.mark-requires
mark-requires c =
    let i = c.slots.inside in
    changed_but (rest_living c.args.place c.args.rests_in) i.ready i.below i.slots c.rest_at-ran.new.slots c.args.pid c.slots.invariant c.rest_at-ran.ensures.rested
