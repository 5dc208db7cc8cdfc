-- The number of no other process tells what is not so.
use Rattle.process_store.specs.Changes.{reopened_living}
use Rattle.process_store.proofs.Marking.{changed_but}
use Rattle.process_store.proofs.marked.changing.reopen_at.Goals as goal

pub mark-requires : goal.mark-requires
mark-requires c =
    let i = c.slots.inside in
    changed_but (reopened_living c.args.call) i.ready i.below i.slots c.reopen_at.new.slots c.args.pid c.slots.invariant c.in_ok-reopen_at.ensures.ok
