-- The number of no other process tells what is not so.
use Rattle.process_store.specs.Living.{arrived}
use Rattle.process_store.proofs.Marking.{changed_but}
use Rattle.process_store.proofs.marked.changing.arrive_at.Goals as goal

pub mark-requires : goal.mark-requires
mark-requires c =
    let i = c.slots.inside in
    changed_but (arrived c.args.message c.args.call) i.ready i.below i.slots c.arrive_at.new.slots c.args.pid c.slots.invariant c.in_ok-arrive_at.ensures.ok
