-- The number of no other process tells what is not so.
use Rattle.process_store.specs.Living.{untook}
use Rattle.process_store.proofs.Marking.{changed_but}
use Rattle.process_store.proofs.marked.changing.untake_at.Goals as goal

pub mark-requires : goal.mark-requires
mark-requires c =
    let i = c.slots.inside in
    changed_but (untook c.args.position) i.ready i.below i.slots c.untake_at.new.slots c.args.pid c.slots.invariant c.in_ok-untake_at.ensures.ok
