-- The number of no other process tells what is not so.
use Rattle.process_store.specs.Living.{unarrived}
use Rattle.process_store.proofs.Marking.{changed_but}
use Rattle.process_store.proofs.marked.changing.unarrive_at.Goals as goal

pub mark-requires : goal.mark-requires
mark-requires c =
    let i = c.slots.inside in
    changed_but (unarrived c.args.call) i.ready i.below i.slots c.unarrive_at.new.slots c.args.pid c.slots.invariant c.unarrive_at.ensures
