-- The number of no other process tells what is not so.
use Rattle.process_store.specs.Changes.{resume_living}
use Rattle.process_store.proofs.Marking.{changed_but}
use Rattle.process_store.proofs.marked.changing.resume_at.Goals as goal

pub mark-requires : goal.mark-requires
mark-requires c =
    let i = c.slots.inside in
    changed_but resume_living i.ready i.below i.slots c.resume_at.new.slots c.args.pid c.slots.invariant c.resume_at.ensures
