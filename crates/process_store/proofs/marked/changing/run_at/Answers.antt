-- The number of no other process tells what is not so.
use Rattle.process_store.specs.Living.{run}
use Rattle.process_store.proofs.Marking.{changed_but}
use Rattle.process_store.proofs.marked.changing.run_at.Goals as goal

pub mark-requires : goal.mark-requires
mark-requires c =
    let i = c.slots.inside in
    changed_but (run c.args.position c.args.entry_serial c.args.code) i.ready i.below i.slots c.run_at.new.slots c.args.pid c.slots.invariant c.run_at.ensures
