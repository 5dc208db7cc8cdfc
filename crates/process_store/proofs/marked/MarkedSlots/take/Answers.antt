-- The number of no other process tells what is not so.
use Rattle.std.proofs.Common.{None, refl}
use Rattle.process_store.proofs.Marking.{edited_but}
use Rattle.process_store.proofs.marked.MarkedSlots.take.Goals as goal

pub mark-requires : goal.mark-requires
mark-requires c =
    let i = c.self.inside in
    edited_but (λ o. None) i.ready i.below i.slots c.take-living.new.self c.args.pid (λ under. refl) c.self.invariant c.take-living.ensures.rest
