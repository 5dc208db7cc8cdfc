-- The pid has a number, and the number of no other process tells what is not so.
use Rattle.std.proofs.Common.{Some, arith}
use Rattle.process_store.proofs.Marking.{edited_but}
use Rattle.process_store.proofs.marked.MarkedSlots.put.Goals as goal

pub mark-requires : goal.mark-requires
mark-requires c =
    let i = c.self.inside in
    edited_but (λ o. Some c.args.living) c.reach.new.ready c.reach.new.below i.slots c.put.new.self c.args.pid (λ under. absurd (omega (arith, under, c.in-Ok.ensures.reached))) c.reach.ensures.ready c.in-Ok-put.ensures.ok
