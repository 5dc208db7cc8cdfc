-- Nobody is there.
use Rattle.process_store.proofs.Indexes.{IsIndexed-empty}
use Rattle.process_store.proofs.store.ProcessStore.new.Goals as goal

pub invariant_of-result : goal.invariant_of-result
invariant_of-result c = rw c.new.ensures (rw c.new-2.ensures (rw c.new-3.ensures IsIndexed-empty))
