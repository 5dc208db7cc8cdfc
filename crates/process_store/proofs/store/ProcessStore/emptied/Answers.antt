-- Nobody is there, and nobody has pid 0.
use Rattle.process_index.specs.Standing.{vacant}
use Rattle.process_store.proofs.Indexes.{IsIndexed-nobody}
use Rattle.process_store.proofs.Slots.{living_vacant, nobody_vacant}
use Rattle.process_store.proofs.store.ProcessStore.emptied.Goals as goal

pub invariant_of-result : goal.invariant_of-result
invariant_of-result c =
    let slots = c.self.inside.slots in
    rw c.vacant.ensures (rw c.emptied.ensures (rw c.emptied-2.ensures (IsIndexed-nobody (vacant slots) (living_vacant slots) (nobody_vacant slots c.self.invariant.nobody))))
