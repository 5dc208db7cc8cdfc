-- The last number goes with the last process.
use Rattle.std.proofs.Common.{◌-◌, IsSome, List, Option, length, subst, sym}
use Rattle.process_store.specs.declared.living.ProcessEntry.{ProcessEntry}
use Rattle.process_store.specs.Table.{living_at}
use Rattle.process_store.proofs.Marking.{popped_ready}
use Rattle.process_store.proofs.marked.MarkedSlots.pop.Goals as goal

pub invariant_of-self : goal.invariant_of-self
invariant_of-self c =
    let i = c.self.inside in
    popped_ready i.ready c.pop.new.self i.below i.slots c.pop-2.new.self c.self.invariant (subst (λ (xs : List (Option ProcessEntry)). IsSome (living_at xs (length xs - 1))) (sym c.self.view_is) c.requires) c.pop.ensures c.pop-2.ensures.rest
