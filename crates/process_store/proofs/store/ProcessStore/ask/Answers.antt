-- The call is open, and the undo takes it away; where there is no memory for its number, the message goes again.
use Rattle.std.proofs.Common.{◌≡◌, Some, ap, sym, ◌∙◌, subst, IsSome}
use Rattle.process_store.specs.Indexed.{IsIndexed}
use Rattle.process_store.specs.Living.{unarrived}
use Rattle.process_store.specs.Table.{changed_slots, living}
use Rattle.process_store.proofs.Arriving.{arrived_fits, arrived_indexed, free_number, slots_arrived_back, table_arrived_back, uncalled}
use Rattle.process_store.proofs.store.ProcessStore.ask.Goals as goal

pub arrive_at-requires : goal.arrive_at-requires
arrive_at-requires c =
    let i = c.self.inside in
    uncalled i.names i.open_calls i.slots c.args.self.now c.args.call c.args.pid c.self.invariant c.self.view_is c.requires.unasked

pub invariant_of-self-in-Ok : goal.invariant_of-self-in-Ok
invariant_of-self-in-Ok c =
    let i = c.self.inside in
    arrived_indexed c.args.message i.names i.open_calls c.insert.new.self i.slots c.arrive_at.new.slots (Some c.args.call) c.args.pid c.self.invariant (subst (λ t. IsSome (living c.args.pid t)) (sym c.self.view_is) c.requires.lives) (free_number i.names i.open_calls i.slots c.args.self.now c.args.call.number c.self.invariant c.self.view_is c.requires.unasked) c.in-Ok.ensures.ok c.in_ok-arrive_at.ensures.ok

pub returns-in-Ok-clause-fits : goal.returns-in-Ok-clause-fits
returns-in-Ok-clause-fits c =
    let i = c.self.inside in
    arrived_fits c.args.message (Some c.args.call) i.slots c.arrive_at.new.slots c.args.pid c.in_ok-arrive_at.ensures.ok (subst (λ t. IsSome (living c.args.pid t)) (sym c.self.view_is) c.requires.lives)

pub returns-in-Ok-clause-back : goal.returns-in-Ok-clause-back
returns-in-Ok-clause-back c =
    let i = c.self.inside in
    table_arrived_back c.args.message (Some c.args.call) i.slots c.arrive_at.new.slots c.args.pid c.args.self.now c.in_ok-arrive_at.ensures.ok (uncalled i.names i.open_calls i.slots c.args.self.now c.args.call c.args.pid c.self.invariant c.self.view_is c.requires.unasked) c.self.view_is

pub invariant_of-self-in-Err : goal.invariant_of-self-in-Err
invariant_of-self-in-Err c =
    let i = c.self.inside in
    let free = uncalled i.names i.open_calls i.slots c.args.self.now c.args.call c.args.pid c.self.invariant c.self.view_is c.requires.unasked in
    let back : c.unarrive_at.new.slots ≡ i.slots = c.unarrive_at.ensures ∙ ap (changed_slots (unarrived (Some c.args.call)) c.args.pid) c.in_ok-arrive_at.ensures.ok ∙ slots_arrived_back c.args.message (Some c.args.call) i.slots c.args.pid free in
    subst (λ o. IsIndexed i.names o c.unarrive_at.new.slots) (sym c.in-Err.ensures.err) (subst (IsIndexed i.names i.open_calls) (sym back) c.self.invariant)

pub returns-in-Err-clause-err : goal.returns-in-Err-clause-err
returns-in-Err-clause-err c =
    let i = c.self.inside in
    let free = uncalled i.names i.open_calls i.slots c.args.self.now c.args.call c.args.pid c.self.invariant c.self.view_is c.requires.unasked in
    let back : c.unarrive_at.new.slots ≡ i.slots = c.unarrive_at.ensures ∙ ap (changed_slots (unarrived (Some c.args.call)) c.args.pid) c.in_ok-arrive_at.ensures.ok ∙ slots_arrived_back c.args.message (Some c.args.call) i.slots c.args.pid free in
    ap (λ x. record { slots = x }) back ∙ c.self.view_is
