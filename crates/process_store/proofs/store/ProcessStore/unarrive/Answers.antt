-- The call, if it is one, is open no more.
use Rattle.std.proofs.Common.{ap, sym, ◌∙◌, subst}
use Rattle.process_store.specs.Indexed.{answered}
use Rattle.process_store.specs.Table.{living}
use Rattle.process_store.specs.Inverses.{WasCalled}
use Rattle.process_store.proofs.Arriving.{unarrived_indexed}
use Rattle.process_store.proofs.store.ProcessStore.unarrive.Goals as goal

pub invariant_of-self : goal.invariant_of-self
invariant_of-self c =
    let i = c.self.inside in
    unarrived_indexed i.names i.open_calls c.remove.new.self i.slots c.unarrive_at.new.slots c.args.call c.args.pid c.self.invariant (subst (λ t. WasCalled c.args.call (living c.args.pid t)) (sym c.self.view_is) c.requires) (c.remove.ensures ∙ ap (λ call. answered call i.open_calls) (sym c.in-Some.is)) c.unarrive_at.ensures

pub invariant_of-self-in_default : goal.invariant_of-self-in_default
invariant_of-self-in_default c =
    let i = c.self.inside in
    unarrived_indexed i.names i.open_calls i.open_calls i.slots c.unarrive_at.new.slots c.args.call c.args.pid c.self.invariant (subst (λ t. WasCalled c.args.call (living c.args.pid t)) (sym c.self.view_is) c.requires) (ap (λ call. answered call i.open_calls) (sym c.in_default.is)) c.unarrive_at.ensures
