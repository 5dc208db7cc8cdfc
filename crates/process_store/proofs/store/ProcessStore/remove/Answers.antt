-- The process's name is free, none of its calls is open, and it fills its slot again.
use Rattle.std.proofs.Common.{sym, ap, ◌∙◌, subst}
use Rattle.process_store.specs.Indexed.{IsIndexed}
use Rattle.process_store.specs.Vacating.{occupied_slots}
use Rattle.process_store.proofs.Vacating.{vacated_back, vacated_indexed, vacated_nobody, vacated_returns}
use Rattle.process_store.proofs.store.ProcessStore.remove.Goals as goal

pub invariant_of-self : goal.invariant_of-self
invariant_of-self c =
    let i = c.self.inside in
    vacated_indexed i.names c.leave.new.names i.open_calls c.leave.new.open_calls i.slots c.take.new.self c.args.pid c.in-Some.living c.self.invariant
    (sym c.take.ensures.taken ∙ c.in-Some.is) c.leave.ensures.unnamed c.leave.ensures.answered c.take.ensures.rest

pub invariant_of-self-in-None : goal.invariant_of-self-in-None
invariant_of-self-in-None c =
    let i = c.self.inside in
    let same = c.take.ensures.rest ∙ vacated_nobody i.slots c.args.pid (sym c.take.ensures.taken ∙ c.in-None.is) in
    subst (IsIndexed i.names i.open_calls) (sym same) c.self.invariant

pub returns-in-Some-clause-returns : goal.returns-in-Some-clause-returns
returns-in-Some-clause-returns c =
    let i = c.self.inside in
    vacated_returns i.names i.open_calls i.slots c.args.pid c.in-Some.living _ c.self.invariant (sym c.take.ensures.taken ∙ c.in-Some.is) (ap (λ x. record { slots = x }) (sym c.take.ensures.rest))

pub returns-in-Some-clause-back : goal.returns-in-Some-clause-back
returns-in-Some-clause-back c =
    let i = c.self.inside in
    let l = c.in-Some.living in
    ap (λ x. record { slots = occupied_slots c.args.pid l x }) c.take.ensures.rest ∙ ap (λ x. record { slots = x }) (vacated_back i.slots c.args.pid l (sym c.take.ensures.taken ∙ c.in-Some.is)) ∙ c.self.view_is
