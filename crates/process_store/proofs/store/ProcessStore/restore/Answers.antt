-- The process's name is its own, its calls are open, and it is in its slot; where there is no memory for it there, it leaves again.
use Rattle.std.proofs.Common.{◌≡◌, None, Some, slice_get, ap, sym, subst, ◌∙◌}
use Rattle.process_store.specs.Table.{living_at}
use Rattle.process_store.specs.Vacating.{vacated_slots}
use Rattle.process_store.proofs.Vacating.{calls_are_free, left_again, living_occupied, name_is_free, occupied_back, occupied_indexed}
use Rattle.process_store.proofs.store.ProcessStore.restore.Goals as goal

pub enter-entered-requires-clause-name : goal.enter-entered-requires-clause-name
enter-entered-requires-clause-name c =
    let i = c.self.inside in
    name_is_free i.names i.open_calls i.slots c.args.living c.args.self.now c.self.invariant c.self.view_is c.requires.1

pub enter-entered-requires-clause-calls : goal.enter-entered-requires-clause-calls
enter-entered-requires-clause-calls c =
    let i = c.self.inside in
    calls_are_free i.names i.open_calls i.slots c.args.living c.args.self.now c.self.invariant c.self.view_is c.requires.2

pub invariant_of-self-in-Ok-put : goal.invariant_of-self-in-Ok-put
invariant_of-self-in-Ok-put c =
    let i = c.self.inside in
    occupied_indexed i.names c.enter-entered.new.names i.open_calls c.enter-entered.new.open_calls i.slots c.put.new.self c.args.pid c.args.living c.args.self.now c.self.invariant c.self.view_is c.requires c.in-Ok.ensures.ordered c.in-Ok.ensures.named c.in-Ok.ensures.asked c.in-Ok-put.ensures.ok

pub invariant_of-self-in-Err-put : goal.invariant_of-self-in-Err-put
invariant_of-self-in-Err-put c =
    let i = c.self.inside in
    left_again i.names c.enter-entered.new.names c.leave.new.names i.open_calls c.enter-entered.new.open_calls c.leave.new.open_calls i.slots c.put.new.self c.args.pid c.args.living c.in-Err-put.living c.args.self.now c.self.invariant c.self.view_is c.requires c.in-Ok.ensures.named c.in-Ok.ensures.asked c.in-Err-put.ensures.back c.leave.ensures.unnamed c.leave.ensures.answered c.in-Err-put.ensures.err

pub returns-in-Ok-put-clause-lives : goal.returns-in-Ok-put-clause-lives
returns-in-Ok-put-clause-lives c =
    let vacant = subst (λ x. slice_get x.slots c.args.pid ≡ Some None) (sym c.self.view_is) c.requires.0.1 in
    ap (λ x. living_at x c.args.pid) c.in-Ok-put.ensures.ok ∙ living_occupied c.args.living c.self.inside.slots c.args.pid vacant

pub returns-in-Ok-put-clause-vacates : goal.returns-in-Ok-put-clause-vacates
returns-in-Ok-put-clause-vacates c =
    let vacant = subst (λ x. slice_get x.slots c.args.pid ≡ Some None) (sym c.self.view_is) c.requires.0.1 in
    ap (λ x. record { slots = vacated_slots c.args.pid x }) c.in-Ok-put.ensures.ok ∙ ap (λ x. record { slots = x }) (occupied_back c.args.living c.self.inside.slots c.args.pid vacant) ∙ c.self.view_is
