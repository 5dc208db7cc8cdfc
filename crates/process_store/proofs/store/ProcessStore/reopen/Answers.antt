-- The call is open; where there is no memory for its number, it is closed again.
use Rattle.std.proofs.Common.{◌≡◌, IsSome, ap, sym, ◌∙◌, subst}
use Rattle.process_store.specs.Changes.{closed_living}
use Rattle.process_store.specs.Indexed.{IsIndexed}
use Rattle.process_store.specs.Table.{changed_slots, living}
use Rattle.process_store.proofs.Arriving.{free_number, uncalled}
use Rattle.process_store.proofs.Closing.{reopened_back, reopened_indexed, reopened_owner, slots_reopened_back}
use Rattle.process_store.proofs.store.ProcessStore.reopen.Goals as goal

pub reopen_at-requires : goal.reopen_at-requires
reopen_at-requires c =
    let i = c.self.inside in
    uncalled i.names i.open_calls i.slots c.args.self.now c.args.call c.args.pid c.self.invariant c.self.view_is c.requires.1

pub invariant_of-self-in-Ok : goal.invariant_of-self-in-Ok
invariant_of-self-in-Ok c =
    let i = c.self.inside in
    reopened_indexed i.names i.open_calls c.insert.new.self i.slots c.reopen_at.new.slots c.args.call c.args.pid c.self.invariant (subst (λ t. IsSome (living c.args.pid t)) (sym c.self.view_is) c.requires.0) (free_number i.names i.open_calls i.slots c.args.self.now c.args.call.number c.self.invariant c.self.view_is c.requires.1) c.in-Ok.ensures.ok c.in_ok-reopen_at.ensures.ok

pub invariant_of-self-in-Err : goal.invariant_of-self-in-Err
invariant_of-self-in-Err c =
    let i = c.self.inside in
    let free = uncalled i.names i.open_calls i.slots c.args.self.now c.args.call c.args.pid c.self.invariant c.self.view_is c.requires.1 in
    let back : c.close_at.new.slots ≡ i.slots = c.close_at.ensures ∙ ap (changed_slots (closed_living c.args.call) c.args.pid) c.in_ok-reopen_at.ensures.ok ∙ slots_reopened_back i.slots c.args.call c.args.pid free in
    subst (λ o. IsIndexed i.names o c.close_at.new.slots) (sym c.in-Err.ensures.err) (subst (IsIndexed i.names i.open_calls) (sym back) c.self.invariant)

pub returns-in-Err-clause-err : goal.returns-in-Err-clause-err
returns-in-Err-clause-err c =
    let i = c.self.inside in
    let free = uncalled i.names i.open_calls i.slots c.args.self.now c.args.call c.args.pid c.self.invariant c.self.view_is c.requires.1 in
    let back : c.close_at.new.slots ≡ i.slots = c.close_at.ensures ∙ ap (changed_slots (closed_living c.args.call) c.args.pid) c.in_ok-reopen_at.ensures.ok ∙ slots_reopened_back i.slots c.args.call c.args.pid free in
    ap (λ x. record { slots = x }) back ∙ c.self.view_is

pub returns-in-Ok-clause-owner : goal.returns-in-Ok-clause-owner
returns-in-Ok-clause-owner c =
    let i = c.self.inside in
    reopened_owner i.names i.open_calls c.insert.new.self i.slots c.reopen_at.new.slots c.args.call c.args.pid c.self.invariant (subst (λ t. IsSome (living c.args.pid t)) (sym c.self.view_is) c.requires.0) (free_number i.names i.open_calls i.slots c.args.self.now c.args.call.number c.self.invariant c.self.view_is c.requires.1) c.in-Ok.ensures.ok c.in_ok-reopen_at.ensures.ok

pub returns-in-Ok-clause-back : goal.returns-in-Ok-clause-back
returns-in-Ok-clause-back c =
    let i = c.self.inside in
    let free = uncalled i.names i.open_calls i.slots c.args.self.now c.args.call c.args.pid c.self.invariant c.self.view_is c.requires.1 in
    reopened_back i.slots c.reopen_at.new.slots c.args.self.now c.args.call c.args.pid free c.in_ok-reopen_at.ensures.ok c.self.view_is
