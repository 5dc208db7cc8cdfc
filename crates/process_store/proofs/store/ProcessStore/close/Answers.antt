-- The index tells whose the call is, and is told that it is closed.
use Rattle.std.proofs.Common.{◌≡◌, None, Some, sym, ap, subst, ◌∙◌}
use Rattle.std.specs.FinMap.{get}
use Rattle.process_index.proofs.Index.{numbers_kept}
use Rattle.process_index.specs.Index.{put}
use Rattle.process_index.specs.declared.calls.Call.{Call}
use Rattle.process_store.specs.Indexed.{IsIndexed}
use Rattle.process_store.proofs.Closing.{closed_back, closed_indexed, closed_returns, no_owner, owner_asked, owner_is}
use Rattle.process_store.proofs.store.ProcessStore.close.Goals as goal

pub returns-in_default-clause-owner : goal.returns-in_default-clause-owner
returns-in_default-clause-owner c =
    let i = c.self.inside in
    no_owner i.names i.open_calls i.slots c.args.self.now c.args.number c.self.invariant c.self.view_is (sym c.take.ensures.owner ∙ c.in_default.is)

-- where the call is not open nothing is taken out
pub invariant_of-self : goal.invariant_of-self
invariant_of-self c =
    let i = c.self.inside in
    let nothing : get i.open_calls c.args.number ≡ None = sym c.take.ensures.owner ∙ c.in_default.is in
    let kept = c.take.ensures.taken ∙ ap (λ o. put c.args.number o i.open_calls) (sym nothing) ∙ numbers_kept i.open_calls c.args.number in
    subst (λ owners. IsIndexed i.names owners i.slots) (sym kept) c.self.invariant

pub invariant_of-self-2 : goal.invariant_of-self-2
invariant_of-self-2 c =
    let i = c.self.inside in
    let o = c.in-Some.owner in
    let call : Call = record { client = o.client; number = c.args.number } in
    let at : get i.open_calls c.args.number ≡ Some o = sym c.take.ensures.owner ∙ c.in-Some.is in
    closed_indexed i.names i.open_calls c.take.new.self i.slots c.close_at.new.slots call o.pid c.self.invariant (owner_asked i.names i.open_calls i.slots c.args.number o c.self.invariant at) c.take.ensures.taken c.close_at.ensures

pub returns-clause-owner : goal.returns-clause-owner
returns-clause-owner c =
    let i = c.self.inside in
    owner_is i.names i.open_calls i.slots c.args.number c.in-Some.owner c.self.invariant (sym c.take.ensures.owner ∙ c.in-Some.is) c.args.self.now c.self.view_is

pub returns-clause-returns : goal.returns-clause-returns
returns-clause-returns c =
    let i = c.self.inside in
    let o = c.in-Some.owner in
    let call : Call = record { client = o.client; number = c.args.number } in
    let at : get i.open_calls c.args.number ≡ Some o = sym c.take.ensures.owner ∙ c.in-Some.is in
    closed_returns i.names i.open_calls c.take.new.self i.slots c.close_at.new.slots call o.pid c.self.invariant (owner_asked i.names i.open_calls i.slots c.args.number o c.self.invariant at) c.take.ensures.taken c.close_at.ensures

pub returns-clause-back : goal.returns-clause-back
returns-clause-back c =
    let i = c.self.inside in
    let o = c.in-Some.owner in
    let call : Call = record { client = o.client; number = c.args.number } in
    let at : get i.open_calls c.args.number ≡ Some o = sym c.take.ensures.owner ∙ c.in-Some.is in
    closed_back i.names i.open_calls i.slots c.close_at.new.slots c.args.self.now call o.pid c.self.invariant (owner_asked i.names i.open_calls i.slots c.args.number o c.self.invariant at) c.close_at.ensures c.self.view_is
