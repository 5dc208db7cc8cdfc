-- The process lives, and no call of the number is open; its message is the one that was made.
use Rattle.std.proofs.Common.{◌≡◌, ap, sym, subst, ◌∙◌, IfSome, IsSome, Some, false}
use Rattle.process_store.specs.Table.{is_open, living}
use Rattle.process_table.proofs.Arriving.{all_there, named_lives, unasked_call}
use Rattle.process_table.specs.Messages.{arrival_of, message_of}
use Rattle.process_table.specs.Steps.{arrive_refusal, arrived_at}
use Rattle.process_table.proofs.processes.Processes.deliver.Goals as goal

pub arrive-requires-clause-lives : goal.arrive-requires-clause-lives
arrive-requires-clause-lives c = subst (λ t. IsSome (living c.in-Some.pid t)) (sym c.self.view_is) (named_lives c.args.name.now c.args.self.now c.in-Some.pid (sym c.pid_named.ensures ∙ c.in-Some.is))

pub arrive-requires-clause-unasked : goal.arrive-requires-clause-unasked
arrive-requires-clause-unasked c =
    let unasked = unasked_call c.args.client c.args.name.now c.args.body.now c.args.self.now c.call-call.result c.call-call.ensures c.requires in
    subst (λ t. IfSome c.call-call.result (λ x. is_open x.number t ≡ false)) (sym c.self.view_is) unasked

pub returns-clause-arrived : goal.returns-clause-arrived
returns-clause-arrived c =
    let pid = sym c.in-Some.is ∙ c.pid_named.ensures in
    let message = sym c.in-Some-2.is ∙ c.in_ok-message.ensures.message in
    c.in_ok-arrive.ensures.ok ∙ (λ i. arrived_at (pid i) (message i) (c.call-call.ensures i) (c.self.view_is i))

pub returns-clause-told : goal.returns-clause-told
returns-clause-told c =
    let name = c.args.name.now in
    let message = sym c.in-Some-2.is ∙ c.in_ok-message.ensures.message in
    let came = arrival_of name (message_of c.args.body.now) in
    let is : Some (c.in_ok-copy.field-0, c.in_ok-copy-2.field-0) ≡ came = (λ i. Some (c.in_ok-copy.ensures i, c.in_ok-copy-2.ensures i)) ∙ ap (arrival_of name) message in
    all_there c.in_ok-arrivals.arrivals.items (c.in_ok-copy.field-0, c.in_ok-copy-2.field-0) came c.args.n c.in_ok-arrivals.ensures is
