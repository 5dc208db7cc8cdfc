-- Where it takes none so far, one that it takes is the first.
use Rattle.std.proofs.Common.{◌≡◌, length, arith, true, Some, ap, sym, ◌∙◌}
use Rattle.process.specs.Process.{ProcessState, awaited, delivered, takes_at}
use Rattle.process.proofs.Mailboxes.{awaited-delivered}
use Rattle.process.proofs.process.Process.next_behind.Goals as goal

pub returns-then-branch : goal.returns-then-branch
returns-then-branch c =
    let i = c.self.inside in
    let p : ProcessState = record { pid = i.pid; name = i.name; place = i.place; rests_in = i.rests_in; activity = i.activity; turn = i.turn; mailbox = i.mailbox.items } in
    let takes : takes_at i.pid i.place i.rests_in c.args.message.now ≡ true = ap (λ o. takes_at i.pid i.place o c.args.message.now) (sym c.as_ref.ensures.value) ∙ sym c.in_ok-takes.ensures ∙ c.if-branch.true in
    let count : c.len.result ≡ length i.mailbox.items = omega arith in
    ap Some count ∙ sym (awaited-delivered p c.args.message.now i.next c.self.invariant c.in_default.not-Runs c.in_default-next.not-Some takes) ∙ ap (λ q. awaited (delivered c.args.message.now q)) c.self.view_is
