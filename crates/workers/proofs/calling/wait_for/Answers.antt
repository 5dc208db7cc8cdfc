-- No read had the reply.
use Rattle.std.proofs.Common.{◌≡◌, arith, subst}
use Rattle.workers.specs.Calling.{HasRead, WaitFails, reads_of}
use Rattle.workers.proofs.Passed.{passed_on}
use Rattle.workers.proofs.Unanswered.{waits_in_vain, waits_unread}
use Rattle.workers.proofs.calling.wait_for.Goals as goal

pub returns-in_err-reply-clause-fails : goal.returns-in_err-reply-clause-fails
returns-in_err-reply-clause-fails g c =
    let l = c.loop-wait in
    let old = c.args.seat.now in
    let new = c.look.new.seat in
    let why = c.in_err-reply.field-0.0 in
    passed_on (WaitFails c.args.number c.args.first c.args.waits old new) c.from_residual.result why c.from_residual.ensures
    (waits_unread c.args.number c.args.first l.from (reads_of l.wait) c.args.waits why old l.seat new l.invariant c.in_err-reply.ensures.fails)

pub returns-clause-fails : goal.returns-clause-fails
returns-clause-fails g c =
    let l = c.loop-wait in
    let end : l.wait ≡ c.args.waits = omega (arith, l.auto.wait-end, c.loop-wait-test.false) in
    waits_in_vain c.args.number c.args.first l.from c.args.waits c.args.seat.now l.seat
    (subst (λ n. HasRead c.args.number c.args.first l.from (reads_of n) c.args.seat.now l.seat) end l.invariant)
