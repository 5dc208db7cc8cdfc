-- The session has served, and its seat is handed back. What the session's closure captures are, by their indices, the reader (6) and the
-- writer (7).
use Rattle.std.proofs.Common.{◌≡◌, rules, IfOk, IsSomeAnd, Contains, ap, sym}
use Rattle.worker_shell.specs.Desk.{DeskState}
use Rattle.worker_shell.specs.Run.{HasServed}
use Rattle.worker_shell.proofs.Settled.{handed-back}
use Rattle.worker_shell.proofs.running.meet.Goals as goal

pub returns : goal.returns
returns g c =
    let called = c.join_mut-worked.ensures.1.met in
    let left = g.I.Read.remaining c.args.reader.now in
    let rest = g.I.Read.remaining c.join_mut-worked.new.g.6.now in
    let held = g.W.Write.contents c.args.writer.now in
    let holds = g.W.Write.contents c.join_mut-worked.new.g.7.now in
    let reader : c.reader-1.given.0 ≡ c.join_mut-worked.new.g.6.now = search (rules, called.0, called.1) in
    let writer : c.writer-1.given.0 ≡ c.join_mut-worked.new.g.7.now = search (rules, called.0, called.1) in
    let served : IsSomeAnd c.join_mut-worked.result.1 (λ back. (end : DeskState) × (back.1 ≡ end.seat) × HasServed c.args.files.now c.args.first end left rest held holds back.0) = called.1 in
    handed-back c.args.files.now c.args.first left rest (g.I.Read.remaining c.reader-1.given.0) held holds (g.W.Write.contents c.writer-1.given.0) c.join_mut-worked.result.1 c.in-Some.ended c.in-Some.seat
    (λ seat. IfOk c.and_seat.result (λ seats. Contains seats.items seat)) served (ap g.I.Read.remaining (sym reader)) (ap g.W.Write.contents (sym writer)) c.in-Some.is c.and_seat.ensures
