-- The node is opened, served, and closed.
use Rattle.std.proofs.Common.{ℕ, Contains, IfOk, sym, subst, arith}
use Rattle.workers.specs.Closing.{IsClosed}
use Rattle.workers.specs.Core.{SeatState}
use Rattle.release_table.specs.declared.table.Release.{Release}
use Rattle.worker_shell.specs.Run.{AttendFails, CloseFails, HasServed}
use Rattle.worker_shell.specs.declared.fault.WorkersFault.{WorkersFault}
use Rattle.worker_shell.proofs.Opened.{first-fresh, some-seat}
use Rattle.worker_shell.proofs.Settled.{unsettled}
use Rattle.workers.proofs.Passed.{passed_on}
use Rattle.worker_shell.proofs.running.attend.Goals as goal

pub remove-first-requires : goal.remove-first-requires
remove-first-requires g c =
    let seats = c.in-Ok.opened.1 in
    omega (arith, seats.ok.0, some-seat g.N.Naming.seats seats.items c.in-Ok.ensures.count.0 c.in-Ok.ensures.opened)

pub returns-in_default-clause-err : goal.returns-in_default-clause-err
returns-in_default-clause-err g c =
    let met = c.meet-ended.ensures in
    let first = first-fresh g.N.Naming.seats c.in-Ok.opened.1.items c.remove-first.result c.in-Ok.ensures.count.0 c.in-Ok.ensures.opened c.remove-first.ensures.value in
    record {
      ended = c.meet-ended.result.0;
      end = met.0;
      served = subst (λ (s : SeatState). HasServed c.args.files.now s met.0 (g.I.Read.remaining c.args.reader.now) (g.I.Read.remaining c.meet-ended.new.reader) (g.W.Write.contents c.args.writer.now) (g.W.Write.contents c.meet-ended.new.writer) c.meet-ended.result.0) first met.1;
      fails = tt;
    }

pub returns-in_err-close-clause-err : goal.returns-in_err-close-clause-err
returns-in_err-close-clause-err g c =
    let met = c.meet-ended.ensures in
    let files = c.args.files.now in
    let left = g.I.Read.remaining c.args.reader.now in
    let rest = g.I.Read.remaining c.meet-ended.new.reader in
    let held = g.W.Write.contents c.args.writer.now in
    let holds = g.W.Write.contents c.meet-ended.new.writer in
    let why = c.in_err-close.field-0.0 in
    let first = first-fresh g.N.Naming.seats c.in-Ok.opened.1.items c.remove-first.result c.in-Ok.ensures.count.0 c.in-Ok.ensures.opened c.remove-first.ensures.value in
    let served = subst (λ (s : SeatState). HasServed files s met.0 left rest held holds c.meet-ended.result.0) first met.1 in
    let among = subst (λ r. IfOk r (λ s. Contains s.items met.0.seat)) c.in-Ok-seats.is met.2 in
    let of_release = subst (λ (r : Release). CloseFails why r g.N.Naming.seats met.0.seat) (sym c.requires.release) (c.in_err-close.ensures.err met.0.seat among) in
    let fails = subst (λ (n : ℕ). CloseFails why c.args.release n met.0.seat) (sym c.requires.seats) of_release in
    passed_on (λ (f : WorkersFault). AttendFails f files c.args.release c.args.seats left rest held holds) c.from_residual.result why c.from_residual.ensures
    (unsettled why files c.args.release c.args.seats left rest held holds c.meet-ended.result.0 met.0 served fails)

pub returns-clause-ok : goal.returns-clause-ok
returns-clause-ok g c =
    let met = c.meet-ended.ensures in
    let files = c.args.files.now in
    let left = g.I.Read.remaining c.args.reader.now in
    let rest = g.I.Read.remaining c.meet-ended.new.reader in
    let held = g.W.Write.contents c.args.writer.now in
    let holds = g.W.Write.contents c.meet-ended.new.writer in
    let first = first-fresh g.N.Naming.seats c.in-Ok.opened.1.items c.remove-first.result c.in-Ok.ensures.count.0 c.in-Ok.ensures.opened c.remove-first.ensures.value in
    let seats = c.in-Ok-seats.seats.items in
    let closed = c.in_ok-close.ensures.ok in
    let of_release = subst (λ (r : Release). IsClosed r g.N.Naming.seats seats closed.0 closed.1) (sym c.requires.release) closed.2 in
    record {
      end = met.0;
      served = subst (λ (s : SeatState). HasServed files s met.0 left rest held holds c.meet-ended.result.0) first met.1;
      settled = record {
        seats = seats;
        history = closed.0;
        timeline = closed.1;
        closed = subst (λ (n : ℕ). IsClosed c.args.release n seats closed.0 closed.1) (sym c.requires.seats) of_release;
        among = subst (λ r. IfOk r (λ s. Contains s.items met.0.seat)) c.in-Ok-seats.is met.2;
      };
    }
