-- A seat has another list than the history says.
use Rattle.std.proofs.Common.{subst}
use Rattle.workers.specs.Unclosed.{FailsToClose}
use Rattle.worker_shell.proofs.running.close.Goals as goal

pub returns-in-Err-Foreign-clause-err : goal.returns-in-Err-Foreign-clause-err
returns-in-Err-Foreign-clause-err g c =
    let closed = c.in-Err-Foreign.field-0-0 in
    let fails = subst (λ e. FailsToClose {X = g.row.N.Denot} {g = g.N.Naming} c.args.workshop.shared g.N.Naming.opened g.N.Naming.seats c.args.seats.items e) c.in-Err-Foreign.field-0-is c.in-Err-Foreign.ensures.err in
    λ seat among. record {
      seats = c.args.seats.items;
      history = closed.history.items;
      timeline = closed.journal;
      legal = fails.1.0;
      all = fails.0;
      among = among;
      foreign = fails.1.1;
    }
