-- All that a seat has may go to another thread.
use denote.Exit.{yes}
use denote.Param.{param}
use denote.Param.Send.{view_send, sendable}
use denote.Param.SendFields.{declared_send}
use Rattle.std.proofs.Crossing.{crosses}
use Rattle.entry_lists.proofs.entries.Entries.TheSendSync as entries
use Rattle.node_lock.specs.contracts.seat.Seat.TheInside as SeatInside
use Rattle.node_lock.proofs.Crossing.{line_send}
use Rattle.node_lock.proofs.sending.seat_is_send.Goals as goal

pub returns : goal.returns
returns g c =
    let share = c.is_send.ensures in
    view_send _ _ _ _ _ (declared_send (SeatInside.the_type (param 0 g.row.N) g.N.Naming g.N.Ledger) (
      search sendable,
      (
        search (line_send, entries.the_send, crosses, sendable) depth 60 fits 20000,
        (record { owned = share.owned; leaving = λ k. share.leaving yes }, tt),
      ),
    ))
