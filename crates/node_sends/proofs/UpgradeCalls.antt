-- What of upgrade_calls may go to another thread.
use denote.Param.Send.{IsSend, IsSync, sendable}
use denote.Param.SendFields.{declared_send, declared_sync}
use Rattle.std.proofs.Crossing.{crosses}
use Rattle.node_sends.proofs.ProcessTable as process_table
use Rattle.upgrade_calls.specs.contracts.changing.ChangeUndo as ChangeUndo
use Rattle.values.proofs.row.Row.TheSendSync as row

pub change_undo_send : IsSend ChangeUndo.the_row
change_undo_send = declared_send ChangeUndo.the_type (
  search (
    process_table.state_change_send,
    row.the_send,
    crosses,
    sendable,
  ) depth 60 fits 20000,
  (process_table.undo_send, tt),
)

pub change_undo_sync : IsSync ChangeUndo.the_row
change_undo_sync = declared_sync ChangeUndo.the_type (
  search (
    process_table.state_change_sync,
    row.the_sync,
    crosses,
    sendable,
  ) depth 60 fits 20000,
  (process_table.undo_sync, tt),
)
