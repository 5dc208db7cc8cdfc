-- What of code_changes may go to another thread.
use denote.Param.Send.{IsSend, IsSync, sendable}
use denote.Param.SendFields.{declared_send, declared_sync}
use Rattle.std.proofs.Crossing.{crosses}
use Rattle.code_changes.specs.contracts.changing.CodeChangeUndo as CodeChangeUndo
use Rattle.node_sends.proofs.AppTable as app_table
use Rattle.node_sends.proofs.UpgradeCalls as upgrade_calls
use Rattle.values.proofs.row.Row.TheSendSync as row

pub code_change_undo_send : IsSend CodeChangeUndo.the_row
code_change_undo_send = declared_send CodeChangeUndo.the_type (
  upgrade_calls.change_undo_send,
  (
    search (
      app_table.undo_send,
      row.the_send,
      crosses,
      sendable,
    ) depth 60 fits 20000,
    tt,
  ),
)

pub code_change_undo_sync : IsSync CodeChangeUndo.the_row
code_change_undo_sync = declared_sync CodeChangeUndo.the_type (
  upgrade_calls.change_undo_sync,
  (
    search (
      app_table.undo_sync,
      row.the_sync,
      crosses,
      sendable,
    ) depth 60 fits 20000,
    tt,
  ),
)
