-- What of code_loading may go to another thread.
use denote.Param.Send.{IsSend, IsSync, sendable}
use denote.Param.SendFields.{declared_send, declared_sync}
use Rattle.std.proofs.Crossing.{crosses}
use Rattle.code_loading.specs.contracts.undo.Purges as Purges
use Rattle.code_loading.specs.contracts.undo.LoadUndo as LoadUndo
use Rattle.code_server.proofs.undo.ModulesUndo.TheSendSync as undo
use Rattle.node_sends.proofs.ErlForms as erl_ir
use Rattle.node_sends.proofs.ProcessTable as process_table
use Rattle.values.proofs.row.Row.TheSendSync as row

pub undo_send : IsSend LoadUndo.the_row
undo_send = declared_send LoadUndo.the_type (
  search (
    erl_ir.module_send,
    undo.the_send,
    crosses,
    sendable,
  ) depth 60 fits 20000,
  (search (process_table.undo_send, crosses, sendable) depth 60 fits 20000, tt),
)

pub undo_sync : IsSync LoadUndo.the_row
undo_sync = declared_sync LoadUndo.the_type (
  search (
    erl_ir.module_sync,
    undo.the_sync,
    crosses,
    sendable,
  ) depth 60 fits 20000,
  (search (process_table.undo_sync, crosses, sendable) depth 60 fits 20000, tt),
)

pub purges_send : IsSend Purges.the_row
purges_send = declared_send Purges.the_type (
  search (
    erl_ir.module_send,
    undo.the_send,
    row.the_send,
    crosses,
    sendable,
  ) depth 60 fits 20000,
  (process_table.undo_send, tt),
)

pub purges_sync : IsSync Purges.the_row
purges_sync = declared_sync Purges.the_type (
  search (
    erl_ir.module_sync,
    undo.the_sync,
    row.the_sync,
    crosses,
    sendable,
  ) depth 60 fits 20000,
  (process_table.undo_sync, tt),
)
