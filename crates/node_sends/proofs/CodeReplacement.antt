-- What of code_replacement may go to another thread.
use denote.Param.Send.{IsSend, IsSync, sendable}
use denote.Param.SendFields.{declared_send, declared_sync}
use Rattle.std.proofs.Crossing.{crosses}
use Rattle.code_replacement.specs.contracts.undo.Purges as Purges
use Rattle.code_replacement.specs.contracts.undo.ReplacementUndo as ReplacementUndo
use Rattle.node_sends.proofs.AppTable as app_table
use Rattle.node_sends.proofs.CodeLoading as code_loading

pub undo_send : IsSend ReplacementUndo.the_row
undo_send = declared_send ReplacementUndo.the_type (
  code_loading.undo_send,
  (
    search (
      app_table.undo_send,
      crosses,
      sendable,
    ) depth 60 fits 20000,
    tt,
  ),
)

pub undo_sync : IsSync ReplacementUndo.the_row
undo_sync = declared_sync ReplacementUndo.the_type (
  code_loading.undo_sync,
  (
    search (
      app_table.undo_sync,
      crosses,
      sendable,
    ) depth 60 fits 20000,
    tt,
  ),
)

pub purges_send : IsSend Purges.the_row
purges_send = declared_send Purges.the_type (
  code_loading.purges_send,
  (
    search (
      app_table.undo_send,
      crosses,
      sendable,
    ) depth 60 fits 20000,
    tt,
  ),
)

pub purges_sync : IsSync Purges.the_row
purges_sync = declared_sync Purges.the_type (
  code_loading.purges_sync,
  (
    search (
      app_table.undo_sync,
      crosses,
      sendable,
    ) depth 60 fits 20000,
    tt,
  ),
)
