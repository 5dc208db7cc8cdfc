-- What of script_children may go to another thread.
use denote.Param.Send.{IsSend, IsSync, sendable}
use denote.Param.SendFields.{variants_send, variants_sync}
use Rattle.std.proofs.Crossing.{crosses}
use Rattle.node_sends.proofs.AppTable as app_table
use Rattle.node_sends.proofs.ProcessTable as process_table
use Rattle.script_children.specs.contracts.undo.ChildrenUndo as ChildrenUndo

pub undo_send : IsSend ChildrenUndo.the_row
undo_send = variants_send ChildrenUndo.enum (
  (
    search (process_table.undo_send, crosses, sendable) depth 60 fits 20000,
    (search (app_table.undo_send, crosses, sendable) depth 60 fits 20000, tt),
  ),
  ((app_table.unloaded_send, tt), tt),
)

pub undo_sync : IsSync ChildrenUndo.the_row
undo_sync = variants_sync ChildrenUndo.enum (
  (
    search (process_table.undo_sync, crosses, sendable) depth 60 fits 20000,
    (search (app_table.undo_sync, crosses, sendable) depth 60 fits 20000, tt),
  ),
  ((app_table.unloaded_sync, tt), tt),
)
