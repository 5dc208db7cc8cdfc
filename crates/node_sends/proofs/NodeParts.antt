-- What of node_parts may go to another thread.
use denote.Param.Send.{IsSend, IsSync, sendable}
use denote.Param.SendFields.{declared_send, declared_sync, variants_send, variants_sync}
use Rattle.std.proofs.Crossing.{crosses}
use Rattle.code_server.proofs.modules.Modules.TheSendSync as modules
use Rattle.code_server.proofs.undo.ModulesUndo.TheSendSync as undo
use Rattle.node_parts.specs.contracts.parts.NodeParts as NodeParts
use Rattle.node_parts.specs.contracts.record.Displaced as Displaced
use Rattle.node_parts.specs.contracts.record.Record as Record
use Rattle.node_parts.specs.contracts.record.WayBack as WayBack
use Rattle.node_sends.proofs.AppTable as app_table
use Rattle.node_sends.proofs.CodeReplacement as code_replacement
use Rattle.node_sends.proofs.ErlForms as erl_ir
use Rattle.node_sends.proofs.ProcessTable as process_table
use Rattle.node_sends.proofs.ReleaseStatuses as release_statuses
use Rattle.node_sends.proofs.ScriptEnds as script_ends
use Rattle.node_sends.proofs.ScriptRunner as script_runner
use Rattle.node_sends.proofs.ScriptState as script_state
use Rattle.node_sends.proofs.Values as values

pub node_parts_send : IsSend NodeParts.the_row
node_parts_send = declared_send NodeParts.the_type (
  search (
    erl_ir.module_send,
    modules.the_send,
    crosses,
    sendable,
  ) depth 60 fits 20000,
  (
    process_table.processes_send,
    (
      app_table.app_table_send,
      (
        release_statuses.releases_send,
        (search (script_state.runner_send, crosses, sendable) depth 60 fits 20000, tt),
      ),
    ),
  ),
)

pub node_parts_sync : IsSync NodeParts.the_row
node_parts_sync = declared_sync NodeParts.the_type (
  search (
    erl_ir.module_sync,
    modules.the_sync,
    crosses,
    sendable,
  ) depth 60 fits 20000,
  (
    process_table.processes_sync,
    (
      app_table.app_table_sync,
      (
        release_statuses.releases_sync,
        (search (script_state.runner_sync, crosses, sendable) depth 60 fits 20000, tt),
      ),
    ),
  ),
)

pub displaced_send : IsSend Displaced.the_row
displaced_send = declared_send Displaced.the_type (
  search (
    erl_ir.module_send,
    modules.the_send,
    crosses,
    sendable,
  ) depth 60 fits 20000,
  (
    process_table.processes_send,
    (
      app_table.app_table_send,
      (
        search (script_state.runner_send, crosses, sendable) depth 60 fits 20000,
        (release_statuses.undo_send, tt),
      ),
    ),
  ),
)

pub displaced_sync : IsSync Displaced.the_row
displaced_sync = declared_sync Displaced.the_type (
  search (
    erl_ir.module_sync,
    modules.the_sync,
    crosses,
    sendable,
  ) depth 60 fits 20000,
  (
    process_table.processes_sync,
    (
      app_table.app_table_sync,
      (
        search (script_state.runner_sync, crosses, sendable) depth 60 fits 20000,
        (release_statuses.undo_sync, tt),
      ),
    ),
  ),
)

way_back_send : IsSend WayBack.the_row
way_back_send = variants_send WayBack.enum (
  (process_table.undo_send, tt),
  (
    (
      process_table.undo_send,
      (search (app_table.undo_send, values.boxed_send, crosses, sendable) depth 60 fits 20000, tt),
    ),
    (
      (search (code_replacement.undo_send, values.boxed_send, crosses, sendable) depth 60 fits 20000, tt),
      (
        (search (erl_ir.module_send, undo.the_send, values.boxed_send, crosses, sendable) depth 60 fits 20000, tt),
        (
          (search (release_statuses.undo_send, values.boxed_send, crosses, sendable) depth 60 fits 20000, tt),
          (
            tt,
            (
              (search (script_runner.undo_send, values.boxed_send, crosses, sendable) depth 60 fits 20000, tt),
              (
                (search (script_ends.finish_send, values.boxed_send, crosses, sendable) depth 60 fits 20000, tt),
                (
                  (search (script_ends.recovery_send, values.boxed_send, crosses, sendable) depth 60 fits 20000, tt),
                  (
                    (
                      search (code_replacement.purges_send, values.boxed_send, crosses, sendable) depth 60 fits 20000,
                      (search (release_statuses.undo_send, values.boxed_send, crosses, sendable) depth 60 fits 20000, tt),
                    ),
                    ((search (displaced_send, values.boxed_send, crosses, sendable) depth 60 fits 20000, tt), tt),
                  ),
                ),
              ),
            ),
          ),
        ),
      ),
    ),
  ),
)

way_back_sync : IsSync WayBack.the_row
way_back_sync = variants_sync WayBack.enum (
  (process_table.undo_sync, tt),
  (
    (
      process_table.undo_sync,
      (search (app_table.undo_sync, values.boxed_sync, crosses, sendable) depth 60 fits 20000, tt),
    ),
    (
      (search (code_replacement.undo_sync, values.boxed_sync, crosses, sendable) depth 60 fits 20000, tt),
      (
        (search (erl_ir.module_sync, undo.the_sync, values.boxed_sync, crosses, sendable) depth 60 fits 20000, tt),
        (
          (search (release_statuses.undo_sync, values.boxed_sync, crosses, sendable) depth 60 fits 20000, tt),
          (
            tt,
            (
              (search (script_runner.undo_sync, values.boxed_sync, crosses, sendable) depth 60 fits 20000, tt),
              (
                (search (script_ends.finish_sync, values.boxed_sync, crosses, sendable) depth 60 fits 20000, tt),
                (
                  (search (script_ends.recovery_sync, values.boxed_sync, crosses, sendable) depth 60 fits 20000, tt),
                  (
                    (
                      search (code_replacement.purges_sync, values.boxed_sync, crosses, sendable) depth 60 fits 20000,
                      (search (release_statuses.undo_sync, values.boxed_sync, crosses, sendable) depth 60 fits 20000, tt),
                    ),
                    ((search (displaced_sync, values.boxed_sync, crosses, sendable) depth 60 fits 20000, tt), tt),
                  ),
                ),
              ),
            ),
          ),
        ),
      ),
    ),
  ),
)

pub record_send : IsSend Record.the_row
record_send = declared_send Record.the_type (way_back_send, tt)

pub record_sync : IsSync Record.the_row
record_sync = declared_sync Record.the_type (way_back_sync, tt)
