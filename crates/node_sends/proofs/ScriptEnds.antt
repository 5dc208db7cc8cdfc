-- What of script_ends may go to another thread.
use denote.Param.Send.{IsSend, IsSync, sendable}
use denote.Param.SendFields.{declared_send, declared_sync}
use Rattle.std.proofs.Crossing.{crosses}
use Rattle.node_sends.proofs.AppTable as app_table
use Rattle.node_sends.proofs.ErlTerm as erl_term
use Rattle.node_sends.proofs.LowInstructions as low_instructions
use Rattle.node_sends.proofs.ReleaseStatuses as release_statuses
use Rattle.node_sends.proofs.ScriptState as script_state
use Rattle.process_table.proofs.states.Resumed.TheSendSync as resumed
use Rattle.release_words.proofs.version.Version.TheSendSync as version
use Rattle.script_ends.specs.contracts.ending.Abandoned as Abandoned
use Rattle.script_ends.specs.contracts.ending.Finish as Finish
use Rattle.script_ends.specs.contracts.ending.Recovery as Recovery
use Rattle.values.proofs.row.Row.TheSendSync as row

pub finish_send : IsSend Finish.the_row
finish_send = declared_send Finish.the_type (
  script_state.runner_send,
  (
    search (
      resumed.the_send,
      row.the_send,
      crosses,
      sendable,
    ) depth 60 fits 20000,
    (release_statuses.undo_send, tt),
  ),
)

pub finish_sync : IsSync Finish.the_row
finish_sync = declared_sync Finish.the_type (
  script_state.runner_sync,
  (
    search (
      resumed.the_sync,
      row.the_sync,
      crosses,
      sendable,
    ) depth 60 fits 20000,
    (release_statuses.undo_sync, tt),
  ),
)

pub abandoned_send : IsSend Abandoned.the_row
abandoned_send = declared_send Abandoned.the_type (
  version.the_send,
  (
    version.the_send,
    (
      erl_term.term_send,
      (
        search (low_instructions.low_send, row.the_send, crosses, sendable) depth 60 fits 20000,
        (
          script_state.progress_send,
          tt,
        ),
      ),
    ),
  ),
)

pub abandoned_sync : IsSync Abandoned.the_row
abandoned_sync = declared_sync Abandoned.the_type (
  version.the_sync,
  (
    version.the_sync,
    (
      erl_term.term_sync,
      (
        search (low_instructions.low_sync, row.the_sync, crosses, sendable) depth 60 fits 20000,
        (
          script_state.progress_sync,
          tt,
        ),
      ),
    ),
  ),
)

pub recovery_send : IsSend Recovery.the_row
recovery_send = declared_send Recovery.the_type (abandoned_send, (app_table.put_back_send, tt))

pub recovery_sync : IsSync Recovery.the_row
recovery_sync = declared_sync Recovery.the_type (abandoned_sync, (app_table.put_back_sync, tt))
