-- What of script_state may go to another thread.
use denote.Param.Send.{IsSend, IsSync, sendable}
use denote.Param.SendFields.{declared_send, declared_sync}
use Rattle.std.proofs.Crossing.{crosses}
use Rattle.erl_term.proofs.atom.Atom.TheSendSync as atom
use Rattle.node_sends.proofs.AppTable as app_table
use Rattle.node_sends.proofs.ErlTerm as erl_term
use Rattle.node_sends.proofs.LowInstructions as low_instructions
use Rattle.release_words.proofs.version.Version.TheSendSync as version
use Rattle.script_state.specs.contracts.noted.NotedVersion as NotedVersion
use Rattle.script_state.specs.contracts.runner.Progress as Progress
use Rattle.script_state.specs.contracts.runner.Runner as Runner
use Rattle.values.proofs.row.Row.TheSendSync as row

pub noted_version_send : IsSend NotedVersion.the_row
noted_version_send = declared_send NotedVersion.the_type (
  atom.the_send,
  (
    search (
      erl_term.term_send,
      crosses,
      sendable,
    ) depth 60 fits 20000,
    (search (erl_term.term_send, crosses, sendable) depth 60 fits 20000, tt),
  ),
)

pub noted_version_sync : IsSync NotedVersion.the_row
noted_version_sync = declared_sync NotedVersion.the_type (
  atom.the_sync,
  (
    search (
      erl_term.term_sync,
      crosses,
      sendable,
    ) depth 60 fits 20000,
    (search (erl_term.term_sync, crosses, sendable) depth 60 fits 20000, tt),
  ),
)

pub progress_send : IsSend Progress.the_row
progress_send = declared_send Progress.the_type (
  search sendable,
  (
    search (crosses, sendable) depth 60 fits 20000,
    (
      search (app_table.child_name_send, crosses, sendable) depth 60 fits 20000,
      (
        search (
          noted_version_send,
          crosses,
          sendable,
        ) depth 60 fits 20000,
        tt,
      ),
    ),
  ),
)

pub progress_sync : IsSync Progress.the_row
progress_sync = declared_sync Progress.the_type (
  search sendable,
  (
    search (crosses, sendable) depth 60 fits 20000,
    (
      search (app_table.child_name_sync, crosses, sendable) depth 60 fits 20000,
      (
        search (
          noted_version_sync,
          crosses,
          sendable,
        ) depth 60 fits 20000,
        tt,
      ),
    ),
  ),
)

pub runner_send : IsSend Runner.the_row
runner_send = declared_send Runner.the_type (
  version.the_send,
  (
    version.the_send,
    (
      erl_term.term_send,
      (
        search (low_instructions.low_send, row.the_send, crosses, sendable) depth 60 fits 20000,
        (
          app_table.former_specs_send,
          (progress_send, tt),
        ),
      ),
    ),
  ),
)

pub runner_sync : IsSync Runner.the_row
runner_sync = declared_sync Runner.the_type (
  version.the_sync,
  (
    version.the_sync,
    (
      erl_term.term_sync,
      (
        search (low_instructions.low_sync, row.the_sync, crosses, sendable) depth 60 fits 20000,
        (
          app_table.former_specs_sync,
          (progress_sync, tt),
        ),
      ),
    ),
  ),
)
