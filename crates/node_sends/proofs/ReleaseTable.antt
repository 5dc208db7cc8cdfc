-- What of release_table may go to another thread.
use denote.Param.Send.{IsSend, IsSync, sendable}
use denote.Param.SendFields.{declared_send, declared_sync}
use Rattle.std.proofs.Crossing.{crosses}
use Rattle.node_sends.proofs.ErlForms as erl_ir
use Rattle.node_sends.proofs.ErlTerm as erl_term
use Rattle.node_sends.proofs.Instructions as instructions
use Rattle.node_sends.proofs.LowInstructions as low_instructions
use Rattle.node_sends.proofs.OtpFiles as otp_files
use Rattle.otp_files.proofs.rel.RelSpec.TheSendSync as rel_spec
use Rattle.otp_files.proofs.upgrade.Upgrades.TheSendSync as upgrades
use Rattle.release_table.specs.contracts.table.AppFiles as AppFiles
use Rattle.release_table.specs.contracts.table.Release as Release
use Rattle.values.proofs.row.Row.TheSendSync as row

pub app_files_send : IsSend AppFiles.the_row
app_files_send = declared_send AppFiles.the_type (
  otp_files.app_spec_send,
  (
    search (
      instructions.instruction_send,
      upgrades.the_send,
      crosses,
      sendable,
    ) depth 60 fits 20000,
    (
      search (
        erl_ir.module_send,
        row.the_send,
        crosses,
        sendable,
      ) depth 60 fits 20000,
      tt,
    ),
  ),
)

pub app_files_sync : IsSync AppFiles.the_row
app_files_sync = declared_sync AppFiles.the_type (
  otp_files.app_spec_sync,
  (
    search (
      instructions.instruction_sync,
      upgrades.the_sync,
      crosses,
      sendable,
    ) depth 60 fits 20000,
    (
      search (
        erl_ir.module_sync,
        row.the_sync,
        crosses,
        sendable,
      ) depth 60 fits 20000,
      tt,
    ),
  ),
)

pub release_send : IsSend Release.the_row
release_send = declared_send Release.the_type (
  rel_spec.the_send,
  (
    search (
      erl_term.term_send,
      low_instructions.low_send,
      upgrades.the_send,
      crosses,
      sendable,
    ) depth 60 fits 20000,
    (
      search (
        app_files_send,
        row.the_send,
        crosses,
        sendable,
      ) depth 60 fits 20000,
      tt,
    ),
  ),
)

pub release_sync : IsSync Release.the_row
release_sync = declared_sync Release.the_type (
  rel_spec.the_sync,
  (
    search (
      erl_term.term_sync,
      low_instructions.low_sync,
      upgrades.the_sync,
      crosses,
      sendable,
    ) depth 60 fits 20000,
    (
      search (
        app_files_sync,
        row.the_sync,
        crosses,
        sendable,
      ) depth 60 fits 20000,
      tt,
    ),
  ),
)
