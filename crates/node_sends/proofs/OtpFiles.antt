-- What of otp_files may go to another thread.
use denote.Param.Send.{IsSend, IsSync, sendable}
use denote.Param.SendFields.{declared_send, declared_sync}
use Rattle.std.proofs.Crossing.{crosses}
use Rattle.erl_term.proofs.atom.Atom.TheSendSync as atom
use Rattle.node_sends.proofs.ErlTerm as erl_term
use Rattle.otp_files.specs.contracts.app.AppSpec as AppSpec
use Rattle.otp_files.specs.contracts.app.StartModule as StartModule
use Rattle.release_words.proofs.version.Version.TheSendSync as version
use Rattle.values.proofs.row.Row.TheSendSync as row

pub start_module_send : IsSend StartModule.the_row
start_module_send = declared_send StartModule.the_type (atom.the_send, (erl_term.term_send, tt))

pub start_module_sync : IsSync StartModule.the_row
start_module_sync = declared_sync StartModule.the_type (atom.the_sync, (erl_term.term_sync, tt))

pub app_spec_send : IsSend AppSpec.the_row
app_spec_send = declared_send AppSpec.the_type (
  atom.the_send,
  (
    version.the_send,
    (
      search (
        atom.the_send,
        row.the_send,
        crosses,
        sendable,
      ) depth 60 fits 20000,
      (
        search (atom.the_send, row.the_send, crosses, sendable) depth 60 fits 20000,
        (search (start_module_send, crosses, sendable) depth 60 fits 20000, tt),
      ),
    ),
  ),
)

pub app_spec_sync : IsSync AppSpec.the_row
app_spec_sync = declared_sync AppSpec.the_type (
  atom.the_sync,
  (
    version.the_sync,
    (
      search (
        atom.the_sync,
        row.the_sync,
        crosses,
        sendable,
      ) depth 60 fits 20000,
      (
        search (atom.the_sync, row.the_sync, crosses, sendable) depth 60 fits 20000,
        (search (start_module_sync, crosses, sendable) depth 60 fits 20000, tt),
      ),
    ),
  ),
)
