-- What of script_runner may go to another thread.
use denote.Param.Send.{IsSend, IsSync, sendable}
use denote.Param.SendFields.{variants_send, variants_sync}
use Rattle.node_sends.proofs.CodeChanges as code_changes
use Rattle.node_sends.proofs.CodeReplacement as code_replacement
use Rattle.node_sends.proofs.ScriptChildren as script_children
use Rattle.script_runner.specs.contracts.undo.InstructionUndo as InstructionUndo
use Rattle.suspensions.proofs.suspending.ResumeUndo.TheSendSync as resume_undo

pub undo_send : IsSend InstructionUndo.the_row
undo_send = variants_send InstructionUndo.enum (
  tt,
  (
    (search sendable, tt),
    (
      (code_replacement.undo_send, tt),
      (
        (code_replacement.purges_send, tt),
        (
          (search sendable, tt),
          (
            (resume_undo.the_send, tt),
            ((code_changes.code_change_undo_send, tt), ((script_children.undo_send, (search sendable, tt)), tt)),
          ),
        ),
      ),
    ),
  ),
)

pub undo_sync : IsSync InstructionUndo.the_row
undo_sync = variants_sync InstructionUndo.enum (
  tt,
  (
    (search sendable, tt),
    (
      (code_replacement.undo_sync, tt),
      (
        (code_replacement.purges_sync, tt),
        (
          (search sendable, tt),
          (
            (resume_undo.the_sync, tt),
            ((code_changes.code_change_undo_sync, tt), ((script_children.undo_sync, (search sendable, tt)), tt)),
          ),
        ),
      ),
    ),
  ),
)
