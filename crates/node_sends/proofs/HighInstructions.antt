-- What of high_instructions may go to another thread.
use denote.Param.Send.{IsSend, IsSync, sendable}
use denote.Param.SendFields.{declared_send, declared_sync, variants_send, variants_sync}
use Rattle.std.proofs.Crossing.{crosses}
use Rattle.erl_term.proofs.atom.Atom.TheSendSync as atom
use Rattle.high_instructions.proofs.high.ApplicationInstruction.TheSendSync as application_instruction
use Rattle.high_instructions.proofs.words.ModuleType.TheSendSync as module_type
use Rattle.high_instructions.specs.contracts.high.High as High
use Rattle.high_instructions.specs.contracts.high.ModuleInstruction as ModuleInstruction
use Rattle.high_instructions.specs.contracts.high.ModuleWork as ModuleWork
use Rattle.high_instructions.specs.contracts.words.Change as Change
use Rattle.node_sends.proofs.ErlTerm as erl_term
use Rattle.release_words.proofs.purge.Purge.TheSendSync as purge
use Rattle.release_words.proofs.timeout.Timeout.TheSendSync as timeout
use Rattle.values.proofs.row.Row.TheSendSync as row

pub change_send : IsSend Change.the_row
change_send = variants_send Change.enum (tt, ((erl_term.term_send, tt), tt))

pub change_sync : IsSync Change.the_row
change_sync = variants_sync Change.enum (tt, ((erl_term.term_sync, tt), tt))

pub module_work_send : IsSend ModuleWork.the_row
module_work_send = variants_send ModuleWork.enum (
  (
    module_type.the_send,
    (
      timeout.the_send,
      (
        change_send,
        (
          purge.the_send,
          (purge.the_send, tt),
        ),
      ),
    ),
  ),
  ((purge.the_send, (purge.the_send, tt)), (tt, (tt, tt))),
)

pub module_work_sync : IsSync ModuleWork.the_row
module_work_sync = variants_sync ModuleWork.enum (
  (
    module_type.the_sync,
    (
      timeout.the_sync,
      (
        change_sync,
        (
          purge.the_sync,
          (purge.the_sync, tt),
        ),
      ),
    ),
  ),
  ((purge.the_sync, (purge.the_sync, tt)), (tt, (tt, tt))),
)

pub module_instruction_send : IsSend ModuleInstruction.the_row
module_instruction_send = declared_send ModuleInstruction.the_type (
  atom.the_send,
  (
    module_work_send,
    (search (atom.the_send, row.the_send, crosses, sendable) depth 60 fits 20000, tt),
  ),
)

pub module_instruction_sync : IsSync ModuleInstruction.the_row
module_instruction_sync = declared_sync ModuleInstruction.the_type (
  atom.the_sync,
  (
    module_work_sync,
    (search (atom.the_sync, row.the_sync, crosses, sendable) depth 60 fits 20000, tt),
  ),
)

pub high_send : IsSend High.the_row
high_send = variants_send High.enum ((module_instruction_send, tt), ((application_instruction.the_send, tt), tt))

pub high_sync : IsSync High.the_row
high_sync = variants_sync High.enum ((module_instruction_sync, tt), ((application_instruction.the_sync, tt), tt))
