-- What of instructions may go to another thread.
use denote.Param.Send.{IsSend, IsSync}
use denote.Param.SendFields.{variants_send, variants_sync}
use Rattle.instructions.specs.contracts.instruction.Instruction as Instruction
use Rattle.node_sends.proofs.HighInstructions as high_instructions
use Rattle.node_sends.proofs.LowInstructions as low_instructions

pub instruction_send : IsSend Instruction.the_row
instruction_send = variants_send Instruction.enum ((high_instructions.high_send, tt), ((low_instructions.low_send, tt), tt))

pub instruction_sync : IsSync Instruction.the_row
instruction_sync = variants_sync Instruction.enum ((high_instructions.high_sync, tt), ((low_instructions.low_sync, tt), tt))
