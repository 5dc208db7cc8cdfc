-- The instructions of an appup, of either level: as they are read and as they are written, and that the two say the same.
use Rattle.std.specs.Prelude.{Bool, Option, Some, None, Result, Ok, Err}
use Rattle.erl_term.specs.Tree.{Tree}
use Rattle.release_words.specs.declared.fault.InstructionFault.{InstructionFault}
use Rattle.release_words.specs.Forms.{ReadsAs, Table}
use Rattle.low_instructions.specs.declared.low.Low.{Low}
use Rattle.low_instructions.specs.Forms.{IsLow}
use Rattle.low_instructions.specs.Laws.{IsOut, is_low}
use Rattle.low_instructions.specs.Reading.{low_result}
use Rattle.high_instructions.specs.declared.high.High.{High}
use Rattle.high_instructions.specs.Forms.{IsHigh}
use Rattle.high_instructions.specs.Laws.{is_high}
use Rattle.high_instructions.specs.Reading.{high_of}
use Rattle.instructions.specs.declared.instruction.Instruction.{Instruction}
use Rattle.instructions.specs.declared.instruction.Instruction.TheVariants as levels

-- As they are read: as high-level ones, else as low-level ones

abbrev pub of_low : Result Low InstructionFault → Result Instruction InstructionFault
of_low (Ok l) = Ok (levels.Low l)
of_low (Err e) = Err e

abbrev pub of_high : Option High → Result Low InstructionFault → Result Instruction InstructionFault
of_high (Some h) low = Ok (levels.High h)
of_high None low = of_low low

unfoldable pub instruction_result : Tree → Result Instruction InstructionFault
instruction_result t = of_high (high_of t) (low_result t)

-- As they are written

abbrev pub IsInstruction : Tree → Instruction → Type 0
IsInstruction t (levels.High h) = IsHigh t h
IsInstruction t (levels.Low l) = IsLow t l

-- what holds of every instruction
abbrev pub is_instruction : Instruction → Bool
is_instruction (levels.High h) = is_high h
is_instruction (levels.Low l) = is_low l

-- out of the profile are low-level instructions alone
abbrev pub InstructionReads : Tree → Result Instruction InstructionFault → Type 0
InstructionReads t read = ReadsAs IsInstruction is_instruction IsOut t read

-- Each term is read as what it is, and each form of an instruction as that instruction; so no term is written as both
abbrev pub InstructionTable : Type 0
InstructionTable = Table IsInstruction is_instruction IsOut instruction_result
