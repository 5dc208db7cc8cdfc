-- What ties the two tables of low-level instructions, that of the forms and that of their reading.
use Rattle.std.specs.Prelude.{◌≡◌, Bool, true, Result}
use Rattle.std.specs.List.{list_all}
use Rattle.erl_term.specs.Tree.{Tree}
use Rattle.release_words.specs.declared.fault.InstructionFault.{InstructionFault}
use Rattle.release_words.specs.Forms.{ReadsAs, Table}
use Rattle.release_words.specs.Words.{is_timeout, is_version}
use Rattle.low_instructions.specs.declared.low.Low.{Low}
use Rattle.low_instructions.specs.declared.low.Low.TheVariants.{LoadObjectCode, PointOfNoReturn, Load, Remove, Purge, Suspend}
use Rattle.low_instructions.specs.declared.low.Low.TheVariants.{Resume, CodeChange, Stop, Start, Apply}
use Rattle.low_instructions.specs.declared.modules.Suspension.{Suspension}
use Rattle.low_instructions.specs.Forms.{IsLow, is_out_of_profile}
use Rattle.low_instructions.specs.Reading.{low_result}

-- what holds of every `Low`: its version is one, and its timeouts are above 0
abbrev pub is_suspension : Suspension → Bool
is_suspension s = is_timeout s.timeout

abbrev pub is_low : Low → Bool
is_low (LoadObjectCode application version modules) = is_version version
is_low PointOfNoReturn = true
is_low (Load name pre post) = true
is_low (Remove name pre post) = true
is_low (Purge modules) = true
is_low (Suspend modules) = list_all is_suspension modules
is_low (Resume modules) = true
is_low (CodeChange direction changes) = true
is_low (Stop modules) = true
is_low (Start modules) = true
is_low (Apply name function arguments) = true

-- the instructions out of the profile
abbrev pub IsOut : Tree → Type 0
IsOut t = is_out_of_profile t ≡ true

abbrev pub LowReads : Tree → Result Low InstructionFault → Type 0
LowReads t read = ReadsAs IsLow is_low IsOut t read

abbrev pub LowTable : Type 0
LowTable = Table IsLow is_low IsOut low_result
