-- Changes of state of modules of one kind, or of both.
use Rattle.std.specs.Prelude.{Bool, true, if◌then◌else◌, Option, None, Some, option_and_then}
use Rattle.low_instructions.specs.declared.modules.ModuleChange.{ModuleChange}
use Rattle.high_instructions.specs.declared.words.ModuleType.{ModuleType}
use Rattle.instructions.specs.declared.instruction.Instruction.{Instruction}
use Rattle.relup_make.specs.Parts.{change_of, is_kind}

-- of one kind, or of both where none is given
abbrev pub is_wanted : Option ModuleType → ModuleType → Bool
is_wanted None type = true
is_wanted (Some wanted) type = is_kind type wanted

abbrev pub change_for : Option ModuleType → Instruction → Option ModuleChange
change_for kind i = option_and_then (λ c. if is_wanted kind c.0 then Some c.1 else None) (change_of i)
