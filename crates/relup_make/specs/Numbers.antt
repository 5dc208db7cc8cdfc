-- Instructions as numbers: a module is numbered by its first index among those that the entry's instructions are on. What is
-- on no module has the number behind them, which nobody names.
use Rattle.std.specs.Prelude.{ℕ, length, filter_map, option_and_then, unwrap_or}
use Rattle.dependency_order.specs.declared.vertex.Vertex.{Vertex}
use Rattle.high_instructions.specs.Forms.{Names}
use Rattle.instructions.specs.declared.instruction.Instruction.{Instruction}
use Rattle.relup_make.specs.Dependencies.{dependencies_of, module_of}
use Rattle.relup_make.specs.Indexes.{index_of}

abbrev pub number : Names → Instruction → ℕ
number modules i = unwrap_or (option_and_then (λ m. index_of 0 m modules) (module_of i)) (length modules)

abbrev pub numbered : Names → Instruction → Vertex
numbered modules i = record {
  «module» = number modules i;
  dependencies = filter_map (λ name. index_of 0 name modules) (dependencies_of i);
}
