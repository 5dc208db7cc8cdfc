-- The law of the instructions of an appup, from those of the two levels: no term is written as both.
use Rattle.std.proofs.Common.{◌≡◌, true, Option, Some, None, Result, Ok, Err, refl, ap, ◌∙◌}
use Rattle.erl_term.specs.Tree.{Tree}
use Rattle.release_words.specs.declared.fault.InstructionFault.{InstructionFault}
use Rattle.release_words.specs.declared.fault.InstructionFault.TheVariants.{Bad, OutOfProfile}
use Rattle.low_instructions.specs.declared.low.Low.{Low}
use Rattle.low_instructions.specs.declared.low.Low.TheVariants.{LoadObjectCode, PointOfNoReturn, Load, Remove, Purge, Suspend, Resume, CodeChange, Stop, Start, Apply}
use Rattle.low_instructions.specs.declared.modules.Direction.TheVariants.{Up, Down}
use Rattle.low_instructions.specs.Forms.{IsLow, low_tree, printed, undirected, suspending}
use Rattle.low_instructions.specs.Laws.{LowReads, LowTable}
use Rattle.low_instructions.specs.Reading.{low_result}
use Rattle.high_instructions.specs.declared.high.High.{High}
use Rattle.high_instructions.specs.Laws.{HighReads, HighTable}
use Rattle.high_instructions.specs.Reading.{high_of}
use Rattle.instructions.specs.declared.instruction.Instruction.{Instruction}
use Rattle.instructions.specs.declared.instruction.Instruction.TheVariants as levels
use Rattle.instructions.specs.Instructions.{IsInstruction, InstructionReads, InstructionTable, instruction_result, is_instruction, of_high, of_low}

-- no form of a low-level instruction begins as one of a high-level one

printed_not_high : (l : Low) → high_of (low_tree l) ≡ None
unfolding high_of
printed_not_high (LoadObjectCode application version modules) = refl
printed_not_high PointOfNoReturn = refl
printed_not_high (Load name pre post) = refl
printed_not_high (Remove name pre post) = refl
printed_not_high (Purge modules) = refl
printed_not_high (Suspend modules) = refl
printed_not_high (Resume modules) = refl
printed_not_high (CodeChange Up changes) = refl
printed_not_high (CodeChange Down changes) = refl
printed_not_high (Stop modules) = refl
printed_not_high (Start modules) = refl
printed_not_high (Apply name function arguments) = refl

low_not_high : (t : Tree) (l : Low) → IsLow t l → high_of t ≡ None
unfolding high_of
low_not_high t l (printed is) = ap high_of is ∙ printed_not_high l
low_not_high t l (undirected changes is means) = ap high_of is
low_not_high t l (suspending modules is means) = ap high_of is

-- What is read is what it is

joined : (t : Tree) (r : Option High) (s : Result Low InstructionFault) → HighReads t r → LowReads t s → InstructionReads t (of_high r s)
joined t (Some h) s high low = high
joined t None (Ok l) high low = low
joined t None (Err OutOfProfile) high low = low
joined t None (Err Bad) high low = (low.0, no_form)
  where
    no_form : (i : Instruction) → is_instruction i ≡ true → IsInstruction t i → ⊥
    no_form (levels.High h) fine is = high h fine is
    no_form (levels.Low l) fine is = low.1 l fine is

-- and each form is read as its instruction

complete : HighTable → LowTable → (t : Tree) (i : Instruction) → is_instruction i ≡ true → IsInstruction t i → instruction_result t ≡ Ok i
unfolding instruction_result
complete high low t (levels.High h) fine is = ap (λ r. of_high r (low_result t)) (high.complete t h fine is)
complete high low t (levels.Low l) fine is =
    ap (λ r. of_high r (low_result t)) (low_not_high t l is) ∙ ap of_low (low.complete t l fine is)

pub table : HighTable → LowTable → InstructionTable
unfolding instruction_result
table high low = record {
  sound = λ t. joined t (high_of t) (low_result t) (high.sound t) (low.sound t);
  complete = complete high low;
}
