-- What ties two tables of instructions, that of the forms and that of their reading.
use Rattle.std.specs.Prelude.{◌≡◌, Bool, true, Result, Ok, Err}
use Rattle.erl_term.specs.Tree.{Tree}
use Rattle.release_words.specs.declared.fault.InstructionFault.{InstructionFault}
use Rattle.release_words.specs.declared.fault.InstructionFault.TheVariants.{Bad, OutOfProfile}

-- What a term is read as is what it is written as: an instruction in one of its forms, or one of those that are out of
-- the profile, or else it is none.
abbrev pub ReadsAs : {I : Type 0} → (Tree → I → Type 0) → (I → Bool) → (Tree → Type 0) → Tree →
    Result I InstructionFault → Type 0
ReadsAs IsForm is_so IsOut t (Ok i) = IsForm t i × (is_so i ≡ true)
ReadsAs IsForm is_so IsOut t (Err Bad) = (IsOut t → ⊥) × ((i : _) → is_so i ≡ true → IsForm t i → ⊥)
ReadsAs IsForm is_so IsOut t (Err OutOfProfile) = IsOut t

-- Given the forms of instructions, what holds of each instruction, and the terms that are out of the profile
pub record Table {I : Type 0} (IsForm : Tree → I → Type 0) (is_so : I → Bool) (IsOut : Tree → Type 0)
    (read : Tree → Result I InstructionFault) : Type 0 where
  -- each term is read as what it is
  pub sound : (t : Tree) → ReadsAs IsForm is_so IsOut t (read t)
  -- and each form of an instruction as that instruction
  pub complete : (t : Tree) (i : I) → is_so i ≡ true → IsForm t i → read t ≡ Ok i
