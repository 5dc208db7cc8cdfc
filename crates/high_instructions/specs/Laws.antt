-- What ties the two tables of high-level instructions, that of the forms and that of their reading.
use Rattle.std.specs.Prelude.{◌≡◌, Bool, true, Option, Some, None}
use Rattle.erl_term.specs.Tree.{Tree}
use Rattle.release_words.specs.Words.{is_timeout}
use Rattle.high_instructions.specs.declared.high.High.{High}
use Rattle.high_instructions.specs.declared.high.High.TheVariants.{Module, Application}
use Rattle.high_instructions.specs.declared.high.ModuleWork.{ModuleWork}
use Rattle.high_instructions.specs.declared.high.ModuleWork.TheVariants.{Update, Load, Add, Delete}
use Rattle.high_instructions.specs.Forms.{IsHigh}
use Rattle.high_instructions.specs.Reading.{high_of}

-- what holds of every `High`: its timeout is above 0
abbrev pub is_work : ModuleWork → Bool
is_work (Update type timeout change pre post) = is_timeout timeout
is_work (Load pre post) = true
is_work Add = true
is_work Delete = true

abbrev pub is_high : High → Bool
is_high (Module i) = is_work i.work
is_high (Application i) = true

-- What a term is read as is what it is written as: an instruction in one of its forms, or else it is none.
abbrev pub HighReads : Tree → Option High → Type 0
HighReads t (Some h) = IsHigh t h × (is_high h ≡ true)
HighReads t None = (h : High) → is_high h ≡ true → IsHigh t h → ⊥

pub record HighTable : Type 0 where
  -- each term is read as what it is
  pub sound : (t : Tree) → HighReads t (high_of t)
  -- and each form of an instruction as that instruction
  pub complete : (t : Tree) (h : High) → is_high h ≡ true → IsHigh t h → high_of t ≡ Some h
