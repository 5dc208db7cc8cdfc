-- An instruction is carried out, or isn't.
use Rattle.std.specs.Prelude.{◌≡◌, ℕ, Bool, List, None, Result, Ok, Err, replicate}
use Rattle.low_instructions.specs.declared.low.Low.{Low}
use Rattle.process_effects.specs.declared.told.Reply.{Reply}
use Rattle.release_table.specs.declared.table.Release.{Release}
use Rattle.script_runner.specs.Instructions.{RunsInstruction, Halts, MayRunOut, busy_of}
use Rattle.script_runner.specs.Parts.{Parts}
use Rattle.script_runner.specs.Undo.{TakesBack}
use Rattle.script_runner.specs.declared.carrying.Carried.{Carried}
use Rattle.script_runner.specs.declared.halt.Halt.{Halt}
use Rattle.values.specs.declared.failure.Failure.{Failure}
use Rattle.values.specs.declared.failure.Failure.TheVariants.{Refused, Memory}

-- It does what the rules say, clients are told so, in `n` equal values, and what takes it back gives the parts before. Nobody
-- has to be waited for then.
pub record IsCarriedOut (r : Release) (give_up : Bool) (i : Low) (n : ℕ) (p q : Parts) (it : Carried) : Type 0 where
  pub waits : busy_of give_up i p ≡ None
  pub told : List Reply
  pub does : RunsInstruction r i p q told
  pub tells : it.told.items ≡ replicate n told
  pub back : TakesBack it.undo p q

-- Or the parts are as they were: it is halted, or memory is wanting, where nothing stands against it that is told without memory.

abbrev pub IsHalted : Failure Halt → Release → Bool → Low → Parts → Parts → Type 0
IsHalted (Refused halt) r give_up i p q = Halts halt r give_up i p × (q ≡ p)
IsHalted Memory r give_up i p q = MayRunOut r give_up i p × (q ≡ p)

abbrev pub Carries : Release → Bool → Low → ℕ → Parts → Parts → Result Carried (Failure Halt) → Type 0
Carries r give_up i n p q (Ok it) = IsCarriedOut r give_up i n p q it
Carries r give_up i n p q (Err failure) = IsHalted failure r give_up i p q
