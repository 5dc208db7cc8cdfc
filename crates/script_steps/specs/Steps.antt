-- One step of a script: its next instruction is carried out (release_handler(3), install_release/1; relup(4)).
use Rattle.std.specs.Prelude.{◌≡◌, ℕ, ◌+◌, Bool, false, true, List, Option, None, Some, Result, Ok, Err, replicate, slice_get, take}
use Rattle.low_instructions.specs.declared.low.Low.{Low}
use Rattle.process_effects.specs.declared.told.Reply.{Reply}
use Rattle.release_table.specs.declared.table.Release.{Release}
use Rattle.script_checks.specs.Checks.{has_point}
use Rattle.script_runner.specs.Instructions.{RunsInstruction, Fails, IsAtEnd, MayRunOut, busy_of}
use Rattle.script_runner.specs.Parts.{Parts}
use Rattle.script_runner.specs.Undo.{TakesBack}
use Rattle.script_runner.specs.declared.halt.Halt.{Halt}
use Rattle.script_runner.specs.declared.halt.Halt.TheVariants as halt
use Rattle.script_steps.specs.declared.stepping.Stepped.{Stepped}
use Rattle.script_steps.specs.declared.stepping.Side.{Side}
use Rattle.script_steps.specs.declared.stepping.Side.TheVariants.{Before, Behind}
use Rattle.script_steps.specs.declared.stepping.NoStep.{NoStep}
use Rattle.script_steps.specs.declared.stepping.NoStep.TheVariants.{AtEnd, Busy, Failed, CounterEnd}
use Rattle.values.specs.declared.failure.Failure.{Failure}
use Rattle.values.specs.declared.failure.Failure.TheVariants.{Refused, Memory}

-- The parts of a node, the script, and the index of its next instruction.
pub record ScriptState : Type 0 where
  pub parts : Parts
  pub script : List Low
  pub next : ℕ

-- the instruction that is next, if one is left
abbrev pub next_of : ScriptState → Option Low
next_of s = slice_get s.script s.next

-- An instruction stands behind the point of no return where one of the instructions before it is that point.

abbrev pub side_by : Bool → Side
side_by false = Before
side_by true = Behind

abbrev pub side_of : ScriptState → Side
side_of s = side_by (has_point (take s.next s.script))

-- A step: the next instruction is carried out, clients are told what it tells, in `n` equal values, and the script goes on
-- behind it. What takes it back gives the parts before.
pub record Steps (r : Release) (give_up : Bool) (n : ℕ) (s after : ScriptState) (it : Stepped) : Type 0 where
  pub instruction : Low
  pub next : next_of s ≡ Some instruction
  pub waits : busy_of give_up instruction s.parts ≡ None
  pub told : List Reply
  pub does : RunsInstruction r instruction s.parts after.parts told
  pub tells : it.told.items ≡ replicate n told
  pub back : TakesBack it.undo s.parts after.parts
  pub script : after.script ≡ s.script
  pub goes_on : after.next ≡ s.next + 1

-- Or there is none, and all is as it was: no instruction is left; or the next has to wait, fails, on one side of the point or
-- the other, or can't be counted further. Memory is wanting only where nothing stands against the next that is told without
-- memory.

abbrev pub Stops : NoStep → Release → Bool → ScriptState → Option Low → Type 0
Stops AtEnd r give_up s None = Unit {0}
Stops AtEnd r give_up s (Some i) = ⊥
Stops (Busy pid) r give_up s None = ⊥
Stops (Busy pid) r give_up s (Some i) = busy_of give_up i s.parts ≡ Some pid
Stops (Failed side reason) r give_up s None = ⊥
Stops (Failed side reason) r give_up s (Some i) =
    (busy_of give_up i s.parts ≡ None) × Fails r i s.parts reason × (side ≡ side_of s)
Stops CounterEnd r give_up s None = ⊥
Stops CounterEnd r give_up s (Some i) = (busy_of give_up i s.parts ≡ None) × IsAtEnd r i s.parts

-- what a halted instruction comes to
abbrev pub no_step_of : Side → Halt → NoStep
no_step_of side (halt.Busy pid) = Busy pid
no_step_of side (halt.Failed reason) = Failed side reason
no_step_of side halt.CounterEnd = CounterEnd

abbrev pub MayWant : Release → Bool → ScriptState → Option Low → Type 0
MayWant r give_up s None = ⊥
MayWant r give_up s (Some i) = MayRunOut r give_up i s.parts

abbrev pub IsStopped : Failure NoStep → Release → Bool → ScriptState → ScriptState → Type 0
IsStopped (Refused stop) r give_up s after = Stops stop r give_up s (next_of s) × (after ≡ s)
IsStopped Memory r give_up s after = MayWant r give_up s (next_of s) × (after ≡ s)

abbrev pub StepsOrStops : Release → Bool → ℕ → ScriptState → ScriptState → Result Stepped (Failure NoStep) → Type 0
StepsOrStops r give_up n s after (Ok it) = Steps r give_up n s after it
StepsOrStops r give_up n s after (Err failure) = IsStopped failure r give_up s after
