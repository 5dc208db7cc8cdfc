-- What an instruction that was carried out has come to, and what is told of it.
use Rattle.std.specs.Prelude.{◌≡◌, ℕ, ◌+◌, Bool, List, None, Some, Result, Ok, Err, replicate}
use Rattle.low_instructions.specs.declared.low.Low.{Low}
use Rattle.process_effects.specs.declared.told.Reply.{Reply}
use Rattle.release_table.specs.declared.table.Release.{Release}
use Rattle.script_runner.specs.Instructions.{RunsInstruction, busy_of}
use Rattle.script_runner.specs.Parts.{Parts}
use Rattle.script_runner.specs.Undo.{TakesBack}
use Rattle.script_state.specs.declared.runner.Runner.{Runner}
use Rattle.script_steps.specs.Steps.{ScriptState, Stops, next_of}
use Rattle.script_steps.specs.declared.stepping.NoStep.{NoStep}
use Rattle.values.specs.declared.failure.Failure.{Failure}
use Rattle.values.specs.declared.failure.Failure.TheVariants.{Refused, Memory}
use Rattle.node_parts.specs.Scripts.{reporting}
use Rattle.script_events.specs.declared.carrying.CarriedOn.{CarriedOn}
use Rattle.node_types.specs.declared.event.Answer.TheVariants as answer

-- the script of a runner, over parts of a node
abbrev pub script_of : Runner → Parts → ScriptState
script_of r parts = record { parts = parts; script = r.script; next = r.progress.next }

pub record IsCarriedOn (r : Release) (give_up : Bool) (n : ℕ) (s after : ScriptState) (it : CarriedOn) : Type 0 where
  pub instruction : Low
  pub next : next_of s ≡ Some instruction
  pub waits : busy_of give_up instruction s.parts ≡ None
  pub told : List Reply
  pub does : RunsInstruction r instruction s.parts after.parts told
  pub tells : it.told.items ≡ replicate n (record { answer = answer.Ran instruction; note = reporting told })
  pub back : TakesBack it.undo s.parts after.parts
  pub script : after.script ≡ s.script
  pub goes_on : after.next ≡ s.next + 1

-- or the script doesn't go on, and all is as it was
abbrev pub IsHalted : Failure NoStep → Release → Bool → ScriptState → ScriptState → Type 0
IsHalted (Refused stop) r give_up s after = Stops stop r give_up s (next_of s) × (after ≡ s)
IsHalted Memory r give_up s after = after ≡ s

abbrev pub CarriesOnOrStops : Release → Bool → ℕ → ScriptState → ScriptState → Result CarriedOn (Failure NoStep) → Type 0
CarriesOnOrStops r give_up n s after (Ok it) = IsCarriedOn r give_up n s after it
CarriesOnOrStops r give_up n s after (Err failure) = IsHalted failure r give_up s after
