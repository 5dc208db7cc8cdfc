-- An instruction of the script that was carried out, and what is told of it.
use Rattle.std.proofs.Common.{◌≡◌, ◌∙◌, ℕ, Bool, List, None, Some, replicate, slice_get, refl, sym, ap, subst}
use Rattle.std.proofs.lemmas.Option.{same_Some}
use Rattle.low_instructions.specs.declared.low.Low.{Low}
use Rattle.process_effects.specs.declared.told.Reply.{Reply}
use Rattle.release_table.specs.declared.table.Release.{Release}
use Rattle.script_runner.specs.Instructions.{RunsInstruction, busy_of}
use Rattle.script_runner.specs.Parts.{Parts}
use Rattle.script_runner.specs.Undo.{TakesBack}
use Rattle.script_runner.specs.declared.undo.InstructionUndo.{InstructionUndo}
use Rattle.script_steps.specs.Steps.{Steps}
use Rattle.script_steps.specs.declared.stepping.Stepped.{Stepped}
use Rattle.script_events.specs.Carrying.{IsCarriedOn}
use Rattle.script_events.specs.declared.carrying.CarriedOn.{CarriedOn}
use Rattle.node_parts.specs.Scripts.{reporting}
use Rattle.node_types.specs.declared.event.Answer.TheVariants as answer

pub carried : (r : Release) (give_up : Bool) (n : ℕ) (p q : Parts) (script slice : List Low) (next last : ℕ) (made : Stepped) (it : CarriedOn) (i : Low) →
    slice ≡ script → Steps r give_up n (record { parts = p; script = slice; next = next }) (record { parts = q; script = slice; next = last }) made →
    slice_get slice next ≡ Some i → it.undo ≡ made.undo →
    ((told : List Reply) → made.told.items ≡ replicate n told → it.told.items ≡ replicate n (record { answer = answer.Ran i; note = reporting told })) →
    IsCarriedOn r give_up n (record { parts = p; script = script; next = next }) (record { parts = q; script = script; next = last }) it
carried r give_up n p q script slice next last made it i same steps at undo tells =
    let one : steps.instruction ≡ i = same_Some steps.instruction i (sym steps.next ∙ at) in
    record {
      instruction = i;
      next = ap (λ (is : List Low). slice_get is next) (sym same) ∙ at;
      waits = subst (λ (x : Low). busy_of give_up x p ≡ None) one steps.waits;
      told = steps.told;
      does = subst (λ (x : Low). RunsInstruction r x p q steps.told) one steps.does;
      tells = tells steps.told steps.tells;
      back = subst (λ (u : InstructionUndo). TakesBack u p q) (sym undo) steps.back;
      script = refl;
      goes_on = steps.goes_on;
    }
