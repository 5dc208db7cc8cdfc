-- What an advance tells of the instruction that was carried out is what was made of the next one before.
use Rattle.std.proofs.Common.{◌≡◌, ◌⊎◌, inl, inr, Bool, true, false, Option, None, Some, Ok, refl, sym, ap, subst, ◌∙◌}
use Rattle.std.specs.Prelude.{option_and_then, option_map}
use Rattle.erl_term.specs.Tree.{Tree}
use Rattle.erl_term.specs.declared.term.Term.{Term}
use Rattle.low_instructions.specs.Forms.{low_tree}
use Rattle.low_instructions.specs.declared.low.Low.{Low}
use Rattle.release_table.specs.declared.table.Release.{Release}
use Rattle.script_state.specs.Runner.{RunnerState}
use Rattle.undo_journal.specs.Reversible.{Accepted}
use Rattle.shell_state.specs.Node.{NodeState}
use Rattle.shell_state.specs.Scripts.{Advances, GivesUp, finished_as, GoesOn, GoesOnBy, HasFailed, IsCarriedOut, is_past, next_in, target_in}
use Rattle.shell_state.specs.Step.{Step}
use Rattle.node_types.specs.Note.{Note}
use Rattle.node_types.specs.declared.event.Answer.{Answer}
use Rattle.node_types.specs.declared.event.Answer.TheVariants as tells
use Rattle.node_types.specs.declared.event.Event.TheVariants.{Advance}
use Rattle.shell_state.specs.Performing.{advanced_in}
use Rattle.shell_upgrades.specs.Advancing.{advanced_by, next_of}

-- an answer is told so by the next instruction
abbrev pub ToldBy : Option Low → Answer → Type 0
ToldBy next answer = advanced_by (option_map low_tree next) answer ≡ advanced_in answer

module _ (give_up : Bool) (n : NodeState) (a : Accepted NodeState Answer Note) where
  told_as : (next : Option Low) (answer : Answer) → a.answer ≡ answer → ToldBy next answer → ToldBy next a.answer
  told_as next answer is told = subst (ToldBy next) (sym is) told

  failed : (i : Low) (s : RunnerState) (reason : Term) (past : Bool) → GivesUp past reason s n a → ToldBy (Some i) a.answer
  failed i s reason false gives_up = told_as (Some i) (tells.Recovered reason) (ap (λ (x : Accepted NodeState Answer Note). x.answer) gives_up) refl
  failed i s reason true gives_up = told_as (Some i) (tells.Restarted reason) gives_up.answers refl

  one : (r : Release) (i : Low) (s : RunnerState) → IsCarriedOut r i s n a ⊎ HasFailed r i s n a → ToldBy (Some i) a.answer
  one r i s (inl does) = told_as (Some i) (tells.Ran i) (ap (λ (x : Accepted NodeState Answer Note). x.answer) does.is) refl
  one r i s (inr fails) = failed i s fails.reason (is_past s) fails.gives_up

  by_next : (next : Option Low) (r : Release) (s : RunnerState) → GoesOnBy next r give_up s n (Ok a) → ToldBy next a.answer
  by_next None r s out =
      let same : a.answer ≡ tells.Finished s.other s.description = (let is : a ≡ finished_as s n = cc in ap (λ (x : Accepted NodeState Answer Note). x.answer) is) in
      told_as None (tells.Finished s.other s.description) same refl
  by_next (Some i) r s out = one r i s out.1

  by_target : (target : Option Release) (s : RunnerState) → GoesOn target give_up s n (Ok a) → ToldBy (next_in s) a.answer
  by_target None s out = absurd out
  by_target (Some r) s out = by_next (next_in s) r s out

  by_runner : (runner : Option RunnerState) → Advances give_up runner n (Ok a) → ToldBy (option_and_then next_in runner) a.answer
  by_runner None out = absurd (let never : ⊥ = cc in never)
  by_runner (Some s) out = by_target (target_in s n) s out

  pub advance_told : Step n (Advance give_up) (Ok a) → (next : Option Tree) → next ≡ option_map low_tree (next_of n) → advanced_in a.answer ≡ advanced_by next a.answer
  advance_told rule next is = sym (ap (λ t. advanced_by t a.answer) is ∙ by_runner n.runner rule)
