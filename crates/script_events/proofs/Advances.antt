-- The script goes on by an instruction, or is halted before it.
use Rattle.std.proofs.Common.{◌≡◌, ◌∙◌, ◌⊎◌, inl, inr, ℕ, Bool, true, false, List, Option, None, Some, Result, Ok, Err, replicate, slice_get, refl, sym, ap, subst}
use Rattle.app_table.specs.Undo.{Fits}
use Rattle.low_instructions.specs.declared.low.Low.{Low}
use Rattle.release_table.specs.declared.table.Release.{Release}
use Rattle.script_checks.specs.Checks.{has_point}
use Rattle.script_state.specs.Runner.{RunnerState}
use Rattle.script_steps.specs.Steps.{ScriptState, Stops, next_of, side_by}
use Rattle.script_steps.specs.declared.stepping.NoStep.{NoStep}
use Rattle.script_steps.specs.declared.stepping.NoStep.TheVariants as no_step
use Rattle.script_steps.specs.declared.stepping.NoStep.TheVariants.{AtEnd, Busy, Failed}
use Rattle.script_steps.specs.declared.stepping.Side.TheVariants.{Before, Behind}
use Rattle.undo_journal.specs.Reversible.{Accepted, Accepts}
use Rattle.undo_journal.specs.declared.reversible.Stepped.{Stepped}
use Rattle.values.specs.declared.failure.Failure.{Failure}
use Rattle.values.specs.declared.failure.Failure.TheVariants.{Refused, Memory}
use Rattle.script_events.specs.Carrying.{IsCarriedOn, IsHalted}
use Rattle.node_parts.specs.Changes.{IsStepOf}
use Rattle.node_parts.specs.Record.{InstructionBack}
use Rattle.script_events.specs.declared.carrying.CarriedOn.{CarriedOn}
use Rattle.node_parts.specs.declared.record.Record.{Record}
use Rattle.node_parts.specs.Node.{IsInstalling, NodeState}
use Rattle.node_parts.specs.Scripts.{Advances, CanHalt, FallBack, FallsBack, GivesUp, GoesOn, GoesOnBy, HaltsAs, Outcome, RefusesAdvance, gone_on, is_past, parts_in, recovered_as, reporting, target_in, with_parts}
use Rattle.node_types.specs.declared.event.Answer.{Answer}
use Rattle.node_types.specs.declared.event.Answer.TheVariants as answer
use Rattle.node_types.specs.Note.{Note}
use Rattle.node_types.specs.declared.event.Refusal.{Refusal}
use Rattle.erl_term.specs.declared.term.Term.{Term}

-- the script of a node that runs one
abbrev pub script_in : RunnerState → NodeState → ScriptState
script_in s n = record { parts = parts_in s n; script = s.script; next = s.progress.next }

-- A step that is made by one rule is made by another that allows as much.
pub by_rule : (P Q : Outcome → Type 0) (V W : Type 0) (k : ℕ) (n after : NodeState) (result : Result (Stepped Answer Note Record) (Failure Refusal)) → ((out : Outcome) → P out → Q out) → (V → W) → IsStepOf P V k n after result → IsStepOf Q W k n after result
by_rule P Q V W k n after (Ok done) f g ((a, ruled, is, told), back) = ((a, f (Ok a) ruled, is, told), back)
by_rule P Q V W k n after (Err (Refused e)) f g (ruled, same) = (f (Err e) ruled, same)
by_rule P Q V W k n after (Err Memory) f g (wants, same) = (g wants, same)

-- On which side of the point of no return an instruction has failed.

before_it : (b : Bool) → Before ≡ side_by b → b ≡ false
before_it false is = refl
before_it true is = let never : ⊥ = cc in absurd never

behind_it : (b : Bool) → Behind ≡ side_by b → b ≡ true
behind_it true is = refl
behind_it false is = let never : ⊥ = cc in absurd never

-- What becomes of a script that doesn't go on is by the rule.
pub halts : (stop : NoStep) (next : Option Low) (r : Release) (give_up : Bool) (s : RunnerState) (n : NodeState) (out : Outcome) → Stops stop r give_up (script_in s n) next → HaltsAs stop s n out → GoesOnBy next r give_up s n out
halts AtEnd None r give_up s n out stops is = is
halts AtEnd (Some i) r give_up s n out stops is = absurd stops
halts (Busy pid) None r give_up s n out stops is = absurd stops
halts (Busy pid) (Some i) r give_up s n out stops is = subst (GoesOnBy (Some i) r give_up s n) (sym is) stops
halts (Failed Before reason) None r give_up s n out stops is = absurd stops
halts (Failed Before reason) (Some i) r give_up s n out (waits, fails, side) is =
    subst (GoesOnBy (Some i) r give_up s n) (sym is) (
      waits,
      inr (record {
        reason = reason;
        fails = fails;
        gives_up = subst (λ b. GivesUp b reason s n (recovered_as reason s n)) (sym (before_it (is_past s) side)) refl;
      }),
    )
halts (Failed Behind reason) None r give_up s n out stops is = absurd stops
halts (Failed Behind reason) (Some i) r give_up s n (Ok a) (waits, fails, side) falls =
    (waits, inr (record { reason = reason; fails = fails; gives_up = subst (λ b. GivesUp b reason s n a) (sym (behind_it (is_past s) side)) falls }))
halts (Failed Behind reason) (Some i) r give_up s n (Err e) (waits, fails, side) (is, lacks) =
    subst (λ x. RefusesAdvance x r give_up i s n) (sym is) (waits, inr (record { reason = reason; fails = fails; past = behind_it (is_past s) side; lacks = lacks }))
halts no_step.CounterEnd None r give_up s n out stops is = absurd stops
halts no_step.CounterEnd (Some i) r give_up s n out (waits, at_end) is = subst (GoesOnBy (Some i) r give_up s n) (sym is) (waits, inl at_end)

-- It can be halted so.
pub can_halt : (stop : NoStep) (next : Option Low) (r : Release) (give_up : Bool) (s : RunnerState) (n : NodeState) → Stops stop r give_up (script_in s n) next → IsInstalling s n.releases n.apps → CanHalt stop s n
can_halt AtEnd next r give_up s n stops kept = kept.known
can_halt (Busy pid) next r give_up s n stops kept = tt
can_halt (Failed Before reason) None r give_up s n stops kept = absurd stops
can_halt (Failed Before reason) (Some i) r give_up s n (waits, fails, side) kept = kept.fits (before_it (is_past s) side)
can_halt (Failed Behind reason) next r give_up s n stops kept = tt
can_halt no_step.CounterEnd next r give_up s n stops kept = tt

-- why it doesn't go on

pub refused_as : (failure : Failure NoStep) (stop : NoStep) (r : Release) (give_up : Bool) (s after : ScriptState) → failure ≡ Refused stop → IsHalted failure r give_up s after → Stops stop r give_up s (next_of s) × (after ≡ s)
refused_as failure stop r give_up s after is halted = subst (λ f. IsHalted f r give_up s after) is halted

pub memory_as : (failure : Failure NoStep) (r : Release) (give_up : Bool) (s after : ScriptState) → failure ≡ Memory → IsHalted failure r give_up s after → after ≡ s
memory_as failure r give_up s after is halted = subst (λ f. IsHalted f r give_up s after) is halted

-- Where it doesn't go on, all is as it was.

pub record IsSame (s now : RunnerState) (n mid : NodeState) : Type 0 where
  pub runner : now ≡ s
  pub node : mid ≡ n

pub stays : (s now : RunnerState) (n mid : NodeState) → now ≡ record s { progress = now.progress } → script_in now mid ≡ script_in s n → mid ≡ record n { modules = mid.modules; processes = mid.processes; apps = mid.apps; runner = Some now } → n.runner ≡ Some s → IsSame s now n mid
stays s now n mid same st is ran =
    let runner : now ≡ s = same ∙ (λ i. record s { progress = record { next = (st i).next; suspended = (st i).parts.suspended; stopped = (st i).parts.stopped; versions = (st i).parts.versions } }) in
    let runs : Some now ≡ n.runner = ap (λ x. Some x) runner ∙ sym ran in
    record {
      runner = runner;
      node = is ∙ (λ i. record n { modules = (st i).parts.modules; processes = (st i).parts.processes; apps = (st i).parts.apps; runner = runs i });
    }

-- The rule of an advance, where a script runs and its release is known.
pub advances : (give_up : Bool) (r : Release) (s : RunnerState) (n : NodeState) (out : Outcome) → n.runner ≡ Some s → target_in s n ≡ Some r → GoesOnBy (slice_get s.script s.progress.next) r give_up s n out → Advances give_up n.runner n out
advances give_up r s n out ran target goes =
    subst (λ o. Advances give_up o n out) (sym ran) (subst (λ t. GoesOn t give_up s n out) (sym target) goes)

-- An instruction is carried out.

pub record IsOneOn (give_up : Bool) (k : ℕ) (s now : RunnerState) (n after : NodeState) (it : CarriedOn) : Type 0 where
  pub accepted : Accepts (Advances give_up n.runner n) after k it.told.items
  pub back : InstructionBack it.undo s now n after

pub one_on : (r : Release) (give_up : Bool) (k : ℕ) (s now : RunnerState) (n after : NodeState) (it : CarriedOn) → IsCarriedOn r give_up k (script_in s n) (script_in now after) it → now ≡ record s { progress = now.progress } → after ≡ record n { modules = after.modules; processes = after.processes; apps = after.apps; runner = Some now } → target_in s n ≡ Some r → n.runner ≡ Some s → IsOneOn give_up k s now n after it
one_on r give_up k s now n after it c same is target ran =
    let q = parts_in now after in
    let a : Accepted NodeState Answer Note = record { node = with_parts q s n; answer = answer.Ran c.instruction; note = reporting c.told } in
    let goes : GoesOnBy (slice_get s.script s.progress.next) r give_up s n (Ok a) =
    subst (λ x. GoesOnBy x r give_up s n (Ok a)) (sym c.next) (c.waits, inl (record { parts = q; told = c.told; does = c.does; is = refl })) in
    let gone : gone_on q s ≡ now = (λ i. record s { progress = record { next = sym c.goes_on i; suspended = now.progress.suspended; stopped = now.progress.stopped; versions = now.progress.versions } }) ∙ sym same in
    let node : with_parts q s n ≡ after = ap (λ x. record n { modules = after.modules; processes = after.processes; apps = after.apps; runner = Some x }) gone ∙ sym is in
    record {
      accepted = (a, advances give_up r s n (Ok a) ran target goes, node, c.tells);
      back = record {
        ran = ran;
        runs = ap (λ (m : NodeState). m.runner) is;
        back = c.back;
        goes_on = same;
        one = c.goes_on;
        releases = ap (λ (m : NodeState). m.releases) is;
      };
    }
