-- Why an event is refused, as it is told without memory.
use Rattle.std.proofs.Common.{◌≡◌, ℕ, Bool, List, Option, None, Some, Err, MatchOption, option_map, refl, sym, ap, subst}
use Rattle.std.proofs.lemmas.Option.{none-some}
use Rattle.install_checks.specs.declared.installing.InstallError.{InstallError}
use Rattle.low_instructions.specs.declared.low.Low.{Low}
use Rattle.release_statuses.specs.declared.error.RelError.{RelError}
use Rattle.release_table.specs.declared.table.Release.{Release}
use Rattle.script_events.proofs.Targets.{known_target}
use Rattle.script_state.specs.Runner.{RunnerState}
use Rattle.script_events.specs.Node.{NodeState, RunsScript}
use Rattle.script_events.specs.Scripts.{Advances, GoesOn, GoesOnBy, Outcome, UnlessInstalling, advance_refused, busy_by, next_in, unless_installing}
use Rattle.node_types.specs.declared.event.Refusal.{Refusal}
use Rattle.node_types.specs.declared.event.Refusal.TheVariants as refusal

-- An advance is refused where somebody has to be waited for.

busy_told : (next : Option Low) (r : Release) (give_up : Bool) (s : RunnerState) (n : NodeState) (o : Option ℕ) → busy_by next give_up s n ≡ o → MatchOption (option_map refusal.Busy o) (option_map refusal.Busy (busy_by next give_up s n) ≡ None) (λ (it : Refusal). GoesOnBy next r give_up s n (Err it))
busy_told next r give_up s n None is = ap (option_map refusal.Busy) is
busy_told None r give_up s n (Some pid) is = absurd (none-some pid is)
busy_told (Some i) r give_up s n (Some pid) is = is

busy_same : (next : Option Low) (r : Release) (give_up : Bool) (s : RunnerState) (n : NodeState) → MatchOption (option_map refusal.Busy (busy_by next give_up s n)) (option_map refusal.Busy (busy_by next give_up s n) ≡ None) (λ (it : Refusal). GoesOnBy next r give_up s n (Err it))
busy_same next r give_up s n = busy_told next r give_up s n (busy_by next give_up s n) refl

pub advance_told : (give_up : Bool) (n : NodeState) (o : Option RunnerState) → RunsScript o n.releases n.apps → MatchOption (advance_refused give_up o n) (advance_refused give_up o n ≡ None) (λ (it : Refusal). Advances give_up o n (Err it))
advance_told give_up n None runs = refl
advance_told give_up n (Some s) runs =
    let (r, at) = known_target s n runs.known in
    subst (λ (t : Option Release). MatchOption (option_map refusal.Busy (busy_by (next_in s) give_up s n)) (option_map refusal.Busy (busy_by (next_in s) give_up s n) ≡ None) (λ (it : Refusal). GoesOn t give_up s n (Err it)))
    (sym at) (busy_same (next_in s) r give_up s n)

-- Others are refused while a script runs, and else for their own reason.

pub idle_told : (o : Option RunnerState) (IsOutcome : Outcome → Type 0) (MayWant : Type 0) (e : Option Refusal) → MatchOption e MayWant (λ (it : Refusal). IsOutcome (Err it)) → MatchOption (unless_installing o e) ((o ≡ None) × MayWant) (λ (it : Refusal). UnlessInstalling o IsOutcome (Err it))
idle_told None IsOutcome MayWant None told = (refl, told)
idle_told None IsOutcome MayWant (Some e) told = told
idle_told (Some s) IsOutcome MayWant e told = refl

pub only_idle : (o : Option RunnerState) (IsOutcome : Outcome → Type 0) → MatchOption (unless_installing o None) (o ≡ None) (λ (it : Refusal). UnlessInstalling o IsOutcome (Err it))
only_idle None IsOutcome = refl
only_idle (Some s) IsOutcome = refl

pub one_of : {E : Type 0} (of : E → Refusal) (o : Option E) → MatchOption (option_map of o) (o ≡ None) (λ (it : Refusal). (e : E) × (o ≡ Some e) × (it ≡ of e))
one_of of None = refl
one_of of (Some e) = (e, refl, refl)

pub itself : (o : Option Refusal) → MatchOption o (o ≡ None) (λ (it : Refusal). o ≡ Some it)
itself None = refl
itself (Some e) = refl

-- told as another, which is the same
pub told_as : (r e : Option Refusal) (MayWant : Type 0) (IsOutcome : Refusal → Type 0) → r ≡ e → MatchOption e MayWant IsOutcome → MatchOption r MayWant IsOutcome
told_as r e MayWant IsOutcome is told = subst (λ (x : Option Refusal). MatchOption x MayWant IsOutcome) (sym is) told
