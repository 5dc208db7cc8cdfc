-- An event has one outcome at most.
use Rattle.std.proofs.Common.{◌≡◌, Option, None, Some, sym, ◌∙◌}
use Rattle.node_rules.proofs.ProcessEvents.{one_commit, one_revive, one_take}
use Rattle.node_rules.proofs.ReleaseEvents.{one_permanent, one_sweep}
use Rattle.node_rules.proofs.Restarts.{one_reboot}
use Rattle.node_rules.proofs.ScriptEvents.{one_advance, one_install}
use Rattle.node_rules.specs.Laws.{StepsHaveOneOutcome}
use Rattle.node_rules.specs.Node.{NodeState}
use Rattle.node_rules.specs.Scripts.{Installs, MakesPermanent, Outcome, RebootsOld, UnlessInstalling}
use Rattle.node_rules.specs.Step.{Step, deletes, loads, purges, release_removed, soft_purges}
use Rattle.node_types.specs.declared.event.Event.{Event}
use Rattle.node_types.specs.declared.event.Event.TheVariants.{Arrive, Take, Commit, Revive, Load, Delete, Purge, SoftPurge, SetUnpacked, Remove, Install, Advance, MakePermanent, RebootOld, Sweep}
use Rattle.script_state.specs.Runner.{RunnerState}

-- While a script runs an event is refused for that reason, and else it has the outcome that it has.
unless-once : (o : Option RunnerState) (Is : Outcome → Type 0) → ((r s : Outcome) → Is r → Is s → r ≡ s) → (r s : Outcome) →
    UnlessInstalling o Is r → UnlessInstalling o Is s → r ≡ s
unless-once None Is one r s first second = one r s first second
unless-once (Some runner) Is one r s first second = first ∙ sym second

-- an outcome that is computed is one
same : (out r s : Outcome) → r ≡ out → s ≡ out → r ≡ s
same out r s first second = first ∙ sym second

pub one_outcome_of : (node : NodeState) (event : Event) (r s : Outcome) → Step node event r → Step node event s → r ≡ s
one_outcome_of n (Arrive client name body) r s first second = first ∙ sym second
one_outcome_of n (Take pid) r s first second = one_take pid n r s first second
one_outcome_of n (Commit done) r s first second = one_commit done n r s first second
one_outcome_of n (Revive app id) r s first second = one_revive app id n r s first second
one_outcome_of n (Load m) r s first second = unless-once n.runner (λ it. it ≡ loads m n) (same (loads m n)) r s first second
one_outcome_of n (Delete name) r s first second =
    unless-once n.runner (λ it. it ≡ deletes name n) (same (deletes name n)) r s first second
one_outcome_of n (Purge name) r s first second =
    unless-once n.runner (λ it. it ≡ purges name n) (same (purges name n)) r s first second
one_outcome_of n (SoftPurge name) r s first second =
    unless-once n.runner (λ it. it ≡ soft_purges name n) (same (soft_purges name n)) r s first second
one_outcome_of n (SetUnpacked release) r s first second = first ∙ sym second
one_outcome_of n (Remove vsn) r s first second =
    unless-once n.runner (λ it. it ≡ release_removed vsn n) (same (release_removed vsn n)) r s first second
one_outcome_of n (Install vsn) r s first second = unless-once n.runner (Installs vsn n) (one_install vsn n) r s first second
one_outcome_of n (Advance give_up) r s first second = one_advance give_up n.runner n r s first second
one_outcome_of n (MakePermanent vsn) r s first second =
    unless-once n.runner (MakesPermanent vsn n) (one_permanent vsn n) r s first second
one_outcome_of n (RebootOld vsn) r s first second = unless-once n.runner (RebootsOld vsn n) (one_reboot vsn n) r s first second
one_outcome_of n Sweep r s first second = one_sweep n r s first second

pub steps_have_one_outcome : StepsHaveOneOutcome
steps_have_one_outcome = record { one = one_outcome_of }
