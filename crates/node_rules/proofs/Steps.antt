-- A node keeps what every node keeps behind each event that is accepted.
use Rattle.std.proofs.Common.{◌≡◌, Ok}
use Rattle.node_rules.proofs.Accepting.{Acceptance, no_runner}
use Rattle.node_rules.proofs.Booting.{booted_is_kept}
use Rattle.node_rules.proofs.CodeSteps.{delete_keeps, load_keeps, permanent_keeps, purge_keeps, remove_keeps, soft_purge_keeps, sweep_keeps, unpack_keeps}
use Rattle.node_rules.proofs.ProcessSteps.{arrive_keeps, commit_keeps, revive_keeps, take_keeps}
use Rattle.node_rules.proofs.ScriptSteps.{advance_keeps, install_keeps, reboot_keeps}
use Rattle.node_rules.specs.Laws.{StepsKeep}
use Rattle.node_rules.specs.Node.{IsSoundNode, NodeState}
use Rattle.node_rules.specs.Scripts.{Installs, MakesPermanent, RebootsOld}
use Rattle.node_rules.specs.Step.{Step, deletes, loads, purges, release_removed, soft_purges}
use Rattle.node_types.specs.declared.event.Event.{Event}
use Rattle.node_types.specs.declared.event.Event.TheVariants.{Arrive, Take, Commit, Revive, Load, Delete, Purge, SoftPurge, SetUnpacked, Remove, Install, Advance, MakePermanent, RebootOld, Sweep}

pub step_keeps : (n : NodeState) (e : Event) (a : Acceptance) → Step n e (Ok a) → IsSoundNode n → IsSoundNode a.node
step_keeps n (Arrive client name body) a step kept = arrive_keeps client name body n a step kept
step_keeps n (Take pid) a step kept = take_keeps pid n a step kept
step_keeps n (Commit done) a step kept = commit_keeps done n a step kept
step_keeps n (Revive app id) a step kept = revive_keeps app id n a step kept
step_keeps n (Load m) a step kept =
    let it = no_runner n.runner (λ r. r ≡ loads m n) a step in
    load_keeps m n a it.0 it.1 kept
step_keeps n (Delete name) a step kept =
    delete_keeps name n a (no_runner n.runner (λ r. r ≡ deletes name n) a step).1 kept
step_keeps n (Purge name) a step kept =
    let it = no_runner n.runner (λ r. r ≡ purges name n) a step in
    purge_keeps name n a it.0 it.1 kept
step_keeps n (SoftPurge name) a step kept =
    soft_purge_keeps name n a (no_runner n.runner (λ r. r ≡ soft_purges name n) a step).1 kept
step_keeps n (SetUnpacked release) a step kept = unpack_keeps release n a step kept
step_keeps n (Remove vsn) a step kept =
    let it = no_runner n.runner (λ r. r ≡ release_removed vsn n) a step in
    remove_keeps vsn n a it.0 it.1 kept
step_keeps n (Install vsn) a step kept = install_keeps vsn n a (no_runner n.runner (Installs vsn n) a step).1 kept
step_keeps n (Advance give_up) a step kept = advance_keeps give_up n.runner n a kept.script step kept
step_keeps n (MakePermanent vsn) a step kept =
    let it = no_runner n.runner (MakesPermanent vsn n) a step in
    permanent_keeps vsn n a it.0 it.1 kept
step_keeps n (RebootOld vsn) a step kept = reboot_keeps vsn n a (no_runner n.runner (RebootsOld vsn n) a step).1 kept
step_keeps n Sweep a step kept = sweep_keeps n a step kept

pub steps_keep : StepsKeep
steps_keep = record { boots = booted_is_kept; steps = step_keeps }
