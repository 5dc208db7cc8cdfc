-- A node keeps what every node keeps where a script begins, goes on and ends, and where the node restarts.
use Rattle.std.proofs.Common.{◌≡◌, ℕ, Bool, true, false, List, inl, inr, Option, None, Some, Ok, refl}
use Rattle.std.specs.Prelude.{◌⊎◌}
use Rattle.children_live.proofs.Steps.{application_steps_keep_children, process_steps_keep_children}
use Rattle.code_loading.proofs.Stepping.{steps_keep_code}
use Rattle.erl_term.specs.declared.term.Term.{Term}
use Rattle.low_instructions.specs.declared.low.Low.{Low}
use Rattle.node_rules.proofs.Accepting.{Acceptance, accepted_or_not, accepts, always, is_kept}
use Rattle.node_rules.proofs.Booting.{restarted_is_kept}
use Rattle.node_rules.proofs.Scripts.{script_begins, script_goes_on}
use Rattle.node_rules.specs.Node.{IsInstalling, IsSoundNode, NodeState, RunsScript}
use Rattle.node_rules.specs.Scripts.{Advances, Begins, GivesUp, GoesOn, GoesOnBy, HasFailed, IsCarriedOut, Reboots, begun_as, finished_as, is_past, next_in, parts_in, recovered_as, reporting, target_in, with_parts}
use Rattle.node_types.specs.declared.event.Answer.TheVariants as answer
use Rattle.node_types.specs.declared.event.Refusal.TheVariants as refusal
use Rattle.release_specs.specs.Specs.{specs_of}
use Rattle.release_statuses.specs.Statuses.{rebooted, restarted}
use Rattle.release_table.specs.declared.table.Release.{Release}
use Rattle.script_laws.proofs.Children.{instructions_keep_children}
use Rattle.script_laws.proofs.CurrentCode.{instructions_keep_code}
use Rattle.script_state.specs.Runner.{RunnerState}

pub install_keeps : (vsn : List ℕ) (n : NodeState) (a : Acceptance) → Begins vsn n a → IsSoundNode n → IsSoundNode a.node
install_keeps vsn n a it kept =
    let r = it.target.release in
    is_kept a (begun_as r it.entry n) it.is (record {
      consistent = kept.consistent;
      children = application_steps_keep_children.sets_specs (specs_of r) n.apps n.processes kept.children;
      script = script_begins vsn n a it;
    })

-- Advance: the script is finished; an instruction is carried out; or it has failed, and the script is given up, or the node
-- restarts.

finish_keeps : (s : RunnerState) (n : NodeState) (a : Acceptance) → accepts a ≡ accepts (finished_as s n) → IsSoundNode n →
    IsSoundNode a.node
finish_keeps s n a is kept =
    let pids = s.progress.suspended in
    always a (finished_as s n) is (record {
      consistent = steps_keep_code.resumes pids n.modules n.processes kept.consistent;
      children = process_steps_keep_children.resumes pids n.apps n.processes kept.children;
      script = tt;
    })

carried_keeps : (r : Release) (i : Low) (s : RunnerState) (n : NodeState) (a : Acceptance) → next_in s ≡ Some i →
    IsInstalling s n.releases n.apps → IsCarriedOut r i s n a → IsSoundNode n → IsSoundNode a.node
carried_keeps r i s n a next runs it kept =
    let p = parts_in s n in
    is_kept a (record { node = with_parts it.parts s n; answer = answer.Ran i; note = reporting it.told }) it.is (record {
      consistent = instructions_keep_code.keeps r i p it.parts it.told it.does kept.consistent;
      children = instructions_keep_children.keeps r i p it.parts it.told it.does kept.children;
      script = script_goes_on s r i n it.parts it.told next it.does runs;
    })

given_up_keeps : (past : Bool) (reason : Term) (s : RunnerState) (n : NodeState) (a : Acceptance) →
    GivesUp past reason s n a → IsSoundNode n → IsSoundNode a.node
given_up_keeps false reason s n a is kept = is_kept a (recovered_as reason s n) is (record {
  consistent = kept.consistent;
  children = application_steps_keep_children.puts_back s.former n.apps n.processes kept.children;
  script = tt;
})
given_up_keeps true reason s n a it kept =
    restarted_is_kept it.permanent (restarted n.releases) n a.node it.told kept.consistent.sound it.restarts

goes_keeps : (r : Release) (i : Low) (s : RunnerState) (n : NodeState) (a : Acceptance) → next_in s ≡ Some i →
    IsInstalling s n.releases n.apps → IsCarriedOut r i s n a ⊎ HasFailed r i s n a → IsSoundNode n → IsSoundNode a.node
goes_keeps r i s n a next runs (inl carried) kept = carried_keeps r i s n a next runs carried kept
goes_keeps r i s n a next runs (inr failed) kept = given_up_keeps (is_past s) failed.reason s n a failed.gives_up kept

by_instruction : (o : Option Low) (r : Release) (give_up : Bool) (s : RunnerState) (n : NodeState) (a : Acceptance) →
    next_in s ≡ o → IsInstalling s n.releases n.apps → GoesOnBy o r give_up s n (Ok a) → IsSoundNode n → IsSoundNode a.node
by_instruction None r give_up s n a next runs is kept = finish_keeps s n a is kept
by_instruction (Some i) r give_up s n a next runs goes kept = goes_keeps r i s n a next runs goes.1 kept

by_release : (o : Option Release) (give_up : Bool) (s : RunnerState) (n : NodeState) (a : Acceptance) →
    IsInstalling s n.releases n.apps → GoesOn o give_up s n (Ok a) → IsSoundNode n → IsSoundNode a.node
by_release None give_up s n a runs goes kept = absurd goes
by_release (Some r) give_up s n a runs goes kept = by_instruction (next_in s) r give_up s n a refl runs goes kept

pub advance_keeps : (give_up : Bool) (o : Option RunnerState) (n : NodeState) (a : Acceptance) → RunsScript o n.releases n.apps →
    Advances give_up o n (Ok a) → IsSoundNode n → IsSoundNode a.node
advance_keeps give_up None n a runs is kept = absurd (accepted_or_not a refusal.NotInstalling is)
advance_keeps give_up (Some s) n a runs goes kept = by_release (target_in s n) give_up s n a runs goes kept

-- Reboot old
pub reboot_keeps : (vsn : List ℕ) (n : NodeState) (a : Acceptance) → Reboots vsn n a → IsSoundNode n → IsSoundNode a.node
reboot_keeps vsn n a it kept =
    restarted_is_kept it.old.release (rebooted vsn n.releases) n a.node it.told kept.consistent.sound it.restarts
