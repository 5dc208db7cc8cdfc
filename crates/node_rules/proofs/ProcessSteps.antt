-- A node keeps what every node keeps behind events of processes and of children.
use Rattle.std.proofs.Common.{◌≡◌, ℕ, List, [], Ok, sym, subst}
use Rattle.app_table.specs.Applications.{revived}
use Rattle.children_live.proofs.Steps.{application_steps_keep_children, process_steps_keep_children}
use Rattle.code_loading.proofs.Stepping.{steps_keep_code}
use Rattle.code_loading.specs.Consistent.{IsConsistent}
use Rattle.code_loading.specs.Current.{current_code}
use Rattle.erl_semantics.specs.declared.jobs.Done.{Done}
use Rattle.erl_term.specs.declared.term.Term.{Term}
use Rattle.node_rules.proofs.Accepting.{Acceptance, accepted, accepts, is_kept}
use Rattle.node_rules.proofs.Booting.{child_begins}
use Rattle.node_rules.proofs.Keeping.{committed_live}
use Rattle.node_rules.proofs.Scripts.{same_specs}
use Rattle.node_rules.proofs.Specifications.{ended_by-specs, revived-specs}
use Rattle.node_rules.specs.Node.{IsSoundNode, NodeState, with_processes}
use Rattle.node_rules.specs.Scripts.{reporting}
use Rattle.node_rules.specs.Step.{Commits, IsRevived, Takes, arrived, ended_by, revived_as, run_taken}
use Rattle.node_types.specs.Note.{Note}
use Rattle.node_types.specs.declared.event.Answer.TheVariants as answer
use Rattle.node_types.specs.declared.event.Refusal.TheVariants.{OfProcesses}
use Rattle.process_store.specs.Table.{Table}
use Rattle.process_table.specs.Commit.{commit_told, committed}
use Rattle.process_table.specs.Messages.{arrival_of, message_of}
use Rattle.process_table.specs.Steps.{after_arrival, arrive_refusal, kind_of}
use Rattle.process_table.specs.declared.body.ClientMessage.{ClientMessage}
use Rattle.sys_protocol.specs.ChildStarts.{named_by}

pub arrive_keeps : (client : ℕ) (name : List ℕ) (body : ClientMessage) (n : NodeState) (a : Acceptance) →
    accepts a ≡ arrived client name body n → IsSoundNode n → IsSoundNode a.node
arrive_keeps client name body n a is kept =
    let note : Note = record { replies = []; arrival = arrival_of name (message_of body) } in
    let t = after_arrival client name body n.processes in
    let made : Acceptance = record { node = with_processes t n; answer = answer.Unit; note = note } in
    accepted (arrive_refusal name (kind_of body) n.processes) OfProcesses made a is (λ unrefused. record {
      consistent = steps_keep_code.arrivals client name body n.modules n.processes kept.consistent;
      children = process_steps_keep_children.arrives client name body n.apps n.processes kept.children;
      script = kept.script;
    })

pub take_keeps : (pid : ℕ) (n : NodeState) (a : Acceptance) → Takes pid n (Ok a) → IsSoundNode n → IsSoundNode a.node
take_keeps pid n a (job, unrefused, code, runs, is) kept =
    let made : Acceptance = record { node = run_taken pid job n; answer = answer.Job job; note = reporting [] } in
    is_kept a made is (record {
      consistent = steps_keep_code.takes pid job n.modules n.processes kept.consistent code;
      children = process_steps_keep_children.takes pid job.entry_serial job.code n.apps n.processes kept.children;
      script = kept.script;
    })

pub commit_keeps : (done : Done) (n : NodeState) (a : Acceptance) → Commits done n (Ok a) → IsSoundNode n → IsSoundNode a.node
commit_keeps done n a (can, is) kept =
    let apps = ended_by done.job.pid done.outcome.end n.apps in
    let node : NodeState = record n { processes = committed done n.processes; apps = apps } in
    let made : Acceptance = record { node = node; answer = answer.Unit; note = reporting (commit_told done n.processes) } in
    let specs = ended_by-specs done.job.pid done.outcome.end n.apps in
    is_kept a made is (record {
      consistent = steps_keep_code.commits done n.modules n.processes kept.consistent can.0;
      children = committed_live done n.processes n.apps kept.children;
      script = same_specs n.runner n.releases n.apps apps specs kept.script;
    })

pub revive_keeps : (app : List ℕ) (id : Term) (n : NodeState) (a : Acceptance) → IsRevived app id n a → IsSoundNode n → IsSoundNode a.node
revive_keeps app id n a it kept =
    let m = n.modules in
    let t = n.processes in
    let code = current_code m in
    let o = it.restarts.1.0 in
    let begins = child_begins code it.child.spec t o it.restarts.1.1.gives in
    let stand = steps_keep_code.currents m kept.consistent.sound in
    let starts = steps_keep_code.starts (named_by o) code o.acts m t kept.consistent stand begins in
    let revives = application_steps_keep_children.revives code it.child.spec app id n.apps t it.pid it.after it.told in
    let apps = revived app id it.pid n.apps in
    is_kept a (revived_as app id it.pid it.after it.told n) it.is (record {
      consistent = subst (λ (u : Table). IsConsistent m u) (sym it.restarts.1.2) starts;
      children = revives it.restarts kept.children;
      script = same_specs n.runner n.releases n.apps apps (revived-specs app id it.pid n.apps) kept.script;
    })
