-- Each list is of the node where it is.
use Rattle.std.proofs.Common.{ℕ, List, IfOk, ap, subst, sym, ◌∙◌}
use Rattle.console_answers.specs.Rows.{AreJobRows, child_rows, process_rows, release_rows}
use Rattle.erl_semantics.specs.declared.jobs.Job.{Job}
use Rattle.node_console.proofs.Answering.{IfOk-then}
use Rattle.node_console.specs.Console.{AreListed, AreScriptRows}
use Rattle.process_store.specs.Table.{Table}
use Rattle.shell_exec.specs.Node.{NodeState}
use Rattle.shell_requests.specs.declared.console.Listing.{Listing}
use Rattle.node_console.proofs.showing.list.Goals as goal

pub returns-in-Processes : goal.returns-in-Processes
returns-in-Processes c =
    let processes = c.processes.ensures ∙ ap (λ (n : NodeState). n.processes) c.node-node.ensures in
    let apps = c.apps.ensures ∙ ap (λ (n : NodeState). n.apps) c.node-node.ensures in
    subst (λ (l : Listing). IfOk c.process_rows.result (λ it. AreListed c.args.held.now l it.items)) (sym c.in-Processes.is)
    (IfOk-then c.process_rows.result _ _ c.process_rows.ensures (λ it is. is ∙ (λ i. process_rows (processes i) (apps i))))

pub returns-in-Children : goal.returns-in-Children
returns-in-Children c =
    let apps = c.apps-in-Children.ensures ∙ ap (λ (n : NodeState). n.apps) c.node-node.ensures in
    subst (λ (l : Listing). IfOk c.child_rows.result (λ it. AreListed c.args.held.now l it.items)) (sym c.in-Children.is)
    (IfOk-then c.child_rows.result _ _ c.child_rows.ensures (λ it is. is ∙ ap child_rows apps))

pub returns-in-Jobs : goal.returns-in-Jobs
returns-in-Jobs c =
    let processes = c.processes-in-Jobs.ensures ∙ ap (λ (n : NodeState). n.processes) c.node-node.ensures in
    subst (λ (l : Listing). IfOk c.job_rows.result (λ it. AreListed c.args.held.now l it.items)) (sym c.in-Jobs.is)
    (IfOk-then c.job_rows.result _ _ c.job_rows.ensures (λ it are.
    subst (λ (t : Table). AreJobRows t 1 c.args.held.now.jobs it.items) processes (subst (λ (js : List Job). AreJobRows c.processes-in-Jobs.result.now 1 js it.items) c.jobs.ensures are)))

pub returns-in-Script : goal.returns-in-Script
returns-in-Script c =
    subst (λ (l : Listing). IfOk c.script_rows.result (λ it. AreListed c.args.held.now l it.items)) (sym c.in-Script.is)
    (IfOk-then c.script_rows.result _ _ c.script_rows.ensures (λ it are. subst (λ (n : NodeState). AreScriptRows n n.runner it.items) c.node-node.ensures are))

pub returns-in-Releases : goal.returns-in-Releases
returns-in-Releases c =
    let releases = c.releases.ensures ∙ ap (λ (n : NodeState). n.releases) c.node-node.ensures in
    subst (λ (l : Listing). IfOk c.release_rows.result (λ it. AreListed c.args.held.now l it.items)) (sym c.in-Releases.is)
    (IfOk-then c.release_rows.result _ _ c.release_rows.ensures (λ it is. is ∙ ap release_rows releases))
