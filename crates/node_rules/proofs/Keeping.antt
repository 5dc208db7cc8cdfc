-- Code and children go on as they were where a job is committed, and where modules are purged, one after the other.
use Rattle.std.proofs.Common.{ℕ, List, [], ◌∷◌}
use Rattle.app_table.specs.Applications.{Application}
use Rattle.children_live.proofs.Steps.{ends_keep_children, process_steps_keep_children}
use Rattle.children_live.specs.Children.{ChildrenLive}
use Rattle.code_loading.proofs.Consistency.{loading_keeps_code}
use Rattle.code_loading.specs.Consistent.{IsConsistent}
use Rattle.code_replacement.specs.Replacing.{RunningSystem, all_without, without_lingering}
use Rattle.erl_semantics.specs.declared.acts.Act.{Act}
use Rattle.erl_semantics.specs.declared.jobs.Done.{Done}
use Rattle.erl_semantics.specs.declared.jobs.Job.{Job}
use Rattle.erl_semantics.specs.declared.outcome.End.{End}
use Rattle.erl_semantics.specs.declared.outcome.End.TheVariants.{Rest, Value, Exit}
use Rattle.node_rules.specs.Step.{ended_by}
use Rattle.process_store.specs.Table.{Table}
use Rattle.process_table.specs.Commit.{committed, concluded, normal}

-- a commit

concluded_live : (job : Job) (acts : List Act) (end : End) (t : Table) (apps : List Application) → ChildrenLive apps t →
    ChildrenLive (ended_by job.pid end apps) (concluded job acts end t)
concluded_live job acts (Rest at) t apps kept = process_steps_keep_children.rests job at acts apps t kept
concluded_live job acts (Value v) t apps kept = ends_keep_children.exits normal job.pid acts apps t kept
concluded_live job acts (Exit reason) t apps kept = ends_keep_children.exits reason job.pid acts apps t kept

pub committed_live : (done : Done) (t : Table) (apps : List Application) → ChildrenLive apps t →
    ChildrenLive (ended_by done.job.pid done.outcome.end apps) (committed done t)
committed_live done t apps kept = concluded_live done.job done.outcome.acts done.outcome.end t apps kept

-- What holds of what runs: each instance that a process uses is its module's, and each child that runs is a process of its own.
pub record IsSoundSystem (s : RunningSystem) : Type 0 where
  pub consistent : IsConsistent s.modules s.processes
  pub children : ChildrenLive s.apps s.processes

pub one_without : (name : List ℕ) (s : RunningSystem) → IsSoundSystem s → IsSoundSystem (without_lingering name s)
one_without name s runs = record {
  consistent = loading_keeps_code.purges name s.modules s.processes runs.consistent;
  children = ends_keep_children.spares name s.modules s.apps s.processes runs.children;
}

pub purges_keep : (names : List (List ℕ)) (s : RunningSystem) → IsSoundSystem s → IsSoundSystem (all_without names s)
purges_keep [] s runs = runs
purges_keep (name ∷ names) s runs = purges_keep names (without_lingering name s) (one_without name s runs)
