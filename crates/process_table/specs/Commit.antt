-- Commit: what a job gave is done, where its process runs it (gen_server behaviour).
use Rattle.std.specs.Prelude.{ℕ, codes, List}
use Rattle.erl_term.specs.declared.term.Term.{Term}
use Rattle.erl_term.specs.declared.term.Term.TheVariants as term
use Rattle.erl_semantics.specs.declared.acts.Act.{Act}
use Rattle.erl_semantics.specs.declared.jobs.Done.{Done}
use Rattle.erl_semantics.specs.declared.jobs.Job.{Job}
use Rattle.erl_semantics.specs.declared.outcome.End.{End}
use Rattle.erl_semantics.specs.declared.outcome.End.TheVariants.{Rest, Value, Exit}
use Rattle.process_effects.specs.Acts.{acts_told}
use Rattle.process_effects.specs.Commits.{IsRunning, rested_after}
use Rattle.process_effects.specs.Exits.{exit_told, exited}
use Rattle.process_effects.specs.declared.told.Reply.{Reply}
use Rattle.process_store.specs.Changes.{CanTurnAt}
use Rattle.process_store.specs.Table.{Table}
use Rattle.process_table.specs.declared.error.ProcError.{ProcError}
use Rattle.process_table.specs.declared.error.ProcError.TheVariants.{Stale, CounterEnd}

-- the reason of a process that has given a value
abbrev pub normal : Term
normal = term.Atom (codes "normal")

-- The acts in order, and then the end: the process rests, one turn on, or it ends.

abbrev pub concluded : Job → List Act → End → Table → Table
concluded job acts (Rest at) t = rested_after job at acts t
concluded job acts (Value v) t = exited job.pid acts t
concluded job acts (Exit reason) t = exited job.pid acts t

abbrev pub committed : Done → Table → Table
committed done t = concluded done.job done.outcome.acts done.outcome.end t

-- What clients are told: the replies in order, and then, where the process ends, its open calls.

abbrev pub told_by : ℕ → List Act → End → Table → List Reply
told_by pid acts (Rest at) t = acts_told acts t
told_by pid acts (Value v) t = exit_told pid normal acts t
told_by pid acts (Exit reason) t = exit_told pid reason acts t

abbrev pub commit_told : Done → Table → List Reply
commit_told done t = told_by done.job.pid done.outcome.acts done.outcome.end t

-- Why a commit is refused, in order: its process doesn't run the job, code included; or its turn is the last.
abbrev pub RefusesCommit : ProcError → Job → Table → Type 0
RefusesCommit Stale job t = IsRunning job t → ⊥
RefusesCommit CounterEnd job t = IsRunning job t × (CanTurnAt job.pid t → ⊥)
RefusesCommit why job t = ⊥

-- nothing stands against a commit
abbrev pub CanCommit : Job → Table → Type 0
CanCommit job t = IsRunning job t × CanTurnAt job.pid t
