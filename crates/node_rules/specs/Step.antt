-- What an event does to a node, or why it is refused: one clause an event.
use Rattle.std.specs.Prelude.{◌≡◌, ℕ, true, if◌then◌else◌, List, [], ◌∷◌, Option, None, Some, Ok, Err}
use Rattle.erl_ir.specs.Module.{Forms}
use Rattle.erl_semantics.specs.declared.jobs.Done.{Done}
use Rattle.erl_semantics.specs.declared.jobs.Job.{Job}
use Rattle.erl_semantics.specs.declared.outcome.End.{End}
use Rattle.erl_semantics.specs.declared.outcome.End.TheVariants.{Rest, Value, Exit}
use Rattle.erl_term.specs.declared.term.Term.{Term}
use Rattle.app_table.specs.Children.{is_due}
use Rattle.app_table.specs.declared.child.Child.{Child}
use Rattle.sys_protocol.specs.ChildStarts.{Restarts}
use Rattle.code_loading.specs.Current.{current_code}
use Rattle.code_loading.specs.Loading.{is_lingered_in, downs_of_purge}
use Rattle.code_replacement.specs.Replacing.{code_loaded, without_lingering}
use Rattle.code_server.specs.Modules.{delete_refusal, deleted, load_refusal, purged}
use Rattle.code_server.specs.declared.error.CodeError.{CodeError}
use Rattle.code_server.specs.declared.error.CodeError.TheVariants.{OldInUse}
use Rattle.process_effects.specs.Commits.{job_at}
use Rattle.process_effects.specs.declared.told.Reply.{Reply}
use Rattle.process_store.specs.Table.{Table, living}
use Rattle.process_table.specs.Commit.{CanCommit, RefusesCommit, commit_told, committed, normal}
use Rattle.process_table.specs.Messages.{arrival_of, message_of}
use Rattle.process_table.specs.Steps.{IsCodeOf, after_arrival, arrive_refusal, kind_of, take_refusal, taken}
use Rattle.process_table.specs.declared.body.ClientMessage.{ClientMessage}
use Rattle.process_table.specs.declared.error.ProcError.{ProcError}
use Rattle.app_table.specs.Applications.{Application, all_ended, child_of, revived}
use Rattle.sys_protocol.specs.Refusals.{IsDue, RefusesRevive}
use Rattle.sys_protocol.specs.declared.error.SysError.{SysError}
use Rattle.install_checks.specs.Installing.{install_refusal}
use Rattle.release_statuses.specs.Statuses.{permanent_refusal, remove_refusal, removed, unpack_refusal, unpacked}
use Rattle.release_table.specs.declared.table.Release.{Release}
use Rattle.undo_journal.specs.Reversible.{Accepted}
use Rattle.node_rules.specs.Node.{NodeState, with_modules, with_processes, with_releases}
use Rattle.node_rules.specs.Scripts.{Advances, Installs, MakesPermanent, Outcome, RebootsOld, Sweeps, UnlessInstalling, advance_refused, reboot_refused, reporting, running_in, with_running}
use Rattle.node_types.specs.declared.event.Answer.{Answer}
use Rattle.node_types.specs.declared.event.Answer.TheVariants as answer
use Rattle.node_types.specs.declared.event.Event.{Event}
use Rattle.node_types.specs.declared.event.Event.TheVariants.{Arrive, Take, Commit, Revive, Load, Delete, Purge, SoftPurge, SetUnpacked, Remove, Install, Advance, MakePermanent, RebootOld, Sweep}
use Rattle.node_types.specs.Note.{Note}
use Rattle.node_types.specs.declared.event.Refusal.{Refusal}
use Rattle.node_types.specs.declared.event.Refusal.TheVariants.{OfProcesses, OfModules, OfApps, OfReleases}

-- an event is accepted where nothing stands against it
abbrev pub unless : {E : Type 0} → Option E → (E → Refusal) → Accepted NodeState Answer Note → Outcome
unless None of a = Ok a
unless (Some e) of a = Err (of e)

-- Arrive: a message of a client comes for the process of a name; it is reported.

abbrev pub arrived : ℕ → List ℕ → ClientMessage → NodeState → Outcome
arrived client name body n = unless (arrive_refusal name (kind_of body) n.processes) OfProcesses (record {
  node = with_processes (after_arrival client name body n.processes) n;
  answer = answer.Unit;
  note = record { replies = []; arrival = arrival_of name (message_of body) };
})

-- Take: a process takes its next message, and runs it in the code that it enters.

abbrev pub run_taken : ℕ → Job → NodeState → NodeState
run_taken pid job n = with_processes (taken pid job.entry_serial job.code n.processes) n

abbrev pub Takes : ℕ → NodeState → Outcome → Type 0
Takes pid n (Err e) = (it : ProcError) × (take_refusal pid n.processes ≡ Some it) × (e ≡ OfProcesses it)
Takes pid n (Ok a) = (job : Job) × (take_refusal pid n.processes ≡ None) × IsCodeOf n.modules (living pid n.processes) job ×
    (job_at (living pid (run_taken pid job n).processes) ≡ Some job) ×
    (a ≡ record { node = run_taken pid job n; answer = answer.Job job; note = reporting [] })

-- Commit: what a job has done is done, where its process runs it. A child whose process ends with it is due, or not.

abbrev pub ended_by : ℕ → End → List Application → List Application
ended_by pid (Rest at) apps = apps
ended_by pid (Value v) apps = all_ended normal (pid ∷ []) apps
ended_by pid (Exit reason) apps = all_ended reason (pid ∷ []) apps

abbrev pub Commits : Done → NodeState → Outcome → Type 0
Commits done n (Err e) = (it : ProcError) × RefusesCommit it done.job n.processes × (e ≡ OfProcesses it)
Commits done n (Ok a) = CanCommit done.job n.processes × (a ≡ record {
  node = record n { processes = committed done n.processes; apps = ended_by done.job.pid done.outcome.end n.apps };
  answer = answer.Unit;
  note = reporting (commit_told done n.processes);
})

-- Revive: a child that is due starts again, in every module's current code.

abbrev pub revived_as : List ℕ → Term → ℕ → Table → List Reply → NodeState → Accepted NodeState Answer Note
revived_as app id pid after told n = record {
  node = record n { processes = after; apps = revived app id pid n.apps };
  answer = answer.Revived pid;
  note = reporting told;
}

pub record IsRevived (app : List ℕ) (id : Term) (n : NodeState) (a : Accepted NodeState Answer Note) : Type 0 where
  pub child : Child
  pub found : child_of app id n.apps ≡ Some child
  pub due : is_due child ≡ true
  pub pid : ℕ
  pub after : Table
  pub told : List Reply
  pub restarts : Restarts (current_code n.modules) child.spec n.processes pid after told
  pub is : a ≡ revived_as app id pid after told n

abbrev pub Revives : List ℕ → Term → NodeState → Outcome → Type 0
Revives app id n (Err e) = (it : SysError) × RefusesRevive it (current_code n.modules) app id n.apps n.processes × (e ≡ OfApps it)
Revives app id n (Ok a) = IsRevived app id n a

-- Load and purge: those who linger in what is purged are killed, and their children are due, or not. It isn't said how code is
-- purged later that a load makes old.

abbrev pub load_refused : Forms → NodeState → Option CodeError
load_refused m n = load_refusal m.name (purged m.name n.modules)

abbrev pub loaded_as : Forms → NodeState → Accepted NodeState Answer Note
loaded_as m n = record {
  node = with_running (code_loaded m None (running_in n)) n;
  answer = answer.Unit;
  note = reporting (downs_of_purge m.name n.modules n.processes);
}

abbrev pub loads : Forms → NodeState → Outcome
loads m n = unless (load_refused m n) OfModules (loaded_as m n)

abbrev pub purges : List ℕ → NodeState → Outcome
purges name n = Ok (record {
  node = with_running (without_lingering name (running_in n)) n;
  answer = answer.Killed (is_lingered_in name n.modules n.processes);
  note = reporting (downs_of_purge name n.modules n.processes);
})

-- Delete: current code becomes old; it isn't said how that is purged later. Soft purge: a purge that is refused where somebody
-- lingers.

abbrev pub deletes : List ℕ → NodeState → Outcome
deletes name n = unless (delete_refusal name n.modules) OfModules (record {
  node = with_modules (deleted name None n.modules) n;
  answer = answer.Unit;
  note = reporting [];
})

abbrev pub soft_purge_refusal : List ℕ → NodeState → Option CodeError
soft_purge_refusal name n = if is_lingered_in name n.modules n.processes then Some OldInUse else None

abbrev pub soft_purges : List ℕ → NodeState → Outcome
soft_purges name n = unless (soft_purge_refusal name n) OfModules (record {
  node = with_modules (purged name n.modules) n;
  answer = answer.Unit;
  note = reporting [];
})

-- Set unpacked: the node knows a release from then on. Remove: it doesn't any more; its code stays as it is.

abbrev pub set_unpacked : Release → NodeState → Outcome
set_unpacked release n = unless (unpack_refusal release.rel.vsn n.releases) OfReleases (record {
  node = with_releases (unpacked release n.releases) n;
  answer = answer.Unit;
  note = reporting [];
})

abbrev pub release_removed : List ℕ → NodeState → Outcome
release_removed vsn n = unless (remove_refusal vsn n.releases) OfReleases (record {
  node = with_releases (removed vsn n.releases) n;
  answer = answer.Unit;
  note = reporting [];
})

-- The rule of a node.
abbrev pub Step : NodeState → Event → Outcome → Type 0
Step n (Arrive client name body) r = r ≡ arrived client name body n
Step n (Take pid) r = Takes pid n r
Step n (Commit done) r = Commits done n r
Step n (Revive app id) r = Revives app id n r
Step n (Load m) r = UnlessInstalling n.runner (λ it. it ≡ loads m n) r
Step n (Delete name) r = UnlessInstalling n.runner (λ it. it ≡ deletes name n) r
Step n (Purge name) r = UnlessInstalling n.runner (λ it. it ≡ purges name n) r
Step n (SoftPurge name) r = UnlessInstalling n.runner (λ it. it ≡ soft_purges name n) r
Step n (SetUnpacked release) r = r ≡ set_unpacked release n
Step n (Remove vsn) r = UnlessInstalling n.runner (λ it. it ≡ release_removed vsn n) r
Step n (Install vsn) r = UnlessInstalling n.runner (Installs vsn n) r
Step n (Advance give_up) r = Advances give_up n.runner n r
Step n (MakePermanent vsn) r = UnlessInstalling n.runner (MakesPermanent vsn n) r
Step n (RebootOld vsn) r = UnlessInstalling n.runner (RebootsOld vsn n) r
Step n Sweep r = Sweeps n r

-- Memory may be wanting where nothing stands against an event that is told without memory. A child that fails is told only
-- once its start function was evaluated, which takes memory.
abbrev pub MayRunOut : NodeState → Event → Type 0
MayRunOut n (Arrive client name body) = arrive_refusal name (kind_of body) n.processes ≡ None
MayRunOut n (Take pid) = take_refusal pid n.processes ≡ None
MayRunOut n (Commit done) = CanCommit done.job n.processes
MayRunOut n (Revive app id) = IsDue app id n.apps
MayRunOut n (Load m) = (n.runner ≡ None) × (load_refused m n ≡ None)
MayRunOut n (Delete name) = (n.runner ≡ None) × (delete_refusal name n.modules ≡ None)
MayRunOut n (Purge name) = n.runner ≡ None
MayRunOut n (SoftPurge name) = (n.runner ≡ None) × (soft_purge_refusal name n ≡ None)
MayRunOut n (SetUnpacked release) = unpack_refusal release.rel.vsn n.releases ≡ None
MayRunOut n (Remove vsn) = (n.runner ≡ None) × (remove_refusal vsn n.releases ≡ None)
MayRunOut n (Install vsn) = (n.runner ≡ None) × (install_refusal vsn n.releases n.modules n.processes ≡ None)
MayRunOut n (Advance give_up) = advance_refused give_up n.runner n ≡ None
MayRunOut n (MakePermanent vsn) = (n.runner ≡ None) × (permanent_refusal vsn n.releases ≡ None)
MayRunOut n (RebootOld vsn) = (n.runner ≡ None) × (reboot_refused vsn n ≡ None)
MayRunOut n Sweep = Unit {0}
