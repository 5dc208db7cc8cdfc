-- A job is committed: its acts are done, and its process rests again, one turn on, or ends.
use Rattle.std.specs.Prelude.{◌≡◌, ℕ, ◌==◌, Bool, ◌&&◌, List, Option, None, Some}
use Rattle.std.specs.List.{find}
use Rattle.std.specs.Str.{bytes_eq}
use Rattle.erl_semantics.specs.declared.acts.Act.{Act}
use Rattle.erl_semantics.specs.declared.acts.Place.{Place}
use Rattle.erl_semantics.specs.declared.acts.Place.TheVariants.{Server, Loop}
use Rattle.erl_ir.specs.Module.{Forms}
use Rattle.erl_semantics.specs.declared.jobs.Job.{Job}
use Rattle.erl_semantics.specs.declared.instance.Instance.{Instance}
use Rattle.code_server.specs.Modules.{IsModuleTable, Table as Loaded}
use Rattle.process.specs.Process.{job_of}
use Rattle.process.specs.Rerun.{runs_again}
use Rattle.process.specs.declared.process.Ran.{Ran}
use Rattle.process_effects.specs.Acts.{acts_done}
use Rattle.process_effects.specs.Parted.{AllReopen, all_reopened, all_unsent}
use Rattle.process_effects.specs.declared.resting.Rested.{Rested}
use Rattle.process_effects.specs.Ends.{AllStand}
use Rattle.process_store.specs.Changes.{HasTurned, rest_living, unrest_living}
use Rattle.process_store.specs.Table.{Table, changed, living}
use Rattle.process_store.specs.declared.living.ProcessEntry.{ProcessEntry}

-- the instance that a loop function's place names, among the code in which it came to rest

abbrev pub is_loaded_as : List ℕ → ℕ → Instance → Bool
is_loaded_as name serial i = i.serial == serial && bytes_eq i.name name

abbrev pub loaded_as : List ℕ → ℕ → List Instance → Option Instance
loaded_as name serial code = find (is_loaded_as name serial) code

abbrev pub rests_in : Place → List Instance → Option Instance
rests_in (Server m s) code = None
rests_in (Loop m serial f args) code = loaded_as m serial code

-- A process runs a job: equal by value, code included.

abbrev pub job_at : Option ProcessEntry → Option Job
job_at None = None
job_at (Some l) = job_of l.process

abbrev pub IsRunning : Job → Table → Type 0
IsRunning job t = job_at (living job.pid t) ≡ Some job

-- the processes when a job's acts are done, and its process rests at a place, one turn on
abbrev pub rested_after : Job → Place → List Act → Table → Table
rested_after job at acts t = changed (rest_living at (rests_in at job.code)) job.pid (acts_done acts t)

-- What takes that back: the calls are open again, the messages go, and the process runs again what it ran.

abbrev pub rerun : Option Ran → ℕ → Table → Table
rerun None pid t = t
rerun (Some ran) pid t = changed (unrest_living ran) pid t

abbrev pub unrested : Loaded Forms → Rested → Table → Table
unrested modules u t = rerun (runs_again modules u.ran) u.pid (all_unsent u.receivers (all_reopened u.closed t))

abbrev pub CanUnrest : Rested → Table → Type 0
CanUnrest u t = AllReopen u.closed t × HasTurned u.pid (all_unsent u.receivers (all_reopened u.closed t))

-- it can be asked for, and gives the table before where the instances that processes used there stand in the table of modules
abbrev pub RestsBack : Rested → Table → Table → Type 0
RestsBack u before after = (modules : Loaded Forms) → CanUnrest u after ×
    (IsModuleTable modules → AllStand modules before → unrested modules u after ≡ before)
