-- Children of supervisors are stopped by an upgrade, and started again (appup(4), stop, start); applications stop, and are
-- unloaded (application(3), stop/1, unload/1).
use Rattle.std.specs.Prelude.{◌≡◌, ℕ, if◌then◌else◌, List, [], codes, map, Option, None, Some, option_map}
use Rattle.std.specs.List.{filter_map}
use Rattle.app_table.specs.Applications.{Application, app_of, child_at, index_of}
use Rattle.app_table.specs.Changes.{all_run, app_stopped, at_spots, ending_order, unloaded}
use Rattle.app_table.specs.Modules.{running_with, startable}
use Rattle.app_table.specs.declared.name.ChildName.{ChildName}
use Rattle.app_table.specs.declared.spot.Spot.{Spot}
use Rattle.child_specs.specs.declared.child.ChildSpec.{ChildSpec}
use Rattle.erl_semantics.specs.declared.instance.Instance.{Instance}
use Rattle.erl_term.specs.declared.term.Term.{Term}
use Rattle.erl_term.specs.declared.term.Term.TheVariants.{Atom}
use Rattle.process_effects.specs.declared.told.Reply.{Reply}
use Rattle.process_store.specs.Table.{Table}
use Rattle.sys_protocol.specs.ChildFaults.{StartFails}
use Rattle.sys_protocol.specs.ChildStarts.{AllStart}
use Rattle.sys_protocol.specs.declared.app_error.AppError.{AppError}
use Rattle.sys_protocol.specs.declared.app_error.AppError.TheVariants.{NotLoaded, NotStarted, Running}
use Rattle.sys_protocol.specs.declared.start_failed.StartFailed.{StartFailed}

-- the reason of a process that its supervisor ends
abbrev pub shutdown : Term
shutdown = Atom (codes "shutdown")

-- Stop: the processes of the children that run and have one of the modules, for each module in turn the children in order.
abbrev pub to_stop : List (List ℕ) → List Application → List ℕ
to_stop modules apps = map (λ c. c.pid) (running_with modules apps)

-- Start: of the children that are named those that have one of the modules and no process, of applications that are
-- started. All start, in order, and run: their pids, the applications and the processes after it, and what clients are
-- told.

abbrev pub specs_at : List Spot → List Application → List ChildSpec
specs_at spots apps = filter_map (λ spot. option_map (λ c. c.spec) (child_at spot apps)) spots

abbrev pub to_start : List ChildName → List (List ℕ) → List Application → List ChildSpec
to_start names modules apps = specs_at (startable names modules apps) apps

pub record StartAgain (code : List Instance) (names : List ChildName) (modules : List (List ℕ)) (apps : List Application)
    (t : Table) (apps_after : List Application) (after : Table) (told : List Reply) : Type 0 where
  pub pids : List ℕ
  pub start : AllStart code (to_start names modules apps) t pids after told
  pub run : apps_after ≡ all_run (at_spots (startable names modules apps) pids) apps

-- or one fails to, the first that does
abbrev pub FailToStartAgain : StartFailed → List Instance → List ChildName → List (List ℕ) → List Application → Table → Type 0
FailToStartAgain failed code names modules apps t = StartFails failed code (to_start names modules apps) t

-- Why an application isn't stopped: none of the name is loaded and started.

abbrev pub stop_refusal_of : Option Application → Option AppError
stop_refusal_of None = Some NotStarted
stop_refusal_of (Some a) = if a.is_started then None else Some NotStarted

abbrev pub stop_refusal : List ℕ → List Application → Option AppError
stop_refusal name apps = stop_refusal_of (app_of name apps)

-- It stops: its processes end from the last child to the first; it keeps its children, of which none has a process or is due.

abbrev pub app_pids_at : Option ℕ → List Application → List ℕ
app_pids_at None apps = []
app_pids_at (Some index) apps = ending_order index apps

abbrev pub app_pids : List ℕ → List Application → List ℕ
app_pids name apps = app_pids_at (index_of name apps) apps

abbrev pub app_stopped_at : Option ℕ → List Application → List Application
app_stopped_at None apps = apps
app_stopped_at (Some index) apps = app_stopped index apps

abbrev pub stopped_app : List ℕ → List Application → List Application
stopped_app name apps = app_stopped_at (index_of name apps) apps

-- Why an application isn't unloaded, in order: it is not loaded; it is started.

abbrev pub unload_refusal_of : Option Application → Option AppError
unload_refusal_of None = Some NotLoaded
unload_refusal_of (Some a) = if a.is_started then Some Running else None

abbrev pub unload_refusal : List ℕ → List Application → Option AppError
unload_refusal name apps = unload_refusal_of (app_of name apps)

-- It is unloaded: it leaves, with its children.

abbrev pub unloaded_at : Option ℕ → List Application → List Application
unloaded_at None apps = apps
unloaded_at (Some index) apps = unloaded index apps

abbrev pub unloaded_app : List ℕ → List Application → List Application
unloaded_app name apps = unloaded_at (index_of name apps) apps
