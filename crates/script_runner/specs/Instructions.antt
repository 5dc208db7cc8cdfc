-- What one instruction of a script does to the parts of a node, and what clients are told; or why it isn't carried out
-- (appup(4), Low-Level Instructions; relup(4)). `r` is the release that is being installed; where waiting is given up, processes
-- that run are passed over.
use Rattle.std.specs.Prelude.{◌≡◌, ℕ, Bool, List, [], ◌++◌, Option, None, Some, option_map}
use Rattle.app_table.specs.Changes.{all_stopped}
use Rattle.app_table.specs.Modules.{names_at, running_with}
use Rattle.app_table.specs.Applications.{Application}
use Rattle.code_changes.specs.Changing.{AllUpgrade, Script, Upgraded, script}
use Rattle.code_loading.specs.Current.{current_code}
use Rattle.code_server.specs.Modules.{load_refusal, purged}
use Rattle.erl_ir.specs.Module.{Forms}
use Rattle.erl_term.specs.declared.term.Term.{Term}
use Rattle.low_instructions.specs.declared.low.Low.{Low}
use Rattle.low_instructions.specs.declared.modules.Direction.{Direction}
use Rattle.code_replacement.specs.Replacing.{RunningSystem, all_without, code_loaded, code_removed}
use Rattle.code_loading.specs.Loading.{downs_of_purge}
use Rattle.code_loading.specs.Purging.{downs_of_purges}
use Rattle.low_instructions.specs.declared.low.Low.TheVariants.{LoadObjectCode, PointOfNoReturn, Load, Remove, Purge, Suspend, Resume, CodeChange, Stop, Start, Apply}
use Rattle.process_effects.specs.Ends.{all_vacated}
use Rattle.process_effects.specs.Kills.{downs_of_each}
use Rattle.process_effects.specs.declared.told.Reply.{Reply}
use Rattle.process_store.specs.Table.{Table}
use Rattle.process_table.specs.States.{all_resumed, all_suspended}
use Rattle.release_table.specs.declared.table.Release.{Release}
use Rattle.script_children.specs.Applying.{Applied, NotApplied}
use Rattle.script_children.specs.Calls.{start_failed}
use Rattle.script_children.specs.Children.{Supervised}
use Rattle.script_state.specs.ObjectCode.{all_noted, code_at_hand, files_of, missing_object_code}
use Rattle.script_runner.specs.Failures.{no_object_code}
use Rattle.script_runner.specs.Parts.{Parts}
use Rattle.script_runner.specs.Replacing.{HaltsLoad}
use Rattle.script_runner.specs.Suspending.{HaltsChange}
use Rattle.script_runner.specs.declared.halt.Halt.{Halt}
use Rattle.script_runner.specs.declared.halt.Halt.TheVariants.{Busy, Failed, CounterEnd}
use Rattle.suspensions.specs.Suspending.{names, still_suspended, suspend_refusal, to_resume, to_suspend}
use Rattle.sys_protocol.specs.Stopping.{FailToStartAgain, StartAgain, shutdown, to_stop}
use Rattle.sys_protocol.specs.declared.start_failed.StartFailed.{StartFailed}
use Rattle.upgrade_calls.specs.Changing.{AreCounted}

-- What runs, of the parts; and the applications with the processes.

abbrev pub running_of : Parts → RunningSystem
running_of p = record { modules = p.modules; processes = p.processes; apps = p.apps }

abbrev pub with_running : RunningSystem → Parts → Parts
with_running s p = record p { modules = s.modules; processes = s.processes; apps = s.apps }

abbrev pub supervised_of : Parts → Supervised
supervised_of p = record { apps = p.apps; processes = p.processes }

abbrev pub with_supervised : Supervised → Parts → Parts
with_supervised s p = record p { apps = s.apps; processes = s.processes }

-- Processes are suspended, and join those that the script has suspended; they are resumed, and leave them.

abbrev pub all_suspended_in : List ℕ → Parts → Parts
all_suspended_in pids p = record p { processes = all_suspended pids p.processes; suspended = p.suspended ++ pids }

abbrev pub all_resumed_in : List (List ℕ) → Parts → Parts
all_resumed_in modules p = record p {
  processes = all_resumed (to_resume modules p.suspended p.apps p.processes) p.processes;
  suspended = still_suspended modules p.suspended p.apps p.processes;
}

-- The children that run and have one of the modules end with `shutdown`; they are stopped, and their names are kept.
abbrev pub all_stopped_in : List (List ℕ) → Parts → Parts
all_stopped_in modules p = record p {
  processes = all_vacated (to_stop modules p.apps) p.processes;
  apps = all_stopped (running_with modules p.apps) p.apps;
  stopped = p.stopped ++ names_at (running_with modules p.apps) p.apps;
}

-- What is known of the script where a `code_change` of a direction is carried out.
abbrev pub script_of : Direction → Parts → Script
script_of direction p = script direction p.versions p.suspended

-- What it does. A load purges old code, makes the object code that is at hand current, and what was current old; a removal
-- purges old code, and makes what was current old. The old code that results is to be purged by their `PostPurge`; their
-- `PrePurge` isn't used.
abbrev pub RunsInstruction : Release → Low → Parts → Parts → List Reply → Type 0
RunsInstruction r (LoadObjectCode app vsn ms) p q told = (missing_object_code app vsn ms r ≡ None) ×
    (q ≡ record p { versions = all_noted p.modules (files_of app vsn r) ms p.versions }) × (told ≡ [])
RunsInstruction r PointOfNoReturn p q told = (q ≡ p) × (told ≡ [])
RunsInstruction r (Load m pre post) p q told = (source : Forms) × (code_at_hand m p.versions r ≡ Some source) ×
    (load_refusal source.name (purged source.name p.modules) ≡ None) ×
    (q ≡ with_running (code_loaded source (Some post) (running_of p)) p) ×
    (told ≡ downs_of_purge source.name p.modules p.processes)
RunsInstruction r (Remove m pre post) p q told =
    (q ≡ with_running (code_removed m (Some post) (running_of p)) p) × (told ≡ downs_of_purge m p.modules p.processes)
RunsInstruction r (Purge ms) p q told = (q ≡ with_running (all_without ms (running_of p)) p) ×
    (told ≡ downs_of_purges ms p.modules p.processes)
RunsInstruction r (Suspend ms) p q told = (q ≡ all_suspended_in (to_suspend (names ms) p.apps p.processes) p) × (told ≡ [])
RunsInstruction r (Resume ms) p q told = (q ≡ all_resumed_in ms p) × (told ≡ [])
RunsInstruction r (CodeChange direction changes) p q told = (u : Upgraded) ×
    AllUpgrade (current_code p.modules) (script_of direction p) changes p.apps p.processes u × AreCounted u.changes u.processes ×
    (q ≡ record p { processes = u.processes; apps = u.apps }) × (told ≡ u.told)
RunsInstruction r (Stop ms) p q told = (q ≡ all_stopped_in ms p) × (told ≡ downs_of_each shutdown (to_stop ms p.apps) p.processes)
RunsInstruction r (Start ms) p q told = (apps : List Application) × (after : Table) ×
    (q ≡ record p { processes = after; apps = apps }) ×
    StartAgain (current_code p.modules) p.stopped ms p.apps p.processes apps after told
RunsInstruction r (Apply m f args) p q told = (s : Supervised) × (q ≡ with_supervised s p) ×
    Applied (current_code p.modules) m f args (supervised_of p) s told

-- Why it fails. A load of a script that was checked never does: what it loads was read before.
abbrev pub Fails : Release → Low → Parts → Term → Type 0
Fails r (LoadObjectCode app vsn ms) p reason = (m : List ℕ) × (missing_object_code app vsn ms r ≡ Some m) ×
    (reason ≡ no_object_code m)
Fails r PointOfNoReturn p reason = ⊥
Fails r (Load m pre post) p reason = HaltsLoad (Failed reason) r m p.versions p.modules
Fails r (Remove m pre post) p reason = ⊥
Fails r (Purge ms) p reason = ⊥
Fails r (Suspend ms) p reason = ⊥
Fails r (Resume ms) p reason = ⊥
Fails r (CodeChange direction changes) p reason =
    HaltsChange (Failed reason) (current_code p.modules) (script_of direction p) changes p.apps p.processes
Fails r (Stop ms) p reason = ⊥
Fails r (Start ms) p reason = (failed : StartFailed) ×
    FailToStartAgain failed (current_code p.modules) p.stopped ms p.apps p.processes ×
    (reason ≡ start_failed failed.child failed.reason)
Fails r (Apply m f args) p reason = NotApplied (current_code p.modules) m f args (supervised_of p) reason

-- A number can't be counted further: the serial of a load, or the turn of a process.
abbrev pub IsAtEnd : Release → Low → Parts → Type 0
IsAtEnd r (LoadObjectCode app vsn ms) p = ⊥
IsAtEnd r PointOfNoReturn p = ⊥
IsAtEnd r (Load m pre post) p = HaltsLoad CounterEnd r m p.versions p.modules
IsAtEnd r (Remove m pre post) p = ⊥
IsAtEnd r (Purge ms) p = ⊥
IsAtEnd r (Suspend ms) p = ⊥
IsAtEnd r (Resume ms) p = ⊥
IsAtEnd r (CodeChange direction changes) p =
    HaltsChange CounterEnd (current_code p.modules) (script_of direction p) changes p.apps p.processes
IsAtEnd r (Stop ms) p = ⊥
IsAtEnd r (Start ms) p = ⊥
IsAtEnd r (Apply m f args) p = ⊥

-- The first process that runs and is to be suspended, unless waiting is given up.
abbrev pub busy_of : Bool → Low → Parts → Option ℕ
busy_of give_up (LoadObjectCode app vsn ms) p = None
busy_of give_up PointOfNoReturn p = None
busy_of give_up (Load m pre post) p = None
busy_of give_up (Remove m pre post) p = None
busy_of give_up (Purge ms) p = None
busy_of give_up (Suspend ms) p = option_map (λ b. b.pid) (suspend_refusal give_up (names ms) p.apps p.processes)
busy_of give_up (Resume ms) p = None
busy_of give_up (CodeChange direction changes) p = None
busy_of give_up (Stop ms) p = None
busy_of give_up (Start ms) p = None
busy_of give_up (Apply m f args) p = None

-- Why it isn't carried out, in order: a process runs; it fails; a number is at its end.
abbrev pub Halts : Halt → Release → Bool → Low → Parts → Type 0
Halts (Busy pid) r give_up i p = busy_of give_up i p ≡ Some pid
Halts (Failed reason) r give_up i p = (busy_of give_up i p ≡ None) × Fails r i p reason
Halts CounterEnd r give_up i p = (busy_of give_up i p ≡ None) × IsAtEnd r i p

-- Memory may be wanting where nobody has to be waited for, and a load has a serial left. That a turn can't be counted is told
-- only after evaluating, which takes memory.
abbrev pub MayRunOut : Release → Bool → Low → Parts → Type 0
MayRunOut r give_up (LoadObjectCode app vsn ms) p = Unit {0}
MayRunOut r give_up PointOfNoReturn p = Unit {0}
MayRunOut r give_up (Load m pre post) p = IsAtEnd r (Load m pre post) p → ⊥
MayRunOut r give_up (Remove m pre post) p = Unit {0}
MayRunOut r give_up (Purge ms) p = Unit {0}
MayRunOut r give_up (Suspend ms) p = busy_of give_up (Suspend ms) p ≡ None
MayRunOut r give_up (Resume ms) p = Unit {0}
MayRunOut r give_up (CodeChange direction changes) p = Unit {0}
MayRunOut r give_up (Stop ms) p = Unit {0}
MayRunOut r give_up (Start ms) p = Unit {0}
MayRunOut r give_up (Apply m f args) p = Unit {0}
