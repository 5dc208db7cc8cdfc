-- Which processes an upgrade suspends, resumes, and has change their states (appup(4), suspend, resume, code_change;
-- supervisor(3), Modules).
use Rattle.std.specs.Prelude.{ℕ, ◌-◌, Bool, true, false, not, ◌&&◌, if◌then◌else◌, List, [], drop, filter, length, map, take}
use Rattle.std.specs.Prelude.{Option, None, Some, option_map, option_to_list}
use Rattle.std.specs.List.{find, flat_map, list_any}
use Rattle.app_table.specs.Applications.{Application}
use Rattle.app_table.specs.Modules.{has_module, running_with, runs_with}
use Rattle.app_table.specs.Ordered.{pid_in}
use Rattle.app_table.specs.declared.child.Child.{Child}
use Rattle.low_instructions.specs.declared.modules.Direction.{Direction}
use Rattle.low_instructions.specs.declared.modules.ModuleChange.{ModuleChange}
use Rattle.low_instructions.specs.declared.modules.Suspension.{Suspension}
use Rattle.process.specs.Process.{is_server_at}
use Rattle.process.specs.declared.activity.Activity.{Activity}
use Rattle.process.specs.declared.activity.Activity.TheVariants.{Idle, Suspended, Runs}
use Rattle.process_store.specs.Table.{Table, living}
use Rattle.process_store.specs.declared.living.ProcessEntry.{ProcessEntry}
use Rattle.suspensions.specs.Versions.{old_vsn}
use Rattle.script_state.specs.declared.noted.NotedVersion.{NotedVersion}
use Rattle.suspensions.specs.declared.busy.Busy.{Busy}
use Rattle.upgrade_calls.specs.declared.changing.CodeChangeCall.{CodeChangeCall}

-- A gen_server process lives, and runs; or it rests, and isn't suspended.

abbrev pub is_running_in : Activity → Bool
is_running_in Idle = false
is_running_in Suspended = false
is_running_in (Runs r) = true

abbrev pub is_idle_in : Activity → Bool
is_idle_in Idle = true
is_idle_in Suspended = false
is_idle_in (Runs r) = false

abbrev pub is_busy : Option ProcessEntry → Bool
is_busy None = false
is_busy (Some l) = is_server_at l.process.place && is_running_in l.process.activity

abbrev pub is_idle : Option ProcessEntry → Bool
is_idle None = false
is_idle (Some l) = is_server_at l.process.place && is_idle_in l.process.activity

abbrev pub is_server : Option ProcessEntry → Bool
is_server None = false
is_server (Some l) = is_server_at l.process.place

abbrev pub is_alive : Option ProcessEntry → Bool
is_alive None = false
is_alive (Some l) = true

-- Suspend: the gen_server processes of children that have one of the modules, for each module in turn the children in
-- order. Where one of them runs, nobody is suspended, unless it is given up to wait for those that run.

abbrev pub names : List Suspension → List (List ℕ)
names modules = map (λ s. s.name) modules

abbrev pub pid_of_child : List ℕ → Child → List ℕ
pid_of_child m c = if has_module m c then option_to_list (pid_in c.state) else []

abbrev pub pids_in : List ℕ → List Child → List ℕ
pids_in m children = flat_map (pid_of_child m) children

abbrev pub pids_of : List ℕ → List Application → List ℕ
pids_of m apps = flat_map (λ a. pids_in m a.children) apps

-- the first that runs
abbrev pub first_busy : List (List ℕ) → List Application → Table → Option ℕ
first_busy modules apps t = find (λ p. is_busy (living p t)) (flat_map (λ m. pids_of m apps) modules)

abbrev pub suspend_refusal : Bool → List (List ℕ) → List Application → Table → Option Busy
suspend_refusal give_up modules apps t = if give_up then None else option_map (λ pid. record { pid = pid })
    (first_busy modules apps t)

-- those that rest
abbrev pub to_suspend : List (List ℕ) → List Application → Table → List ℕ
to_suspend modules apps t = filter (λ p. is_idle (living p t)) (map (λ c. c.pid) (running_with modules apps))

-- The last of those that are suspended, and those before them.

abbrev pub last_of : ℕ → List ℕ → List ℕ
last_of count pids = drop (length pids - count) pids

abbrev pub but_last : ℕ → List ℕ → List ℕ
but_last count pids = take (length pids - count) pids

-- Resume: those of the suspended processes that live, and whose child has one of the modules; the others stay suspended.

abbrev pub is_resumed : List (List ℕ) → List Application → Table → ℕ → Bool
is_resumed modules apps t p = is_alive (living p t) && list_any (λ m. runs_with m p apps) modules

abbrev pub to_resume : List (List ℕ) → List ℕ → List Application → Table → List ℕ
to_resume modules suspended apps t = filter (is_resumed modules apps t) suspended

abbrev pub still_suspended : List (List ℕ) → List ℕ → List Application → Table → List ℕ
still_suspended modules suspended apps t = filter (λ p. not (is_resumed modules apps t p)) suspended

-- Code change, for a module: those of the suspended gen_server processes that live, and whose child has the module, in the
-- order in which they were suspended. Each is given the old version of the module, and the module's extra term.

abbrev pub is_changed : List ℕ → List Application → Table → ℕ → Bool
is_changed m apps t p = is_server (living p t) && runs_with m p apps

abbrev pub changes_for : Direction → List NotedVersion → List ℕ → List Application → Table → ModuleChange → List CodeChangeCall
changes_for direction versions suspended apps t m =
    map (λ p. record { pid = p; vsn = old_vsn direction m.name versions; extra = m.extra })
    (filter (is_changed m.name apps t) suspended)
