-- What the instructions of an upgrade make of applications and their children (appup(4), stop, start, apply; application(3),
-- stop/1, unload/1; release_handler(3), install_release/1).
use Rattle.std.specs.Prelude.{◌≡◌, ℕ, ◌-◌, true, false, if◌then◌else◌, All, List, [], ◌∷◌, ◌++◌, length, map, remove, reverse, take, Option, None, Some, slice_get}
use Rattle.std.specs.List.{filter_map}
use Rattle.values.specs.Edits.{changed_at}
use Rattle.otp_files.specs.declared.app.AppSpec.{AppSpec}
use Rattle.app_table.specs.Applications.{Application, child_at, loaded, index_of, set_child, with_children}
use Rattle.app_table.specs.Children.{in_state}
use Rattle.app_table.specs.Modules.{has_none}
use Rattle.app_table.specs.Ordered.{pid_in}
use Rattle.app_table.specs.declared.child.Child.{Child}
use Rattle.app_table.specs.declared.child.ChildState.TheVariants.{Running, Due, Stopped}
use Rattle.app_table.specs.declared.specs.Replaced.{Replaced}
use Rattle.app_table.specs.declared.specs.FormerSpecs.{FormerSpecs}
use Rattle.app_table.specs.declared.spot.Spot.{Spot}
use Rattle.app_table.specs.declared.undo.ChildProcess.{ChildProcess}
use Rattle.app_table.specs.declared.undo.Rerun.{Rerun}

-- A child runs as the process of a pid.
abbrev pub RunsAs : ChildProcess → List Application → Type 0
RunsAs c apps = (child : Child) × (child_at c.spot apps ≡ Some child) × (child.state ≡ Running c.pid)

-- A child has no process.
abbrev pub IsIdleAt : Spot → List Application → Type 0
IsIdleAt spot apps = (child : Child) × (child_at spot apps ≡ Some child) × (has_none child.state ≡ true)

-- Children are due or stopped, as it is noted of each.

abbrev pub IsNoted : Rerun → List Application → Type 0
IsNoted r apps = (child : Child) × (child_at r.spot apps ≡ Some child) × (child.state ≡ (if r.was_due then Due else Stopped))

abbrev pub AreNoted : List Rerun → List Application → Type 0
AreNoted rs apps = All (λ r. IsNoted r apps) rs

-- Children are stopped: they have no process, and none of them is due.
abbrev pub all_stopped : List ChildProcess → List Application → List Application
all_stopped [] apps = apps
all_stopped (c ∷ cs) apps = all_stopped cs (set_child Stopped c.spot apps)

-- Children run as processes.
abbrev pub all_run : List ChildProcess → List Application → List Application
all_run [] apps = apps
all_run (c ∷ cs) apps = all_run cs (set_child (Running c.pid) c.spot apps)

-- the processes of the children at some spots, in order
abbrev pub at_spots : List Spot → List ℕ → List ChildProcess
at_spots [] pids = []
at_spots (spot ∷ spots) [] = []
at_spots (spot ∷ spots) (pid ∷ pids) = record { spot = spot; pid = pid } ∷ at_spots spots pids

-- An application is stopped: it isn't started, and keeps its children, of which none has a process or is due. They end from the
-- last to the first.

abbrev pub stopped : Application → Application
stopped a = with_children false (map (in_state Stopped) a.children) a

abbrev pub app_stopped : ℕ → List Application → List Application
app_stopped index apps = changed_at stopped apps index

abbrev pub pids_back : List Child → List ℕ
pids_back children = reverse (filter_map (λ c. pid_in c.state) children)

abbrev pub children_of : Option Application → List Child
children_of None = []
children_of (Some a) = a.children

-- the processes of its children in the order in which they end
abbrev pub ending_order : ℕ → List Application → List ℕ
ending_order index apps = pids_back (children_of (slice_get apps index))

-- An application is unloaded: it leaves, with its children.
abbrev pub unloaded : ℕ → List Application → List Application
unloaded index apps = remove apps index

-- Specifications of a release are put in place of those of the same name; new names go last. Children, and what is started, stay.

abbrev pub with_spec : AppSpec → Application → Application
with_spec spec a = record a { spec = spec }

abbrev pub spec_set_at : Option ℕ → AppSpec → List Application → List Application
spec_set_at None spec apps = apps ++ loaded spec ∷ []
spec_set_at (Some index) spec apps = changed_at (with_spec spec) apps index

abbrev pub specs_set : List AppSpec → List Application → List Application
specs_set [] apps = apps
specs_set (spec ∷ specs) apps = specs_set specs (spec_set_at (index_of spec.name apps) spec apps)

-- What they stand in place of: each former specification, with the index of its application, in the order in which they were
-- replaced; and how many applications were added.

abbrev pub replaced_as : ℕ → Option Application → List Replaced
replaced_as index None = []
replaced_as index (Some a) = record { index = index; spec = a.spec } ∷ []

abbrev pub replaced_at : Option ℕ → List Application → List Replaced
replaced_at None apps = []
replaced_at (Some index) apps = replaced_as index (slice_get apps index)

abbrev pub replaced_by : List AppSpec → List Application → List Replaced
replaced_by [] apps = []
replaced_by (spec ∷ specs) apps =
    replaced_at (index_of spec.name apps) apps ++ replaced_by specs (spec_set_at (index_of spec.name apps) spec apps)

abbrev pub former_specs : List AppSpec → List Application → FormerSpecs
former_specs specs apps = record { replaced = replaced_by specs apps; added = length (specs_set specs apps) - length apps }

-- They are put back: each application that has got one has its former specification again, the last first, and then those that
-- were added last leave.

abbrev pub all_replaced : List Replaced → List Application → List Application
all_replaced [] apps = apps
all_replaced (r ∷ rs) apps = changed_at (with_spec r.spec) (all_replaced rs apps) r.index

abbrev pub without_last : ℕ → List Application → List Application
without_last count apps = take (length apps - count) apps

abbrev pub put_back : FormerSpecs → List Application → List Application
put_back former apps = without_last former.added (all_replaced former.replaced apps)
