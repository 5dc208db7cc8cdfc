-- Children by the modules that their specifications name (supervisor(3), Modules; appup(4), suspend, stop, start).
use Rattle.std.specs.Prelude.{ℕ, ◌+◌, Bool, true, false, not, ◌&&◌, if◌then◌else◌, List, [], ◌∷◌, ◌++◌, Option, None, Some, option_and_then, slice_get}
use Rattle.std.specs.List.{flat_map, list_any}
use Rattle.std.specs.Str.{bytes_eq}
use Rattle.child_specs.specs.Reading.{same_id}
use Rattle.app_table.specs.Applications.{Application, child_at, spot_by_pid}
use Rattle.app_table.specs.declared.child.Child.{Child}
use Rattle.app_table.specs.declared.child.ChildState.{ChildState}
use Rattle.app_table.specs.declared.child.ChildState.TheVariants.{Running, Due, Stopped}
use Rattle.app_table.specs.declared.name.ChildName.{ChildName}
use Rattle.app_table.specs.declared.spot.Spot.{Spot}
use Rattle.app_table.specs.declared.undo.ChildProcess.{ChildProcess}

-- A child's specification names a module. `dynamic` names none.
abbrev pub has_module : List ℕ → Child → Bool
has_module m c = list_any (λ name. bytes_eq name m) c.spec.modules

-- Under several modules a child is met at the first that it has, and so once.
abbrev pub is_first_for : List (List ℕ) → List ℕ → Child → Bool
is_first_for before m c = has_module m c && not (list_any (λ b. has_module b c) before)

-- What each child gives, by its application and its spot: applications in order, and the children of each in order.

abbrev pub each_child : {A : Type 0} → (Application → Spot → Child → List A) → Application → ℕ → ℕ → List Child → List A
each_child f a app index [] = []
each_child f a app index (c ∷ cs) = f a (record { app = app; child = index }) c ++ each_child f a app (index + 1) cs

abbrev pub each_of : {A : Type 0} → (Application → Spot → Child → List A) → ℕ → List Application → List A
each_of f app [] = []
each_of f app (a ∷ apps) = each_child f a app 0 a.children ++ each_of f (app + 1) apps

-- The children that run and have one of these modules, with their processes: for each module in turn those that have it, in
-- order.

abbrev pub as_process : Spot → ChildState → List ChildProcess
as_process spot (Running pid) = record { spot = spot; pid = pid } ∷ []
as_process spot Due = []
as_process spot Stopped = []

abbrev pub runs_for : List (List ℕ) → List ℕ → Application → Spot → Child → List ChildProcess
runs_for before m a spot c = if is_first_for before m c then as_process spot c.state else []

abbrev pub running_for : List (List ℕ) → List (List ℕ) → List Application → List ChildProcess
running_for before [] apps = []
running_for before (m ∷ ms) apps = each_of (runs_for before m) 0 apps ++ running_for (before ++ m ∷ []) ms apps

abbrev pub running_with : List (List ℕ) → List Application → List ChildProcess
running_with modules apps = running_for [] modules apps

-- The children that have no process, are among these names, belong to an application that is started, and have one of these
-- modules: for each module in turn those that have it, in order.

abbrev pub is_child : List ℕ → Child → ChildName → Bool
is_child app c n = bytes_eq n.app app && same_id n.id c.spec

abbrev pub is_named_in : List ChildName → List ℕ → Child → Bool
is_named_in names app c = list_any (is_child app c) names

abbrev pub has_none : ChildState → Bool
has_none (Running pid) = false
has_none Due = true
has_none Stopped = true

abbrev pub is_startable : List ChildName → List (List ℕ) → List ℕ → Application → Child → Bool
is_startable names before m a c = a.is_started && has_none c.state && is_first_for before m c && is_named_in names a.spec.name c

abbrev pub idle_for : List ChildName → List (List ℕ) → List ℕ → Application → Spot → Child → List Spot
idle_for names before m a spot c = if is_startable names before m a c then spot ∷ [] else []

abbrev pub startable_for : List ChildName → List (List ℕ) → List (List ℕ) → List Application → List Spot
startable_for names before [] apps = []
startable_for names before (m ∷ ms) apps = each_of (idle_for names before m) 0 apps ++
    startable_for names (before ++ m ∷ []) ms apps

abbrev pub startable : List ChildName → List (List ℕ) → List Application → List Spot
startable names modules apps = startable_for names [] modules apps

-- Whether the child that runs as the process of a pid has a module.

abbrev pub any_has : List ℕ → Option Child → Bool
any_has m None = false
any_has m (Some c) = has_module m c

abbrev pub runs_with : List ℕ → ℕ → List Application → Bool
runs_with m pid apps = any_has m (option_and_then (λ spot. child_at spot apps) (spot_by_pid pid apps))

-- The names of children, by the name of their application and their Id.

abbrev pub name_for : List ℕ → Option Child → List ChildName
name_for app None = []
name_for app (Some c) = record { app = app; id = c.spec.id } ∷ []

abbrev pub name_in : ℕ → Option Application → List ChildName
name_in child None = []
name_in child (Some a) = name_for a.spec.name (slice_get a.children child)

abbrev pub name_at : Spot → List Application → List ChildName
name_at spot apps = name_in spot.child (slice_get apps spot.app)

-- those of the children at the spots of these; a spot without a child has none
abbrev pub names_at : List ChildProcess → List Application → List ChildName
names_at children apps = flat_map (λ c. name_at c.spot apps) children
