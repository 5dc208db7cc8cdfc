-- The applications of a node: their specifications and children, and what steps make of them (application(3); supervisor(3)).
use Rattle.std.specs.Prelude.{ℕ, Bool, true, false, List, [], ◌∷◌, Option, None, Some, is_some, option_and_then, option_map, position, slice_get}
use Rattle.std.specs.Str.{bytes_eq}
use Rattle.values.specs.Edits.{changed_at}
use Rattle.erl_term.specs.declared.term.Term.{Term}
use Rattle.child_specs.specs.Reading.{same_id}
use Rattle.otp_files.specs.declared.app.AppSpec.{AppSpec}
use Rattle.app_table.specs.Children.{after_end, in_state, runs_as}
use Rattle.app_table.specs.declared.spot.Spot.{Spot}
use Rattle.app_table.specs.declared.child.Child.{Child}
use Rattle.app_table.specs.declared.child.ChildState.{ChildState}
use Rattle.app_table.specs.declared.child.ChildState.TheVariants.{Running}

-- An application: its specification, whether it is started, and the children of its supervisor, in order.
pub record Application : Type 0 where
  pub spec : AppSpec
  pub is_started : Bool
  pub children : List Child

-- one that is loaded, and not started
abbrev pub loaded : AppSpec → Application
loaded spec = record { spec = spec; is_started = false; children = [] }

-- with these children, started or not
abbrev pub with_children : Bool → List Child → Application → Application
with_children is_started children a = record a { is_started = is_started; children = children }

-- The application of a name.

abbrev pub has_name : List ℕ → Application → Bool
has_name name a = bytes_eq a.spec.name name

abbrev pub index_of : List ℕ → List Application → Option ℕ
index_of name apps = position (has_name name) apps

abbrev pub at_index : Option ℕ → List Application → Option Application
at_index index apps = option_and_then (slice_get apps) index

abbrev pub app_of : List ℕ → List Application → Option Application
app_of name apps = at_index (index_of name apps) apps

-- It starts: it has these children.

abbrev pub started_at : Option ℕ → List Child → List Application → List Application
started_at None children apps = apps
started_at (Some index) children apps = changed_at (with_children true children) apps index

abbrev pub started : List ℕ → List Child → List Application → List Application
started name children apps = started_at (index_of name apps) children apps

-- A child by its spot: the index of its application, and its own among the children of that.
abbrev pub child_at : Spot → List Application → Option Child
child_at spot apps = option_and_then (λ a. slice_get a.children spot.child) (slice_get apps spot.app)

-- It is changed, by whether its application is started.

abbrev pub with_child : (Bool → Child → Child) → ℕ → Application → Application
with_child f index a = record a { children = changed_at (f a.is_started) a.children index }

abbrev pub changed_child : (Bool → Child → Child) → Spot → List Application → List Application
changed_child f spot apps = changed_at (with_child f spot.child) apps spot.app

abbrev pub changed_if : (Bool → Child → Child) → Option Spot → List Application → List Application
changed_if f None apps = apps
changed_if f (Some spot) apps = changed_child f spot apps

abbrev pub set_child : ChildState → Spot → List Application → List Application
set_child state spot apps = changed_child (λ is_started c. in_state state c) spot apps

-- the first child that is so, in the application of an index

abbrev pub spot_in : (Child → Bool) → ℕ → List Application → Option Spot
spot_in is app apps = option_map (λ child. record { app = app; child = child })
    (option_and_then (λ a. position is a.children) (slice_get apps app))

-- The child of an Id, in the application of a name.

abbrev pub has_id : Term → Child → Bool
has_id id c = same_id id c.spec

abbrev pub spot_of : List ℕ → Term → List Application → Option Spot
spot_of name id apps = option_and_then (λ app. spot_in (has_id id) app apps) (index_of name apps)

abbrev pub child_of : List ℕ → Term → List Application → Option Child
child_of name id apps = option_and_then (λ spot. child_at spot apps) (spot_of name id apps)

-- It runs as another process.
abbrev pub revived : List ℕ → Term → ℕ → List Application → List Application
revived name id pid apps = changed_if (λ is_started c. in_state (Running pid) c) (spot_of name id apps) apps

-- The child that runs as the process of a pid.

abbrev pub has_process : ℕ → Application → Bool
has_process pid a = is_some (position (runs_as pid) a.children)

abbrev pub spot_by_pid : ℕ → List Application → Option Spot
spot_by_pid pid apps = option_and_then (λ app. spot_in (runs_as pid) app apps) (position (has_process pid) apps)

-- Processes end for a reason, one after the other: the child that each is has none, and is due or not.

abbrev pub ended : Term → ℕ → List Application → List Application
ended reason pid apps = changed_if (λ is_started c. after_end is_started reason c) (spot_by_pid pid apps) apps

abbrev pub all_ended : Term → List ℕ → List Application → List Application
all_ended reason [] apps = apps
all_ended reason (pid ∷ pids) apps = all_ended reason pids (ended reason pid apps)
