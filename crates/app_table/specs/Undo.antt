-- What takes a step of applications back.
use Rattle.std.specs.Prelude.{◌≡◌, ◌≤◌, true, false, if◌then◌else◌, All, List, [], ◌∷◌, ◌++◌, insert, length, take, Option, None, Some, slice_get}
use Rattle.values.specs.Edits.{changed_at}
use Rattle.app_table.specs.Applications.{Application, set_child, with_children}
use Rattle.app_table.specs.Changes.{all_replaced, with_spec}
use Rattle.app_table.specs.Children.{in_state}
use Rattle.app_table.specs.Renewing.{with_unrenewed}
use Rattle.app_table.specs.declared.child.ChildState.TheVariants.{Running, Due, Stopped}
use Rattle.app_table.specs.declared.undo.ChildProcess.{ChildProcess}
use Rattle.app_table.specs.declared.undo.AppsUndo.{AppsUndo}
use Rattle.app_table.specs.declared.undo.AppsUndo.TheVariants.{Started, Revived, AllEnded, AllRun, AppStopped, Renewed}
use Rattle.app_table.specs.declared.undo.Rerun.{Rerun}
use Rattle.app_table.specs.declared.specs.FormerSpecs.{FormerSpecs}
use Rattle.app_table.specs.declared.specs.Replaced.{Replaced}
use Rattle.app_table.specs.declared.undo.PutBack.{PutBack}
use Rattle.app_table.specs.declared.undo.Unloaded.{Unloaded}
use Rattle.app_table.specs.declared.child.Child.{Child}
use Rattle.app_table.specs.declared.child.ChildState.{ChildState}

-- a child runs again as the process that has ended
abbrev pub unended : ChildProcess → List Application → List Application
unended e apps = set_child (Running e.pid) e.spot apps

-- the last of several that have ended first
abbrev pub all_unended : List ChildProcess → List Application → List Application
all_unended [] apps = apps
all_unended (e ∷ es) apps = unended e (all_unended es apps)

-- a child that runs has no process, and is due or stopped, as before

abbrev pub unrun : Rerun → List Application → List Application
unrun r apps = set_child (if r.was_due then Due else Stopped) r.spot apps

abbrev pub all_unrun : List Rerun → List Application → List Application
all_unrun [] apps = apps
all_unrun (r ∷ rs) apps = unrun r (all_unrun rs apps)

-- children in these states, in order; those for which there is none stay

abbrev pub in_states : List ChildState → List Child → List Child
in_states [] children = children
in_states (s ∷ states) [] = []
in_states (s ∷ states) (c ∷ children) = in_state s c ∷ in_states states children

abbrev pub unstopped : List ChildState → Application → Application
unstopped states a = with_children true (in_states states a.children) a

-- the applications before the step
abbrev pub undone : AppsUndo → List Application → List Application
undone (Started app children) apps = changed_at (with_children false children) apps app
undone (Revived spot) apps = set_child Due spot apps
undone (AllEnded es) apps = all_unended es apps
undone (AllRun rs) apps = all_unrun rs apps
undone (AppStopped app states) apps = changed_at (unstopped states) apps app
undone (Renewed app edits) apps = changed_at (with_unrenewed edits) apps app

-- an application that was unloaded stands at its index again
abbrev pub reloaded : Unloaded → List Application → List Application
reloaded u apps = insert apps u.index u.app

-- Specifications that were put back are put in place again, with the applications that were added; and what they then stand in
-- index of.

abbrev pub all_put : List Replaced → List Application → List Application
all_put [] apps = apps
all_put (r ∷ rs) apps = all_put rs (changed_at (with_spec r.spec) apps r.index)

abbrev pub put_again : PutBack → List Application → List Application
put_again p apps = all_put p.replaced (apps ++ p.added)

-- a specification that was replaced, and the one of the application at its index in its stead
abbrev pub with_spec_of : Option Application → Replaced → Replaced
with_spec_of None r = r
with_spec_of (Some a) r = record r { spec = a.spec }

abbrev pub all_left : List Replaced → List Application → List Replaced
all_left [] apps = []
all_left (r ∷ rs) apps = with_spec_of (slice_get apps r.index) r ∷ all_left rs (changed_at (with_spec r.spec) apps r.index)

abbrev pub former_of : PutBack → List Application → FormerSpecs
former_of p apps = record { replaced = all_left p.replaced (apps ++ p.added); added = length p.added }

-- The specifications that those which are put back stand in place of, each at its index.
abbrev pub all_given_up : List Replaced → List Application → List Replaced
all_given_up [] apps = []
all_given_up (r ∷ rs) apps = with_spec_of (slice_get (all_replaced rs apps) r.index) r ∷ all_given_up rs apps

-- Specifications can be put back: each has the name of the application at its index, and there are as many applications as were
-- added.

abbrev pub IsOfIndex : Replaced → List Application → Type 0
IsOfIndex r apps = (a : Application) × (slice_get apps r.index ≡ Some a) × (a.spec.name ≡ r.spec.name)

abbrev pub Fits : FormerSpecs → List Application → Type 0
Fits f apps = (f.added ≤ length apps) × All (λ r. IsOfIndex r apps) f.replaced

-- What was replaced gives the applications that stood there first, behind which others were added.
pub record GivesBack (before : List Application) (replaced : List Replaced) (apps : List Application) : Type 0 where
  pub added : length before ≤ length apps
  pub indices : All (λ r. IsOfIndex r apps) replaced
  pub gives : take (length before) (all_replaced replaced apps) ≡ before
