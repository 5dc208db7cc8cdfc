-- Scripts (relup(4)): the object code of the work, the point of no return, and the parts of the work.
use Rattle.std.specs.Prelude.{◌≡◌, ℕ, not, List, [], ◌∷◌, ◌++◌, length, map, filter, filter_map, flat_map, slice_get, ⊤}
use Rattle.std.specs.Str.{bytes_eq}
use Rattle.low_instructions.specs.declared.low.Low.{Low}
use Rattle.low_instructions.specs.declared.low.Low.TheVariants as lows
use Rattle.high_instructions.specs.declared.high.ApplicationWork.{ApplicationWork}
use Rattle.high_instructions.specs.declared.high.ApplicationWork.TheVariants as works
use Rattle.high_instructions.specs.declared.high.High.TheVariants.{Module, Application}
use Rattle.high_instructions.specs.declared.high.ModuleWork.{ModuleWork}
use Rattle.high_instructions.specs.declared.high.ModuleWork.TheVariants.{Update, Load, Add, Delete}
use Rattle.high_instructions.specs.Forms.{Name, Names}
use Rattle.instructions.specs.declared.instruction.Instruction.{Instruction}
use Rattle.instructions.specs.declared.instruction.Instruction.TheVariants as levels
use Rattle.dependency_order.specs.declared.group.Group.{Group}
use Rattle.dependency_order.specs.Orders.{AreOrderedGroups}
use Rattle.relup_make.specs.Dependencies.{depends}
use Rattle.relup_make.specs.Parts.{Ordered, loading_order, parts_of}
use Rattle.relup_make.specs.Releases.{modules_in, version_in}
use Rattle.relup_make.specs.declared.job.Job.{Job}
use Rattle.relup_make.specs.Work.{Way, target}

-- Entries in order

-- the instructions at indices
abbrev pub at : List Instruction → List ℕ → List Instruction
at is indices = filter_map (slice_get is) indices

abbrev pub placed : List Instruction → Group → Ordered Instruction
placed is o = record { dependencies_first = at is o.dependencies_first; dependants_first = at is o.dependants_first }

-- the groups of an entry, in order, each in its two orders
pub record IsArranged (is : List Instruction) (groups : List (Ordered Instruction)) : Type 0 where
  pub ordered : List Group
  pub are_ordered : AreOrderedGroups (depends is) (length is) ordered
  pub is_placed : groups ≡ map (placed is) ordered

-- Jobs with their instructions in order

pub record Arranged : Type 0 where
  pub app : Name
  pub groups : List (Ordered Instruction)

pub record IsArrangement (job : Job) (arranged : Arranged) : Type 0 where
  pub app : arranged.app ≡ job.app
  pub groups : IsArranged job.instructions arranged.groups

abbrev pub AreArranged : List Job → List Arranged → Type 0
AreArranged [] [] = ⊤
AreArranged [] (a ∷ as') = ⊥
AreArranged (j ∷ js) [] = ⊥
AreArranged (j ∷ js) (a ∷ as') = IsArrangement j a × AreArranged js as'

-- Object code: what high-level instructions load, in the order of the loads, with the application whose it is

abbrev pub loaded_work : Name → Name → ModuleWork → List (Name × Name)
loaded_work app m (Update type timeout change pre post) = (app, m) ∷ []
loaded_work app m (Load pre post) = (app, m) ∷ []
loaded_work app m Add = (app, m) ∷ []
loaded_work app m Delete = []

abbrev pub loaded_application : Way → Name → ApplicationWork → List (Name × Name)
loaded_application way app (works.Add type) = map (λ m. (app, m)) (modules_in app (target way))
loaded_application way app works.Remove = []
loaded_application way app works.Restart = map (λ m. (app, m)) (modules_in app (target way))

-- by an instruction of an application's entry
abbrev pub loaded_by : Way → Name → Instruction → List (Name × Name)
loaded_by way app (levels.High (Module m)) = loaded_work app m.name m.work
loaded_by way app (levels.High (Application a)) = loaded_application way a.name a.work
loaded_by way app (levels.Low low) = []

abbrev pub loaded_in : Way → Arranged → List (Name × Name)
loaded_in way job = flat_map (λ group. flat_map (loaded_by way job.app) (loading_order way.direction group)) job.groups

-- each name once, where it stands first
abbrev pub each_once : Names → Names
each_once [] = []
each_once (name ∷ names) = name ∷ filter (λ other. not (bytes_eq other name)) (each_once names)

-- what is loaded of one application
abbrev pub modules_of : Name → List (Name × Name) → Names
modules_of app pairs = each_once (map (λ p. p.1) (filter (λ p. bytes_eq p.0 app) pairs))

-- one `load_object_code` for each application that something is loaded of, of the version that the target has
abbrev pub object_code : Way → List (Name × Name) → List Low
object_code way pairs =
    map (λ app. lows.LoadObjectCode app (version_in app (target way)) (modules_of app pairs)) (each_once (map (λ p. p.0) pairs))

-- those that entries have of their own, in order
abbrev pub own_object_code : Instruction → List Low
own_object_code (levels.High high) = []
own_object_code (levels.Low (lows.LoadObjectCode app vsn ms)) = lows.LoadObjectCode app vsn ms ∷ []
own_object_code (levels.Low low) = []

-- Scripts

abbrev pub script_of : Way → List Job → List Arranged → List Low
script_of way jobs arranged =
    object_code way (flat_map (loaded_in way) arranged) ++
    flat_map (λ job. flat_map own_object_code job.instructions) jobs ++
    (lows.PointOfNoReturn ∷ flat_map (λ job. flat_map (parts_of way.direction way) job.groups) arranged)

-- A script of jobs: there is an arrangement of them of which it is made.
pub record IsScript (way : Way) (jobs : List Job) (script : List Low) : Type 0 where
  pub arranged : List Arranged
  pub are : AreArranged jobs arranged
  pub is : script ≡ script_of way jobs arranged
