-- What instructions become (appup(4), High-Level Instructions; relup(4)): the table of the translation. An instruction on no
-- module is a group by itself, and is neither suspended nor changed.
use Rattle.std.specs.Prelude.{Bool, true, false, if◌then◌else◌, List, [], ◌∷◌, ◌++◌, map, filter, filter_map, flat_map, reverse}
use Rattle.std.specs.Prelude.{ℕ, Option, Some, None, codes}
use Rattle.erl_term.specs.Tree.{Trees, atom, none, more}
use Rattle.release_words.specs.declared.purge.Purge.TheVariants.{Brutal}
use Rattle.release_words.specs.declared.start_type.StartType.{StartType}
use Rattle.release_words.specs.declared.start_type.StartType.TheVariants as types
use Rattle.release_words.specs.Words.{start_type_tree}
use Rattle.low_instructions.specs.declared.low.Low.{Low}
use Rattle.low_instructions.specs.declared.low.Low.TheVariants as lows
use Rattle.low_instructions.specs.declared.modules.Direction.{Direction}
use Rattle.low_instructions.specs.declared.modules.Direction.TheVariants.{Up, Down}
use Rattle.low_instructions.specs.declared.modules.ModuleChange.{ModuleChange}
use Rattle.low_instructions.specs.declared.modules.Suspension.{Suspension}
use Rattle.high_instructions.specs.declared.high.ApplicationWork.{ApplicationWork}
use Rattle.high_instructions.specs.declared.high.ApplicationWork.TheVariants as works
use Rattle.high_instructions.specs.declared.high.High.TheVariants.{Module, Application}
use Rattle.high_instructions.specs.declared.high.ModuleWork.{ModuleWork}
use Rattle.high_instructions.specs.declared.high.ModuleWork.TheVariants.{Update, Load, Add, Delete}
use Rattle.high_instructions.specs.declared.words.Change.{Change}
use Rattle.high_instructions.specs.declared.words.Change.TheVariants.{Soft, Advanced}
use Rattle.high_instructions.specs.declared.words.ModuleType.{ModuleType}
use Rattle.high_instructions.specs.declared.words.ModuleType.TheVariants.{Static, Dynamic}
use Rattle.high_instructions.specs.Forms.{Name, Names}
use Rattle.instructions.specs.declared.instruction.Instruction.{Instruction}
use Rattle.instructions.specs.declared.instruction.Instruction.TheVariants as levels
use Rattle.relup_make.specs.Releases.{modules_in, start_type_in}
use Rattle.relup_make.specs.Work.{Way, source, target}

-- Suspensions: of the updates, each with its timeout

abbrev pub work_suspension : Name → ModuleWork → Option Suspension
work_suspension m (Update type timeout change pre post) = Some (record { name = m; timeout = timeout })
work_suspension m (Load pre post) = None
work_suspension m Add = None
work_suspension m Delete = None

abbrev pub suspension_of : Instruction → Option Suspension
suspension_of (levels.High (Module m)) = work_suspension m.name m.work
suspension_of (levels.High (Application a)) = None
suspension_of (levels.Low low) = None

abbrev pub suspensions : List Instruction → List Suspension
suspensions is = filter_map suspension_of is

-- Changes of state: of the updates that are advanced, with the kind of their modules

abbrev pub advanced : Name → ModuleType → Change → Option (ModuleType × ModuleChange)
advanced m type Soft = None
advanced m type (Advanced extra) = Some (type, record { name = m; extra = extra })

abbrev pub work_change : Name → ModuleWork → Option (ModuleType × ModuleChange)
work_change m (Update type timeout change pre post) = advanced m type change
work_change m (Load pre post) = None
work_change m Add = None
work_change m Delete = None

abbrev pub change_of : Instruction → Option (ModuleType × ModuleChange)
change_of (levels.High (Module m)) = work_change m.name m.work
change_of (levels.High (Application a)) = None
change_of (levels.Low low) = None

-- those of both kinds
abbrev pub changes : List Instruction → List ModuleChange
changes is = map (λ c. c.1) (filter_map change_of is)

abbrev pub is_kind : ModuleType → ModuleType → Bool
is_kind Static Static = true
is_kind Static Dynamic = false
is_kind Dynamic Static = false
is_kind Dynamic Dynamic = true

-- those of one kind
abbrev pub changes_of_kind : ModuleType → List Instruction → List ModuleChange
changes_of_kind type is = map (λ c. c.1) (filter (λ c. is_kind c.0 type) (filter_map change_of is))

-- Loads and removals

abbrev pub purge : Names → List Low
purge [] = []
purge (m ∷ ms) = lows.Purge (m ∷ ms) ∷ []

abbrev pub module_work : Name → ModuleWork → List Low
module_work m (Update type timeout change pre post) = lows.Load m pre post ∷ []
module_work m (Load pre post) = lows.Load m pre post ∷ []
module_work m Add = lows.Load m Brutal Brutal ∷ []
module_work m Delete = lows.Remove m Brutal Brutal ∷ purge (m ∷ [])

-- `{apply,{application,Function,[..]}}`
abbrev pub call : List ℕ → Trees → Low
call function arguments = lows.Apply (codes "application") function arguments

-- an application of the types `load` and `none` is not started, and so not stopped
abbrev pub is_started : StartType → Bool
is_started types.Permanent = true
is_started types.Transient = true
is_started types.Temporary = true
is_started types.Load = false
is_started types.None = false

abbrev pub start : Name → StartType → List Low
start app type =
    if is_started type then call (codes "start") (more (atom app) (more (start_type_tree type) none)) ∷ [] else []

abbrev pub stop : Name → StartType → List Low
stop app type = if is_started type then call (codes "stop") (more (atom app) none) ∷ [] else []

abbrev pub loads : Names → List Low
loads ms = map (λ m. lows.Load m Brutal Brutal) ms

abbrev pub removals : Names → List Low
removals ms = map (λ m. lows.Remove m Brutal Brutal) ms ++ purge ms

-- it is loaded as the target has it, and removed as the source has it
abbrev pub application_work : Way → Name → ApplicationWork → List Low
application_work way app (works.Add type) = loads (modules_in app (target way)) ++ start app type
application_work way app works.Remove =
    stop app (start_type_in app (source way)) ++ removals (modules_in app (source way)) ++
    (call (codes "unload") (more (atom app) none) ∷ [])
application_work way app works.Restart =
    stop app (start_type_in app (source way)) ++ removals (modules_in app (source way)) ++
    loads (modules_in app (target way)) ++ start app (start_type_in app (target way))

-- A low-level instruction stands for itself; object code is read before the point of no return, which a script has once.
abbrev pub low_work : Low → List Low
low_work (lows.LoadObjectCode app vsn ms) = []
low_work lows.PointOfNoReturn = []
low_work (lows.Load m pre post) = lows.Load m pre post ∷ []
low_work (lows.Remove m pre post) = lows.Remove m pre post ∷ []
low_work (lows.Purge ms) = lows.Purge ms ∷ []
low_work (lows.Suspend ms) = lows.Suspend ms ∷ []
low_work (lows.Resume ms) = lows.Resume ms ∷ []
low_work (lows.CodeChange direction cs) = lows.CodeChange direction cs ∷ []
low_work (lows.Stop ms) = lows.Stop ms ∷ []
low_work (lows.Start ms) = lows.Start ms ∷ []
low_work (lows.Apply m function arguments) = lows.Apply m function arguments ∷ []

abbrev pub work_of : Way → Instruction → List Low
work_of way (levels.High (Module m)) = module_work m.name m.work
work_of way (levels.High (Application a)) = application_work way a.name a.work
work_of way (levels.Low low) = low_work low

-- The parts of a group; those that are empty are left out

abbrev pub suspend : List Suspension → List Low
suspend [] = []
suspend (s ∷ ss) = lows.Suspend (s ∷ ss) ∷ []

abbrev pub code_change : Direction → List ModuleChange → List Low
code_change direction [] = []
code_change direction (c ∷ cs) = lows.CodeChange direction (c ∷ cs) ∷ []

abbrev pub resume : Names → List Low
resume [] = []
resume (m ∷ ms) = lows.Resume (m ∷ ms) ∷ []

-- what was suspended is resumed, the last first
abbrev pub resume_all : List Suspension → List Low
resume_all ss = resume (map (λ s. s.name) (reverse ss))

-- the group's instructions in both orders
pub record Ordered (I : Type 0) : Type 0 where
  pub dependencies_first : List I
  pub dependants_first : List I

-- The table: up new code is loaded before states change; down the states of dynamic modules change before old code is
-- loaded, and those of static ones after it.
abbrev pub parts_of : Direction → Way → Ordered Instruction → List Low
parts_of Up way group =
    suspend (suspensions group.dependants_first) ++
    flat_map (work_of way) group.dependencies_first ++
    code_change Up (changes group.dependencies_first) ++
    resume_all (suspensions group.dependants_first)
parts_of Down way group =
    suspend (suspensions group.dependencies_first) ++
    code_change Down (changes_of_kind Dynamic group.dependants_first) ++
    flat_map (work_of way) group.dependants_first ++
    code_change Down (changes_of_kind Static group.dependants_first) ++
    resume_all (suspensions group.dependencies_first)

-- the order of its loads
abbrev pub loading_order : Direction → Ordered Instruction → List Instruction
loading_order Up group = group.dependencies_first
loading_order Down group = group.dependants_first
