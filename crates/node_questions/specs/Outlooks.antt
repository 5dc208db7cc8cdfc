-- What the children of a node alone show of an instruction, before it is executed (appup(4), Low-Level Instructions;
-- supervisor(3)).
use Rattle.std.specs.Prelude.{ℕ, Bool, true, false, ◌&&◌, if◌then◌else◌, ltb, List, [], ◌∷◌, map, filter, count_by, Option, None, Some}
use Rattle.std.specs.List.{flat_map, list_any}
use Rattle.app_table.specs.Applications.{Application}
use Rattle.app_table.specs.Modules.{has_module}
use Rattle.app_table.specs.declared.child.Child.{Child}
use Rattle.app_table.specs.declared.child.ChildState.{ChildState}
use Rattle.app_table.specs.declared.child.ChildState.TheVariants.{Running, Due, Stopped}
use Rattle.child_specs.specs.declared.child.Restart.{Restart}
use Rattle.child_specs.specs.declared.child.Restart.TheVariants.{Permanent, Transient, Temporary}
use Rattle.low_instructions.specs.declared.low.Low.{Low}
use Rattle.low_instructions.specs.declared.low.Low.TheVariants.{LoadObjectCode, PointOfNoReturn, Load, Remove, Purge, Suspend}
use Rattle.low_instructions.specs.declared.low.Low.TheVariants.{Resume, CodeChange, Stop, Start, Apply}
use Rattle.node_questions.specs.declared.outlook.Outlook.{Outlook}
use Rattle.node_questions.specs.Unsuspended.{nobody_of}

-- The processes of the temporary children that an instruction stops: their supervisors delete these children with their
-- processes.

abbrev pub stopped_by : Option Low → List (List ℕ)
stopped_by None = []
stopped_by (Some (LoadObjectCode application version modules)) = []
stopped_by (Some PointOfNoReturn) = []
stopped_by (Some (Load name pre post)) = []
stopped_by (Some (Remove name pre post)) = []
stopped_by (Some (Purge modules)) = []
stopped_by (Some (Suspend modules)) = []
stopped_by (Some (Resume modules)) = []
stopped_by (Some (CodeChange direction changes)) = []
stopped_by (Some (Stop modules)) = modules
stopped_by (Some (Start modules)) = []
stopped_by (Some (Apply name function arguments)) = []

abbrev pub is_temporary : Restart → Bool
is_temporary Permanent = false
is_temporary Transient = false
is_temporary Temporary = true

abbrev pub pids_in : ChildState → List ℕ
pids_in (Running pid) = pid ∷ []
pids_in Due = []
pids_in Stopped = []

abbrev pub has_one_of : List (List ℕ) → Child → Bool
has_one_of modules c = list_any (λ m. has_module m c) modules

abbrev pub temporary_by : List (List ℕ) → Child → List ℕ
temporary_by modules c = if is_temporary c.spec.restart && has_one_of modules c then pids_in c.state else []

abbrev pub temporary_in : List (List ℕ) → Application → List ℕ
temporary_in modules a = flat_map (temporary_by modules) a.children

abbrev pub temporary_of : List Application → Option Low → List ℕ
temporary_of apps instruction = flat_map (temporary_in (stopped_by instruction)) apps

-- The modules by which an instruction changes states or starts children, and which several children of one application name.

abbrev pub worked_on_by : Option Low → List (List ℕ)
worked_on_by None = []
worked_on_by (Some (LoadObjectCode application version modules)) = []
worked_on_by (Some PointOfNoReturn) = []
worked_on_by (Some (Load name pre post)) = []
worked_on_by (Some (Remove name pre post)) = []
worked_on_by (Some (Purge modules)) = []
worked_on_by (Some (Suspend modules)) = []
worked_on_by (Some (Resume modules)) = []
worked_on_by (Some (CodeChange direction changes)) = map (λ change. change.name) changes
worked_on_by (Some (Stop modules)) = []
worked_on_by (Some (Start modules)) = modules
worked_on_by (Some (Apply name function arguments)) = []

abbrev pub has_several : List ℕ → Application → Bool
has_several m a = ltb 1 (count_by (has_module m) a.children)

abbrev pub is_several : List Application → List ℕ → Bool
is_several apps m = list_any (has_several m) apps

abbrev pub several_of : List Application → Option Low → List (List ℕ)
several_of apps instruction = filter (is_several apps) (worked_on_by instruction)

-- What the children show of an instruction, with the modules that it suspends though no process is suspended by them.
abbrev pub outlook_of : List Application → Option Low → Outlook
outlook_of apps instruction = record {
  nobody = nobody_of apps instruction;
  temporary = temporary_of apps instruction;
  several = several_of apps instruction;
}
