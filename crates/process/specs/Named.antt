-- Instances that are told by names and serials, and found again in the table.
use Rattle.std.specs.Prelude.{◌≡◌, ℕ, ◌==◌, if◌then◌else◌, All, List, [], ◌∷◌, map, Option, None, Some}
use Rattle.std.specs.Option.{option_map, option_or}
use Rattle.erl_ir.specs.Module.{Forms}
use Rattle.erl_semantics.specs.State.{Instance}
use Rattle.code_server.specs.Modules.{IsModuleTable, Table, current_of, old_of}
use Rattle.code_server.specs.declared.modules.Instance as loaded
use Rattle.process.specs.declared.named.CodeRef.{CodeRef}
use Rattle.process.specs.JobCode.{IsJobCode, instance_of}

-- what tells an instance
abbrev pub named_instance : Instance → CodeRef
named_instance i = record { name = i.name; serial = i.serial }

abbrev pub if_serial : ℕ → Option (loaded.Instance Forms) → Option (loaded.Instance Forms)
if_serial serial None = None
if_serial serial (Some i) = if i.serial == serial then Some i else None

-- the current or the old code of a module, whichever has the serial
abbrev pub loaded_with : List ℕ → ℕ → Table Forms → Option (loaded.Instance Forms)
loaded_with name serial t = option_or (if_serial serial (current_of name t)) (if_serial serial (old_of name t))

-- the same with its name
abbrev pub found : List ℕ → ℕ → Table Forms → Option Instance
found name serial t = option_map (instance_of name) (loaded_with name serial t)

abbrev pub and_others : Option Instance → Option (List Instance) → Option (List Instance)
and_others None others = None
and_others (Some i) None = None
and_others (Some i) (Some others) = Some (i ∷ others)

-- all of them, where each is found
abbrev pub all_found : List CodeRef → Table Forms → Option (List Instance)
all_found [] t = Some []
all_found (n ∷ ns) t = and_others (found n.name n.serial t) (all_found ns t)

-- an instance is the current or the old code of its module
pub data StandsIn (t : Table Forms) : Instance → Type 0 where
  as_current : {name : List ℕ} {i : loaded.Instance Forms} → current_of name t ≡ Some i → StandsIn t (instance_of name i)
  as_old : {name : List ℕ} {i : loaded.Instance Forms} → old_of name t ≡ Some i → StandsIn t (instance_of name i)

-- Instances that stand in the table are found by their names and serials.
abbrev pub AreFoundAgain : Type 0
AreFoundAgain = (t : Table Forms) (instances : List Instance) → IsModuleTable t → All (StandsIn t) instances →
    all_found (map named_instance instances) t ≡ Some instances

-- The code of a job that is entered in such an instance stands in the table.
abbrev pub JobCodeStands : Type 0
JobCodeStands = (t : Table Forms) (entered : Instance) (code : List Instance) → IsModuleTable t → StandsIn t entered →
    IsJobCode t entered code → All (StandsIn t) code
