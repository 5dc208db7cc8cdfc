-- The modules that an instruction suspends, though no process is suspended by them (appup(4), suspend).
use Rattle.std.specs.Prelude.{ℕ, Bool, not, ◌||◌, List, [], map, filter, Option, None, Some}
use Rattle.std.specs.List.{list_any}
use Rattle.app_table.specs.Applications.{Application}
use Rattle.app_table.specs.Modules.{has_module}
use Rattle.low_instructions.specs.declared.low.Low.{Low}
use Rattle.low_instructions.specs.declared.low.Low.TheVariants.{LoadObjectCode, PointOfNoReturn, Load, Remove, Purge, Suspend}
use Rattle.low_instructions.specs.declared.low.Low.TheVariants.{Resume, CodeChange, Stop, Start, Apply}
use Rattle.upgrade_review.specs.Codes.{is_start_module}

-- the modules that an instruction suspends
abbrev pub suspended_by : Option Low → List (List ℕ)
suspended_by None = []
suspended_by (Some (LoadObjectCode application version modules)) = []
suspended_by (Some PointOfNoReturn) = []
suspended_by (Some (Load name pre post)) = []
suspended_by (Some (Remove name pre post)) = []
suspended_by (Some (Purge modules)) = []
suspended_by (Some (Suspend modules)) = map (λ m. m.name) modules
suspended_by (Some (Resume modules)) = []
suspended_by (Some (CodeChange direction changes)) = []
suspended_by (Some (Stop modules)) = []
suspended_by (Some (Start modules)) = []
suspended_by (Some (Apply name function arguments)) = []

-- No process is ever suspended by a module that no child names in its specification, whether the child's process lives or not. A
-- child that runs a loop function counts, though no instruction suspends it. A callback module of an application is not among
-- these modules, for its supervisor is no process here.

abbrev pub is_known_by : List ℕ → Application → Bool
is_known_by m a = is_start_module m a.spec.start || list_any (has_module m) a.children

abbrev pub is_known : List ℕ → List Application → Bool
is_known m apps = list_any (is_known_by m) apps

abbrev pub is_nobody : List Application → List ℕ → Bool
is_nobody apps m = not (is_known m apps)

abbrev pub nobody_of : List Application → Option Low → List (List ℕ)
nobody_of apps instruction = filter (is_nobody apps) (suspended_by instruction)
