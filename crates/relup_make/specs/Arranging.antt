-- Jobs whose instructions the program has put in order, in the words of the definitions.
use Rattle.std.specs.Prelude.{◌≡◌, ℕ, List, [], ◌∷◌, length, map, flat_map, ⊤}
use Rattle.low_instructions.specs.declared.low.Low.{Low}
use Rattle.low_instructions.specs.declared.modules.Direction.{Direction}
use Rattle.low_instructions.specs.declared.modules.Direction.TheVariants.{Up, Down}
use Rattle.dependency_order.specs.declared.group.Group.{Group}
use Rattle.dependency_order.specs.Orders.{AreOrderedGroups}
use Rattle.relup_make.specs.declared.job.Job.{Job}
use Rattle.relup_make.specs.declared.scripting.Arrangement.{Arrangement}
use Rattle.relup_make.specs.Dependencies.{depends}
use Rattle.relup_make.specs.Parts.{parts_of}
use Rattle.relup_make.specs.Scripts.{Arranged, placed}
use Rattle.relup_make.specs.Work.{Way}

abbrev pub arranged : Arrangement → Arranged
arranged a = record { app = a.job.now.app; groups = map (placed a.job.now.instructions) a.groups }

-- of these jobs, each with the groups of its instructions
abbrev pub AreArrangements : List Job → List Arrangement → Type 0
AreArrangements [] [] = ⊤
AreArrangements [] (a ∷ others) = ⊥
AreArrangements (job ∷ jobs) [] = ⊥
AreArrangements (job ∷ jobs) (a ∷ others) =
    (a.job.now ≡ job) × AreOrderedGroups (depends job.instructions) (length job.instructions) a.groups ×
    AreArrangements jobs others

-- the order of a group's loads
abbrev pub order_of_loads : Direction → Group → List ℕ
order_of_loads Up group = group.dependencies_first
order_of_loads Down group = group.dependants_first

-- the parts of a job's groups
abbrev pub parts_in_order : Way → Arranged → List Low
parts_in_order way job = flat_map (parts_of way.direction way) job.groups
