-- What takes several purges back, and with them the kill of those who lingered.
use Rattle.std.specs.Prelude.{◌≡◌, List, [], ◌∷◌, ◌++◌}
use Rattle.erl_ir.specs.Module.{Forms}
use Rattle.code_server.specs.Modules.{Table as Loaded}
use Rattle.code_server.specs.Undo.{Fits, HasPurged, Redoes, undone}
use Rattle.code_server.specs.declared.undo.ModulesUndo.{ModulesUndo}
use Rattle.code_server.specs.declared.undo.Redo.{Redo}
use Rattle.process_store.specs.Pieces.{HoldsLost}
use Rattle.process_store.specs.Table.{Table}
use Rattle.process_table.specs.Undo.{TakesBackEnds, held}
use Rattle.code_loading.specs.Pieces.{CodeLost, all_held}
use Rattle.code_loading.specs.declared.undo.Purges.{Purges}

-- the modules that the undos of purges give back, the last of them first
abbrev pub all_unpurged : List (ModulesUndo Forms) → Loaded Forms → Loaded Forms
all_unpurged [] m = m
all_unpurged (u ∷ us) m = undone u (all_unpurged us m)

-- what they need for it
abbrev pub AllUnpurge : List (ModulesUndo Forms) → Loaded Forms → Type 0
AllUnpurge [] m = Unit {0}
AllUnpurge (u ∷ us) m = AllUnpurge us m × Fits u (all_unpurged us m) × HasPurged u

-- Purges that were taken back are made again, the last of these first, while these undos are left: all undos are there then, and
-- these modules.
abbrev pub Repurges : List (Redo Forms) → List (ModulesUndo Forms) → Loaded Forms → List (ModulesUndo Forms) → Loaded Forms →
    Type 0
Repurges [] left m all after = (left ≡ all) × (m ≡ after)
Repurges (r ∷ rs) left m all after = (u : ModulesUndo Forms) × (us : List (ModulesUndo Forms)) × (before : Loaded Forms) ×
    Repurges rs left m us before × (all ≡ us ++ u ∷ []) × Redoes r u after before

-- It gives the modules before, and the processes; and it holds nothing of them that the purges have not taken.
pub record PurgesBack (undo : Purges) (modules : Loaded Forms) (t : Table) (purged : Loaded Forms) (spared : Table) : Type 0 where
  pub fits : AllUnpurge undo.modules purged
  pub code : all_unpurged undo.modules purged ≡ modules
  pub processes : TakesBackEnds undo.killed t spared
  pub instances : CodeLost (all_held undo.modules) modules purged
  pub pieces : HoldsLost (held undo.killed spared) t spared
