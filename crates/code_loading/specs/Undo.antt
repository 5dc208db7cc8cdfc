-- What takes a load, a purge or a removal back, and with it the kill of those who lingered.
use Rattle.std.specs.Prelude.{◌≡◌, Option, None, Some, option_to_list}
use Rattle.erl_ir.specs.Module.{Forms}
use Rattle.code_server.specs.Modules.{Table as Loaded}
use Rattle.code_server.specs.Undo as code
use Rattle.code_server.specs.Undo.{HasPurged, held}
use Rattle.code_server.specs.declared.undo.ModulesUndo as code_undo
use Rattle.code_server.specs.declared.modules.Instance as loaded
use Rattle.process_store.specs.Pieces.{HoldsLost}
use Rattle.process_store.specs.Table.{Table}
use Rattle.process_table.specs.Undo.{TakesBackEnds}
use Rattle.process_table.specs.declared.undo.ProcessesUndo as processes
use Rattle.code_loading.specs.Pieces.{CodeLost, held_killed}
use Rattle.code_loading.specs.declared.undo.LoadUndo.{LoadUndo}

-- of the processes: nobody was killed, or those live again that were
abbrev pub LivesAgain : code_undo.ModulesUndo Forms → Option processes.ProcessesUndo → Table → Table → Type 0
LivesAgain purge None before after = after ≡ before
LivesAgain purge (Some kill) before after = HasPurged purge × TakesBackEnds kill before after

-- where there is old code its users were killed, and else nobody was
abbrev pub UndoesKills : Option (loaded.Instance Forms) → Option processes.ProcessesUndo → Table → Table → Type 0
UndoesKills None None before after = after ≡ before
UndoesKills None (Some kill) before after = ⊥
UndoesKills (Some i) None before after = ⊥
UndoesKills (Some i) (Some kill) before after = TakesBackEnds kill before after

-- It gives the modules before, and the processes; and it holds nothing of them that the step has not taken.
pub record TakesBack (undo : LoadUndo) (modules : Loaded Forms) (t : Table) (modules_after : Loaded Forms) (after : Table)
    : Type 0 where
  pub fits : code.Fits undo.modules modules_after
  pub code : code.undone undo.modules modules_after ≡ modules
  pub processes : LivesAgain undo.modules undo.killed t after
  pub instances : CodeLost (option_to_list (held undo.modules)) modules modules_after
  pub pieces : HoldsLost (held_killed undo.killed after) t after
