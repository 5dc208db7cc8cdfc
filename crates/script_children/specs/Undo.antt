-- What takes back what an upgrade has done to children and applications. At most one part of it can be refused, and it goes
-- first: the processes, or the application that is put in again.
use Rattle.std.specs.Prelude.{◌≡◌, ◌≤◌, List, length, Option, None, Some}
use Rattle.app_table.specs.Applications.{Application}
use Rattle.app_table.specs.Undo as apps
use Rattle.app_table.specs.Undo.{reloaded}
use Rattle.app_table.specs.declared.undo.AppsUndo as apps_undo
use Rattle.process_store.specs.Table.{Table}
use Rattle.process_table.specs.Undo.{TakesBackEnds}
use Rattle.process_table.specs.declared.undo.ProcessesUndo as processes_undo
use Rattle.script_children.specs.Children.{Supervised}
use Rattle.script_children.specs.declared.undo.ChildrenUndo.{ChildrenUndo}
use Rattle.script_children.specs.declared.undo.ChildrenUndo.TheVariants.{Changed, Unloaded}

-- of the processes, and of the applications, where any were changed

abbrev pub ProcessesBack : Option processes_undo.ProcessesUndo → Table → Table → Type 0
ProcessesBack None before after = after ≡ before
ProcessesBack (Some undo) before after = TakesBackEnds undo before after

abbrev pub AppsBack : Option apps_undo.AppsUndo → List Application → List Application → Type 0
AppsBack None before after = after ≡ before
AppsBack (Some undo) before after = apps.undone undo after ≡ before

-- it gives both as they were before
abbrev pub TakesBack : ChildrenUndo → Supervised → Supervised → Type 0
TakesBack (Changed processes apps) before after =
    ProcessesBack processes before.processes after.processes × AppsBack apps before.apps after.apps
TakesBack (Unloaded u) before after =
    (after.processes ≡ before.processes) × (reloaded u after.apps ≡ before.apps) × (u.index ≤ length after.apps)
