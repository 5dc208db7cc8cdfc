-- What takes a replacement of code back.
use Rattle.std.specs.Prelude.{◌≡◌, List, [], Option, None, Some}
use Rattle.app_table.specs.Applications.{Application}
use Rattle.app_table.specs.Pieces.{Piece, held}
use Rattle.app_table.specs.Undo as apps
use Rattle.app_table.specs.declared.undo.AppsUndo as apps_undo
use Rattle.code_loading.specs.Undo as loading
use Rattle.code_loading.specs.Unpurging as purging
use Rattle.code_replacement.specs.Replacing.{RunningSystem}
use Rattle.code_replacement.specs.declared.undo.Purges.{Purges}
use Rattle.code_replacement.specs.declared.undo.ReplacementUndo.{ReplacementUndo}

-- of the children: none has ended, or those run again that have
abbrev pub ChildrenBack : Option apps_undo.AppsUndo → List Application → List Application → Type 0
ChildrenBack None before after = after ≡ before
ChildrenBack (Some undo) before after = apps.undone undo after ≡ before

-- what it holds of the specifications of applications and children, by the applications after
abbrev pub held_of : Option apps_undo.AppsUndo → List Application → List Piece
held_of None apps = []
held_of (Some undo) apps = held undo apps

-- It gives what ran before, and it holds nothing of that but what was taken: of the specifications none was.

pub record TakesBack (undo : ReplacementUndo) (before after : RunningSystem) : Type 0 where
  pub code : loading.TakesBack undo.code before.modules before.processes after.modules after.processes
  pub children : ChildrenBack undo.ended before.apps after.apps
  pub specs : held_of undo.ended after.apps ≡ []

pub record PurgesBack (undo : Purges) (before after : RunningSystem) : Type 0 where
  pub code : purging.PurgesBack undo.code before.modules before.processes after.modules after.processes
  pub children : ChildrenBack undo.ended before.apps after.apps
  pub specs : held_of undo.ended after.apps ≡ []
