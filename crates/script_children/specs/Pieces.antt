-- What the undo of a change of children and applications holds: of processes, and of the specifications of applications and
-- children.
use Rattle.std.specs.Prelude.{◌≡◌, ℕ, List, [], ◌++◌, IsPermutation, Option, None, Some}
use Rattle.app_table.specs.Applications.{Application, app_of, started}
use Rattle.app_table.specs.Pieces.{Piece, child_pieces, held, held_unloaded, pieces}
use Rattle.app_table.specs.declared.child.Child.{Child}
use Rattle.app_table.specs.declared.undo.AppsUndo as apps_undo
use Rattle.process_store.specs.Pieces as of_processes
use Rattle.process_store.specs.Pieces.{no_pieces}
use Rattle.process_store.specs.Table.{Table}
use Rattle.script_children.specs.declared.undo.ChildrenUndo.{ChildrenUndo}
use Rattle.script_children.specs.declared.undo.ChildrenUndo.TheVariants.{Changed, Unloaded}
use Rattle.sys_protocol.specs.Refusals.{held_of_start}

-- the pieces of processes, by the processes after the change
abbrev pub held_processes : ChildrenUndo → Table → ℕ → List of_processes.Piece
held_processes (Changed processes apps) t = held_of_start processes t
held_processes (Unloaded u) t = no_pieces

-- the pieces of applications, by the applications after the change

abbrev pub held_if_any : Option apps_undo.AppsUndo → List Application → List Piece
held_if_any None apps = []
held_if_any (Some undo) apps = held undo apps

abbrev pub held_apps : ChildrenUndo → List Application → List Piece
held_apps (Changed processes undo) apps = held_if_any undo apps
held_apps (Unloaded u) apps = held_unloaded u

-- the specifications of the children of an application, if it is there
abbrev pub children_held : Option Application → List Piece
children_held None = []
children_held (Some a) = child_pieces a.spec.name a.children

-- Pieces of applications that a change has taken from them: none; those of the children of an application that has started, whose
-- children its start has replaced; or all that are not left.
pub data SpecsTaken (held : List Piece) (before after : List Application) : Type 0 where
  nothing : held ≡ [] → SpecsTaken held before after
  replaced : (name : List ℕ) (children : List Child) → after ≡ started name children before →
      held ≡ children_held (app_of name before) → SpecsTaken held before after
  unloaded : IsPermutation (held ++ pieces after) (pieces before) → SpecsTaken held before after
