-- Pieces of code: the instances of the modules, each by the serial of its load, which no other instance has. They tell how
-- much of the code the record of a step may hold.
use Rattle.std.specs.Prelude.{◌≡◌, ℕ, ◌+◌, ◌≤◌, List, [], ◌∷◌, ◌++◌, Option, None, Some, option_to_list}
use Rattle.std.specs.List.{sum_by}
use Rattle.code_server.specs.Modules.{Table as Loaded, in_entries, in_slot}
use Rattle.code_server.specs.Undo as code
use Rattle.code_server.specs.declared.modules.Instance.{Instance}
use Rattle.code_server.specs.declared.undo.ModulesUndo as code_undo
use Rattle.erl_ir.specs.Module.{Forms}
use Rattle.process_store.specs.Pieces.{Piece, no_pieces}
use Rattle.process_store.specs.Table.{Table}
use Rattle.process_table.specs.Undo.{held}
use Rattle.process_table.specs.declared.undo.ProcessesUndo as processes

-- how often an instance of a serial is among some
abbrev pub among : ℕ → List (Instance Forms) → ℕ
among serial instances = sum_by (λ i. in_slot serial (Some i)) instances

-- What a record holds of the code is lost with the step: the modules before have it so much more often than those after.
abbrev pub CodeLost : List (Instance Forms) → Loaded Forms → Loaded Forms → Type 0
CodeLost instances before after = (serial : ℕ) → 1 ≤ among serial instances →
    among serial instances + in_entries serial after.entries ≤ in_entries serial before.entries

-- what the undos of several changes hold
abbrev pub all_held : List (code_undo.ModulesUndo Forms) → List (Instance Forms)
all_held [] = []
all_held (u ∷ us) = option_to_list (code.held u) ++ all_held us

-- It is just what the modules after lack of those before.
abbrev pub IsTaken : List (code_undo.ModulesUndo Forms) → Loaded Forms → Loaded Forms → Type 0
IsTaken undos before after = (serial : ℕ) →
    among serial (all_held undos) + in_entries serial after.entries ≡ in_entries serial before.entries

-- what the undo of a kill holds of the processes, where somebody was killed
abbrev pub held_killed : Option processes.ProcessesUndo → Table → ℕ → List Piece
held_killed None t = no_pieces
held_killed (Some kill) t = held kill t
