-- What takes an instruction back holds of processes, of code, and of the specifications of applications and children: no
-- more than the instruction has taken (`TakesBack`). Besides these it holds numbers, pids, names and flags.
use Rattle.std.specs.Prelude.{◌≡◌, ℕ, List, [], option_to_list}
use Rattle.app_table.specs.Applications.{Application}
use Rattle.app_table.specs.Pieces.{AreSpecsLost, children_at}
use Rattle.code_changes.specs.Undo.{all_formers_at}
use Rattle.code_loading.specs.Pieces.{all_held, held_killed}
use Rattle.code_replacement.specs.Undo as replacing
use Rattle.code_server.specs.Undo as code
use Rattle.code_server.specs.declared.modules.Instance.{Instance}
use Rattle.erl_ir.specs.Module.{Forms}
use Rattle.process_store.specs.Pieces.{Piece, no_pieces}
use Rattle.process_store.specs.Table.{Table}
use Rattle.process_table.specs.Undo.{held}
use Rattle.script_children.specs.Pieces as children
use Rattle.script_runner.specs.declared.undo.InstructionUndo.{InstructionUndo}
use Rattle.script_runner.specs.declared.undo.InstructionUndo.TheVariants.{Nothing, Read, Replaced, Purged, Suspended, Resumed, Changed, Children}
use Rattle.upgrade_calls.specs.Changing.{held_changed}

-- the pieces of the process of a pid, by the processes after the instruction
abbrev pub held_processes : InstructionUndo → Table → ℕ → List Piece
held_processes Nothing t = no_pieces
held_processes (Read count) t = no_pieces
held_processes (Replaced u) t = held_killed u.code.killed t
held_processes (Purged u) t = held u.code.killed t
held_processes (Suspended count) t = no_pieces
held_processes (Resumed u) t = no_pieces
held_processes (Changed u) t = held_changed u.processes t
held_processes (Children u count) t = children.held_processes u t

-- the instances of code
abbrev pub held_instances : InstructionUndo → List (Instance Forms)
held_instances Nothing = []
held_instances (Read count) = []
held_instances (Replaced u) = option_to_list (code.held u.code.modules)
held_instances (Purged u) = all_held u.code.modules
held_instances (Suspended count) = []
held_instances (Resumed u) = []
held_instances (Changed u) = []
held_instances (Children u count) = []

-- It holds of the specifications what the instruction has taken: of a change of code those that stood in each application
-- more often before than after.
abbrev pub SpecsLost : InstructionUndo → List Application → List Application → Type 0
SpecsLost Nothing before after = Unit {0}
SpecsLost (Read count) before after = Unit {0}
SpecsLost (Replaced u) before after = replacing.held_of u.ended after ≡ []
SpecsLost (Purged u) before after = replacing.held_of u.ended after ≡ []
SpecsLost (Suspended count) before after = Unit {0}
SpecsLost (Resumed u) before after = Unit {0}
SpecsLost (Changed u) before after =
    (index : ℕ) → AreSpecsLost (all_formers_at index u.renewals) (children_at index before) (children_at index after)
SpecsLost (Children u count) before after = children.SpecsTaken (children.held_apps u after) before after
