-- What the way back of a record holds of a node, by the kinds of its pieces: the messages and places of processes, the
-- instances of code, the specifications of applications and of their children, the releases, and the script that runs, with
-- its description and what is noted for it. Besides pieces it holds numbers, names, statuses, flags and positions.
use Rattle.std.specs.Prelude.{◌≡◌, ℕ, ◌⊎◌, ◌++◌, IsPermutation, List, [], ◌∷◌, Option, None, Some, option_map, option_to_list}
use Rattle.std.specs.List.{flat_map}
use Rattle.app_table.specs.Pieces as apps
use Rattle.app_table.specs.Undo.{former_of}
use Rattle.code_loading.specs.Pieces.{CodeLost, all_held, held_killed}
use Rattle.code_replacement.specs.Undo as replacing
use Rattle.code_server.specs.Modules.{Entry, Table as Loaded, emptied as without_code}
use Rattle.code_server.specs.Undo as code
use Rattle.code_server.specs.declared.modules.Instance.{Instance}
use Rattle.erl_ir.specs.Module.{Forms}
use Rattle.process_store.specs.Pieces as processes
use Rattle.process_store.specs.Pieces.{Piece, no_pieces, pieces_at}
use Rattle.process_store.specs.Table.{Table, empty_table}
use Rattle.process_table.specs.Undo.{held}
use Rattle.release_statuses.specs.declared.listed.Listed.{Listed}
use Rattle.release_statuses.specs.declared.undo.ReleasesUndo as releases_undo
use Rattle.release_statuses.specs.declared.undo.ReleasesUndo.TheVariants.{Added, Removed, Statuses}
use Rattle.script_ends.specs.Ends.{abandoned_of}
use Rattle.script_runner.specs.Pieces as instructions
use Rattle.script_state.specs.Runner.{RunnerState, runner_of}
use Rattle.node_rules.specs.Node.{NodeState}
use Rattle.node_parts.specs.declared.record.WayBack.{WayBack}
use Rattle.node_parts.specs.declared.record.WayBack.TheVariants.{OfProcesses, OfChildren, OfCode, OfDeletion, OfReleases, OfInstall, OfInstruction, OfFinish, OfRecovery, OfPurges, OfRestart}

-- of the process of a pid, by the processes after the step
abbrev pub held_processes : WayBack → Table → ℕ → List Piece
held_processes (OfProcesses undo) t = held undo t
held_processes (OfChildren undo ended) t = held undo t
held_processes (OfCode undo) t = held_killed undo.code.killed t
held_processes (OfDeletion undo) t = no_pieces
held_processes (OfReleases undo) t = no_pieces
held_processes OfInstall t = no_pieces
held_processes (OfInstruction undo) t = instructions.held_processes undo t
held_processes (OfFinish undo) t = no_pieces
held_processes (OfRecovery undo) t = no_pieces
held_processes (OfPurges undo statuses) t = held undo.code.killed t
held_processes (OfRestart d) t = λ pid. pieces_at pid d.processes

-- the instances of modules
abbrev pub instances_in : Entry Forms → List (Instance Forms)
instances_in entry = option_to_list entry.1.current ++ option_to_list entry.1.former

abbrev pub held_instances : WayBack → List (Instance Forms)
held_instances (OfProcesses undo) = []
held_instances (OfChildren undo ended) = []
held_instances (OfCode undo) = option_to_list (code.held undo.code.modules)
held_instances (OfDeletion undo) = option_to_list (code.held undo)
held_instances (OfReleases undo) = []
held_instances OfInstall = []
held_instances (OfInstruction undo) = instructions.held_instances undo
held_instances (OfFinish undo) = []
held_instances (OfRecovery undo) = []
held_instances (OfPurges undo statuses) = all_held undo.code.modules
held_instances (OfRestart d) = flat_map instances_in d.modules.entries

-- The specifications of a node: those in its applications, and the former ones that the script keeps.

abbrev pub specs_kept : Option RunnerState → List apps.Piece
specs_kept None = []
specs_kept (Some r) = apps.held_former r.former

abbrev pub specs_of : NodeState → List apps.Piece
specs_of n = specs_kept n.runner ++ apps.pieces n.apps

-- All of the specifications before are lost that are not left.
abbrev pub AllTaken : List apps.Piece → List apps.Piece → List apps.Piece → Type 0
AllTaken held before left = IsPermutation (held ++ left) before

-- Of specifications a record holds only what its step has taken: a finished script's former ones, where it was given up the
-- new ones, and all where the node has restarted.
abbrev pub SpecsLost : WayBack → NodeState → NodeState → Type 0
SpecsLost (OfProcesses undo) before after = Unit {0}
SpecsLost (OfChildren undo ended) before after = apps.held ended after.apps ≡ []
SpecsLost (OfCode undo) before after = replacing.held_of undo.ended after.apps ≡ []
SpecsLost (OfDeletion undo) before after = Unit {0}
SpecsLost (OfReleases undo) before after = Unit {0}
SpecsLost OfInstall before after = Unit {0}
SpecsLost (OfInstruction undo) before after = instructions.SpecsLost undo before.apps after.apps
SpecsLost (OfFinish undo) before after = AllTaken (apps.held_former undo.runner.former) (specs_of before) (specs_of after)
SpecsLost (OfRecovery undo) before after = AllTaken (apps.held_back undo.specs) (specs_of before) (specs_of after)
SpecsLost (OfPurges undo statuses) before after = replacing.held_of undo.ended after.apps ≡ []
SpecsLost (OfRestart d) before after = AllTaken (specs_kept (option_map runner_of d.runner) ++
    apps.pieces d.apps) (specs_of before) []

-- the releases
abbrev pub removed_by : releases_undo.ReleasesUndo → List Listed
removed_by Added = []
removed_by (Removed index it) = it ∷ []
removed_by (Statuses former) = []

abbrev pub removed_if_any : Option releases_undo.ReleasesUndo → List Listed
removed_if_any None = []
removed_if_any (Some undo) = removed_by undo

abbrev pub held_releases : WayBack → List Listed
held_releases (OfProcesses undo) = []
held_releases (OfChildren undo ended) = []
held_releases (OfCode undo) = []
held_releases (OfDeletion undo) = []
held_releases (OfReleases undo) = removed_by undo
held_releases OfInstall = []
held_releases (OfInstruction undo) = []
held_releases (OfFinish undo) = removed_by undo.statuses
held_releases (OfRecovery undo) = []
held_releases (OfPurges undo statuses) = removed_if_any statuses
held_releases (OfRestart d) = removed_by d.statuses

-- The script that it holds, with all that is noted for it: that which has ended, if one has. The specifications that a
-- script which was given up had kept are in the applications again.
abbrev pub held_script : WayBack → NodeState → Option RunnerState
held_script (OfProcesses undo) after = None
held_script (OfChildren undo ended) after = None
held_script (OfCode undo) after = None
held_script (OfDeletion undo) after = None
held_script (OfReleases undo) after = None
held_script OfInstall after = None
held_script (OfInstruction undo) after = None
held_script (OfFinish undo) after = Some (runner_of undo.runner)
held_script (OfRecovery undo) after = Some (abandoned_of undo.script (former_of undo.specs after.apps))
held_script (OfPurges undo statuses) after = None
held_script (OfRestart d) after = option_map runner_of d.runner

-- It is the script that ran before, and none runs after.
abbrev pub ScriptLost : Option RunnerState → Option RunnerState → Option RunnerState → Type 0
ScriptLost None before after = Unit {0}
ScriptLost (Some held) before after = (before ≡ Some held) × (after ≡ None)

-- What is left with a step: of a restart nothing but the releases, for all that booted is new.

abbrev pub processes_left : WayBack → NodeState → Table
processes_left (OfRestart d) after = empty_table
processes_left (OfProcesses undo) after = after.processes
processes_left (OfChildren undo ended) after = after.processes
processes_left (OfCode undo) after = after.processes
processes_left (OfDeletion undo) after = after.processes
processes_left (OfReleases undo) after = after.processes
processes_left OfInstall after = after.processes
processes_left (OfInstruction undo) after = after.processes
processes_left (OfFinish undo) after = after.processes
processes_left (OfRecovery undo) after = after.processes
processes_left (OfPurges undo statuses) after = after.processes

abbrev pub code_left : WayBack → NodeState → Loaded Forms
code_left (OfRestart d) after = without_code after.modules
code_left (OfProcesses undo) after = after.modules
code_left (OfChildren undo ended) after = after.modules
code_left (OfCode undo) after = after.modules
code_left (OfDeletion undo) after = after.modules
code_left (OfReleases undo) after = after.modules
code_left OfInstall after = after.modules
code_left (OfInstruction undo) after = after.modules
code_left (OfFinish undo) after = after.modules
code_left (OfRecovery undo) after = after.modules
code_left (OfPurges undo statuses) after = after.modules

-- Some releases are lost: those after are the others before.
abbrev pub ReleasesLost : List Listed → List Listed → List Listed → Type 0
ReleasesLost held before after = (held ≡ []) ⊎ IsPermutation (held ++ after) before

-- Of each kind it holds only what is lost with its step, and each piece once.
pub record HoldsLost (w : WayBack) (before after : NodeState) : Type 0 where
  pub processes : processes.HoldsLost (held_processes w after.processes) before.processes (processes_left w after)
  pub instances : CodeLost (held_instances w) before.modules (code_left w after)
  pub specs : SpecsLost w before after
  pub releases : ReleasesLost (held_releases w) before.releases after.releases
  pub script : ScriptLost (held_script w after) before.runner after.runner
