-- What takes an instruction back holds nothing of processes, code and specifications that the instruction has not taken.
use Rattle.std.proofs.Common.{◌≡◌, ◌+◌, ◌≤◌, ℕ, List, [], arith, refl, subst, sym, ap}
use Rattle.code_loading.specs.Pieces.{CodeLost}
use Rattle.code_server.specs.Modules.{Table as Loaded}
use Rattle.erl_ir.specs.Module.{Forms}
use Rattle.process_store.specs.Pieces.{HoldsLost, no_pieces}
use Rattle.process_store.specs.Table.{Table}
use Rattle.script_runner.specs.Parts.{Parts}
use Rattle.script_runner.specs.Pieces.{SpecsLost, held_instances, held_processes}
use Rattle.script_runner.specs.Undo.{TakesBack}
use Rattle.script_runner.specs.declared.undo.InstructionUndo.{InstructionUndo}
use Rattle.script_runner.specs.declared.undo.InstructionUndo.TheVariants.{Nothing, Read, Replaced, Purged, Suspended, Resumed, Changed, Children}

pub no_process : (before after : Table) → HoldsLost no_pieces before after
no_process before after pid = ((_, refl), tt)

pub no_instance : (before after : Loaded Forms) → CodeLost [] before after
no_instance before after serial some = absurd (omega (arith, some))

pub processes_taken : (u : InstructionUndo) (p q : Parts) → TakesBack u p q → HoldsLost (held_processes u q.processes) p.processes q.processes
processes_taken Nothing p q takes = no_process p.processes q.processes
processes_taken (Read count) p q takes = no_process p.processes q.processes
processes_taken (Replaced u) p q takes = takes.0.code.pieces
processes_taken (Purged u) p q takes = takes.0.code.pieces
processes_taken (Suspended count) p q takes = no_process p.processes q.processes
processes_taken (Resumed u) p q takes = no_process p.processes q.processes
processes_taken (Changed u) p q takes = takes.2
processes_taken (Children u count) p q takes = takes.4

pub instances_taken : (u : InstructionUndo) (p q : Parts) → TakesBack u p q → CodeLost (held_instances u) p.modules q.modules
instances_taken Nothing p q takes = no_instance p.modules q.modules
instances_taken (Read count) p q takes = no_instance p.modules q.modules
instances_taken (Replaced u) p q takes = takes.0.code.instances
instances_taken (Purged u) p q takes = takes.0.code.instances
instances_taken (Suspended count) p q takes = no_instance p.modules q.modules
instances_taken (Resumed u) p q takes = no_instance p.modules q.modules
instances_taken (Changed u) p q takes = no_instance p.modules q.modules
instances_taken (Children u count) p q takes = no_instance p.modules q.modules

pub specs_taken : (u : InstructionUndo) (p q : Parts) → TakesBack u p q → SpecsLost u p.apps q.apps
specs_taken Nothing p q takes = tt
specs_taken (Read count) p q takes = tt
specs_taken (Replaced u) p q takes = takes.0.specs
specs_taken (Purged u) p q takes = takes.0.specs
specs_taken (Suspended count) p q takes = tt
specs_taken (Resumed u) p q takes = tt
specs_taken (Changed u) p q takes = takes.0.renewals.pieces
specs_taken (Children u count) p q takes = takes.5
