-- What is left to be made again leads where all of it led.
use Rattle.std.proofs.Common.{◌+◌, ◌≤◌, List, vec_len, vec_capacity}
use Rattle.erl_ir.specs.Module.{Forms}
use Rattle.code_server.specs.Modules.{Table as Loaded}
use Rattle.code_server.specs.declared.undo.ModulesUndo as code_undo
use Rattle.code_loading.specs.Unpurging.{Repurges}
use Rattle.code_loading.proofs.unpurging.repurge_all.Given as goal

abbrev pub invariant-loop-redo : goal.invariant-loop-redo
invariant-loop-redo l = record {
  some : (all : List (code_undo.ModulesUndo Forms)) × (m : Loaded Forms) × Repurges l.redos.items l.left.items l.modules all m;
  back : (all : List (code_undo.ModulesUndo Forms)) (m : Loaded Forms) → Repurges l.fn.unpurged.redos.items l.fn.unpurged.left.items l.fn.modules all m → Repurges l.redos.items l.left.items l.modules all m;
  room : vec_len l.left + vec_len l.redos ≤ vec_capacity l.left;
}

abbrev pub decreases-loop-redo : goal.decreases-loop-redo
decreases-loop-redo l = vec_len l.redos
