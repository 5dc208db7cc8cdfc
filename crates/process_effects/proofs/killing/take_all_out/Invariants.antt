-- The others leave as they would have at first, and those that have left can live again.
use Rattle.std.proofs.Common.{◌≡◌, ◌+◌, ◌≤◌, All, map, vec_len, vec_capacity}
use Rattle.erl_ir.specs.Module.{Forms}
use Rattle.code_server.specs.Modules.{Table as Loaded}
use Rattle.process_store.specs.Table.{living}
use Rattle.process_effects.specs.Ends.{AllStand, HasCodeRefs, UndoesEnds, all_vacated}
use Rattle.process_effects.specs.EndedPieces.{held_by_all}
use Rattle.process_effects.proofs.EndedPieces.{HaveLeft}
use Rattle.process_effects.proofs.killing.take_all_out.Given as goal

abbrev pub invariant-loop-leaves : goal.invariant-loop-leaves
invariant-loop-leaves l = record {
  table : all_vacated (map (λ p. p.pid) l.leaving.items) l.store ≡ all_vacated (map (λ p. p.pid) l.fn.leaving.items) l.fn.store;
  told : All (λ p. HasCodeRefs p.told (living p.pid l.store)) l.leaving.items;
  stands : (modules : Loaded Forms) → AllStand modules l.fn.store → AllStand modules l.store;
  back : UndoesEnds l.ended.items l.fn.store l.store;
  left : HaveLeft (held_by_all l.ended.items) l.fn.store l.store;
  room : vec_len l.ended + vec_len l.leaving ≤ vec_capacity l.ended;
}

abbrev pub decreases-loop-leaves : goal.decreases-loop-leaves
decreases-loop-leaves l = vec_len l.leaving
