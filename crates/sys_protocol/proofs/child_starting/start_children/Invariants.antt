-- Whatever is under way, the children so far have started on top of it, and what starts the rest from there starts all.
use Rattle.std.proofs.Common.{◌++◌, List, drop}
use Rattle.process_effects.specs.Begins.{CanGiveUp, IsUnderWay}
use Rattle.process_effects.specs.declared.told.Reply.{Reply}
use Rattle.process_store.specs.Table.{Table}
use Rattle.sys_protocol.proofs.Reached.{Reached}
use Rattle.sys_protocol.proofs.child_starting.start_children.Given as goal

abbrev pub invariant-loop-child : goal.invariant-loop-child
invariant-loop-child l = record {
  so_far : (before t : Table) (told : List Reply) → IsUnderWay l.fn.batch.changes.items l.fn.batch.answers.items before l.fn.processes t told → (now : Table) × (others : List Reply) × Reached l.code l.children t (drop l.child-index l.children) l.pids.items now others × IsUnderWay l.batch.changes.items l.batch.answers.items before l.processes now (told ++ others);
  back : (before : Table) → CanGiveUp l.fn.batch.changes.items before l.fn.processes → CanGiveUp l.batch.changes.items before l.processes;
}
