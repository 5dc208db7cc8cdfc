-- Those that are there, and those that are open to the processes that are left, are all.
use Rattle.std.proofs.Common.{◌≡◌, ℕ, ◌||◌}
use Rattle.std.specs.List.{list_any}
use Rattle.process_index.specs.Calls.{AreInOrder, has}
use Rattle.process_index.specs.declared.calls.Call.{Call}
use Rattle.process_store.specs.Indexed.{is_asked_by}
use Rattle.process_store.specs.declared.living.ProcessEntry.{ProcessEntry}
use Rattle.node_restart.proofs.open_calls.open_calls.Given as goal

abbrev pub invariant-loop-living : goal.invariant-loop-living
invariant-loop-living l = record {
  all : (c : Call) → (has c l.all.keys || list_any (λ (e : ℕ × ProcessEntry). has c e.1.calls) l.living-iterator) ≡ list_any (is_asked_by c) l.processes.slots;
  ordered : AreInOrder l.all.keys;
}
