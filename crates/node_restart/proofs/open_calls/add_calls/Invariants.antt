-- Those that are there, and those that are left, are those that were there and those that are added.
use Rattle.std.proofs.Common.{◌≡◌, ◌||◌}
use Rattle.process_index.specs.Calls.{AreInOrder, has}
use Rattle.process_index.specs.declared.calls.Call.{Call}
use Rattle.node_restart.proofs.open_calls.add_calls.Given as goal

abbrev pub invariant-loop-call : goal.invariant-loop-call
invariant-loop-call l = record {
  all : (c : Call) → (has c l.all.keys || has c l.call-iterator) ≡ (has c l.fn.all.keys || has c l.calls);
  ordered : AreInOrder l.all.keys;
}
