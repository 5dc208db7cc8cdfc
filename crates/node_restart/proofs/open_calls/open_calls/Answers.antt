-- Before the first, all are left.
use Rattle.std.proofs.Common.{◌||◌, ◌∙◌, ℕ, List, ap, subst, sym}
use Rattle.std.specs.List.{list_any}
use Rattle.process_index.specs.Calls.{AreInOrder, has}
use Rattle.process_index.specs.declared.calls.Call.{Call}
use Rattle.process_store.specs.declared.living.ProcessEntry.{ProcessEntry}
use Rattle.node_restart.proofs.AllCalls.{alive_any}
use Rattle.node_restart.proofs.open_calls.open_calls.Goals as goal

pub loop-living-init : goal.loop-living-init
loop-living-init c = record {
  all = λ d. ap (λ (ks : List Call). has d ks || list_any (λ (e : ℕ × ProcessEntry). has d e.1.calls) c.into_iter-living-iterator.result) c.new-all.ensures.empty
      ∙ ap (list_any (λ (e : ℕ × ProcessEntry). has d e.1.calls)) (c.into_iter-living-iterator.ensures.into_iter_gives ∙ c.iter-living-items.ensures.rest)
      ∙ alive_any d 0 c.args.processes.now.slots;
  ordered = subst AreInOrder (sym c.new-all.ensures.empty) tt;
}
