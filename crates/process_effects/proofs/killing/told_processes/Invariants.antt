-- Those so far and the others leave as all do.
use Rattle.std.proofs.Common.{◌≡◌, ◌++◌, All, drop, map}
use Rattle.process_store.specs.Table.{living}
use Rattle.process_effects.specs.Ends.{HasCodeRefs, all_vacated}
use Rattle.process_effects.proofs.killing.told_processes.Given as goal

abbrev pub invariant-loop-pid : goal.invariant-loop-pid
invariant-loop-pid l = record {
  leave : all_vacated (map (λ p. p.pid) l.leaving.items ++ drop l.pid-index l.pids) l.store ≡ all_vacated l.pids l.store;
  told : All (λ p. HasCodeRefs p.told (living p.pid l.store)) l.leaving.items;
}
