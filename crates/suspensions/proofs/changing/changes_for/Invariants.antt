-- The changes so far, and those that are left; and each is of a gen_server process that lives.
use Rattle.std.proofs.Common.{◌≡◌, ◌++◌, All, drop, map}
use Rattle.std.specs.List.{filter}
use Rattle.process_store.specs.Table.{living}
use Rattle.suspensions.specs.Suspending.{is_changed}
use Rattle.suspensions.specs.Versions.{old_vsn}
use Rattle.upgrade_calls.specs.Changing.{IsServer}
use Rattle.suspensions.proofs.changing.changes_for.Given as goal

abbrev pub invariant-loop-pid : goal.invariant-loop-pid
invariant-loop-pid l = record {
  changes : l.changes.items ++ map (λ p. record { pid = p; vsn = old_vsn l.fn.direction l.change.name l.versions; extra = l.change.extra }) (filter (is_changed l.change.name l.apps l.processes) (drop l.pid-index l.suspended)) ≡ map (λ p. record { pid = p; vsn = old_vsn l.fn.direction l.change.name l.versions; extra = l.change.extra }) (filter (is_changed l.change.name l.apps l.processes) l.suspended);
  servers : All (λ c. IsServer (living c.pid l.processes)) l.changes.items;
  told : l.vsn ≡ old_vsn l.fn.direction l.change.name l.versions;
}
