-- The pids so far whose processes are not alike.
use Rattle.std.proofs.Common.{◌≢◌, ◌↔◌, ◌<◌, ℕ, Contains}
use Rattle.node_views.specs.Changes.{process_of}
use Rattle.node_views.proofs.changes.changed_processes.Given as goal

abbrev pub invariant-loop-pid : goal.invariant-loop-pid
invariant-loop-pid l =
    (p : ℕ) → Contains l.found.items p ↔ ((p < l.pid) × (process_of p l.before ≢ process_of p l.after))
