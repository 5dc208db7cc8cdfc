-- The next pid of the set is the next whose process could take a message.
use Rattle.std.proofs.Common.{ℕ, ◌+◌, Option, None, Some, sym, ◌∙◌, arith}
use Rattle.ready_set.specs.Flags.{IsNext}
use Rattle.process_store.specs.Ready.{ready}
use Rattle.process_store.specs.Table.{Table}
use Rattle.process_store.proofs.Marking.{in_ready}
use Rattle.process_table.specs.Steps.{IsNextRunnable}

pub next_runnable : (after : ℕ) (t : Table) (o : Option ℕ) → IsNext (after + 1) (ready t) o → IsNextRunnable after o t
next_runnable after t None next = λ pid above _. sym (in_ready t.slots pid) ∙ next pid (omega (arith, above))
next_runnable after t (Some p) next =
    (omega (arith, next.0), sym (in_ready t.slots p) ∙ next.2, λ pid above before. sym (in_ready t.slots pid) ∙ next.3 pid (omega (arith, above)) before)
