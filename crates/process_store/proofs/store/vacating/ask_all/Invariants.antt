-- Those that are left give what all of them gave at first, are among them, and nothing has changed under other numbers.
use Rattle.std.proofs.Common.{◌≡◌, ℕ, true}
use Rattle.process_store.specs.Table.{has_number}
use Rattle.process_store.specs.Vacating.{IsSameElsewhere, all_asked}
use Rattle.process_store.proofs.store.vacating.ask_all.Given as goal

abbrev pub invariant-loop-call : goal.invariant-loop-call
invariant-loop-call l = record {
  asked : all_asked l.pid l.call-iterator l.open_calls ≡ all_asked l.pid l.calls l.fn.open_calls;
  among : (number : ℕ) → has_number number l.call-iterator ≡ true → has_number number l.calls ≡ true;
  same : IsSameElsewhere l.calls l.fn.open_calls l.open_calls;
}
