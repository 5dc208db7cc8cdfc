-- Those that are left give what all of them gave at first.
use Rattle.std.proofs.Common.{◌≡◌}
use Rattle.process_store.specs.Vacating.{all_answered}
use Rattle.process_store.proofs.store.vacating.answer_all.Given as goal

abbrev pub invariant-loop-call : goal.invariant-loop-call
invariant-loop-call l = all_answered l.call-iterator l.open_calls ≡ all_answered l.calls l.fn.open_calls
