-- The reports so far are shortened, and the others are as they were.
use Rattle.std.proofs.Common.{◌≡◌, ◌++◌, take, drop, map}
use Rattle.undo_journal.specs.Past.{shortened}
use Rattle.undo_journal.proofs.past.shorten.Given as goal

abbrev pub invariant-loop-report : goal.invariant-loop-report
invariant-loop-report g l =
    l.report-items ≡ map (λ r. shortened l.cut r) (take l.report-index l.initial.report-items) ++ drop l.report-index l.initial.report-items
