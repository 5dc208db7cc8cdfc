-- The findings about the points so far.
use Rattle.std.proofs.Common.{◌-◌, length}
use Rattle.upgrade_review.proofs.Windows.{Below}
use Rattle.upgrade_review.specs.Calls.{IsWindowFrom, holds_at}
use Rattle.upgrade_review.specs.Gathering.{Adds}
use Rattle.upgrade_review.proofs.calls.note_windows.Given as goal

abbrev pub invariant-loop-from : goal.invariant-loop-from
invariant-loop-from l =
    Adds (Below (λ from. IsWindowFrom l.way (holds_at l.points) (length l.points - 1) from l.caller l.call) l.from)
    l.fn.found.items l.found.items
