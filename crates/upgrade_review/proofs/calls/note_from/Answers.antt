-- A window begins there, or none does.
use Rattle.std.proofs.Common.{◌-◌, ◌∙◌, length, sym, true≢false}
use Rattle.upgrade_review.proofs.Adding.{adds_nothing}
use Rattle.upgrade_review.proofs.Windows.{holds_first}
use Rattle.upgrade_review.specs.Calls.{IsWindowFrom, holds_at}
use Rattle.upgrade_review.proofs.calls.note_from.Goals as goal

pub returns-else-begins : goal.returns-else-begins
returns-else-begins c =
    let points = c.args.points.now in
    let last = length points - 1 in
    adds_nothing (IsWindowFrom c.args.way (holds_at points) last c.args.from c.args.caller.now c.args.call.now)
    c.args.found.now.items
    (λ f w. true≢false (sym (c.begins.ensures.1 (holds_first (holds_at points) last c.args.from w.0 w.1, w.1.begin)) ∙ c.if-begins.false))
