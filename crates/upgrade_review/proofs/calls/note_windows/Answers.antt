-- The next point, and then none is left.
use Rattle.std.proofs.Common.{◌-◌, ◌≤◌, ℕ, length, arith}
use Rattle.upgrade_review.proofs.Windows.{begins_within, below_all, below_more, below_none}
use Rattle.upgrade_review.specs.Calls.{IsWindowFrom, holds_at}
use Rattle.upgrade_review.specs.declared.finding.Finding.{Finding}
use Rattle.upgrade_review.proofs.calls.note_windows.Goals as goal

pub loop-from-init : goal.loop-from-init
loop-from-init c =
    let points = c.args.points.now in
    let R : ℕ → Finding → Type 0 =
    λ from. IsWindowFrom c.args.way (holds_at points) (length points - 1) from c.args.caller.now c.args.call.now in
    below_none R c.args.found.now.items

pub loop-from-preserved : goal.loop-from-preserved
loop-from-preserved c =
    let points = c.args.points.now in
    let R : ℕ → Finding → Type 0 =
    λ from. IsWindowFrom c.args.way (holds_at points) (length points - 1) from c.args.caller.now c.args.call.now in
    below_more R c.loop-from.from _ _ _ c.loop-from.invariant c.in_ok-note_from.ensures

pub returns : goal.returns
returns c =
    let points = c.args.points.now in
    let last = length points - 1 in
    let R : ℕ → Finding → Type 0 =
    λ from. IsWindowFrom c.args.way (holds_at points) last from c.args.caller.now c.args.call.now in
    below_all R c.loop-from.from _ _
    (λ i f w. let within : i ≤ last = begins_within c.args.way (holds_at points) last i c.args.caller.now c.args.call.now f w in omega arith)
    c.loop-from.invariant
