-- The next point, and then none is left.
use Rattle.std.proofs.Common.{◌≡◌, ◌∙◌, ◌+◌, ◌&&◌, not, ℕ, Bool, length, ap, arith}
use Rattle.std.proofs.lemmas.List.{length_push}
use Rattle.upgrade_review.proofs.Unanswered.{points-next}
use Rattle.upgrade_review.specs.Calls.{holds_at, is_idle}
use Rattle.upgrade_review.proofs.calls.unless_idle.Goals as goal

pub loop-point-init : goal.loop-point-init
loop-point-init c = record {
  within = omega arith;
  count = ap length c.new-found.ensures.items;
  points = λ i below. absurd (omega arith);
}

pub loop-point-preserved : goal.loop-point-preserved
loop-point-preserved c =
    let n = c.loop-point.point in
    let so_far = c.loop-point.invariant in
    let caller = c.args.caller.now in
    let holds : ℕ → Bool =
    λ i. holds_at c.args.points.now i && not (is_idle caller.application caller.name c.args.script.now i) in
    let r = c.holds_unless_idle.result in
    let pushed = c.in_ok-push.ensures.items in
    record {
      within = omega arith;
      count = ap length pushed ∙ length_push c.loop-point.found.items r ∙ ap (λ k. k + 1) so_far.count;
      points = points-next c.loop-point.found.items _ n r holds so_far.count so_far.points pushed c.holds_unless_idle.ensures;
    }

pub returns-clause-count : goal.returns-clause-count
returns-clause-count c =
    let so_far = c.loop-point.invariant in
    omega (arith, so_far.within, so_far.count)

pub returns-clause-points : goal.returns-clause-points
returns-clause-points c =
    let so_far = c.loop-point.invariant in
    λ i below. so_far.points i (omega (arith, so_far.within))
