-- One point more.
use Rattle.std.proofs.Common.{◌≡◌, ◌∙◌, ◌+◌, ◌++◌, ◌∷◌, [], Bool, List, length, sym, ap, take, arith}
use Rattle.std.proofs.lemmas.List.{length_push}
use Rattle.upgrade_review.proofs.Unanswered.{current-next, current-none, point, points-first, points-more}
use Rattle.upgrade_review.specs.Calls.{is_unanswered}
use Rattle.upgrade_review.specs.declared.calls.Current.TheVariants.{Left}
use Rattle.upgrade_review.proofs.calls.unanswered_points.Goals as goal

pub loop-low-init : goal.loop-low-init
loop-low-init c =
    let p = c.args.passage in
    let left = p.left.now in
    let installed = p.installed.now in
    let caller = c.args.caller.now in
    let call = c.args.call.now in
    let made = c.made_by-made in
    let answered = c.answered_by-answered in
    let r = c.is_unanswered.result in
    let caller_at = sym (current-none caller Left) in
    let called_at = sym (current-none call.«module» Left) in
    let here = point left installed caller call [] Left Left made.result.left made.result.installed answered.result.left
    answered.result.installed r made.ensures.left made.ensures.installed answered.ensures.left answered.ensures.installed
    caller_at called_at c.is_unanswered.ensures in
    let pushed : c.push.new.self.items ≡ [] ++ r ∷ [] =
    c.in_ok-push.ensures.items ∙ ap (λ (xs : List Bool). xs ++ r ∷ []) c.new-points.ensures.items in
    record {
      caller_at = caller_at;
      called_at = called_at;
      within = omega arith;
      count = ap length pushed;
      points = points-first _ r (λ i. is_unanswered left installed caller call (take i p.script.now)) pushed here;
    }

pub loop-low-preserved : goal.loop-low-preserved
loop-low-preserved c =
    let p = c.args.passage in
    let left = p.left.now in
    let installed = p.installed.now in
    let script = p.script.now in
    let caller = c.args.caller.now in
    let call = c.args.call.now in
    let made = c.made_by-made in
    let answered = c.answered_by-answered in
    let n = c.loop-low.low-index in
    let so_far = c.loop-low.invariant in
    let low = c.low-item.result in
    let r = c.is_unanswered-in-loop-low.result in
    let caller_at = c.current_after-caller_code.ensures ∙
    current-next caller script n low _ c.loop-low-test.true c.low-item.is so_far.caller_at in
    let called_at = c.current_after-called_code.ensures ∙
    current-next call.«module» script n low _ c.loop-low-test.true c.low-item.is so_far.called_at in
    let here = point left installed caller call (take (n + 1) script) c.current_after-caller_code.result
    c.current_after-called_code.result made.result.left made.result.installed answered.result.left answered.result.installed r
    made.ensures.left made.ensures.installed answered.ensures.left answered.ensures.installed caller_at called_at
    c.is_unanswered-in-loop-low.ensures in
    let pushed : c.push-in-loop-low.new.self.items ≡ c.loop-low.points.items ++ r ∷ [] = c.in_ok-push-2.ensures.items in
    record {
      caller_at = caller_at;
      called_at = called_at;
      within = omega arith;
      count = ap length pushed ∙ length_push c.loop-low.points.items r ∙ ap (λ k. k + 1) so_far.count;
      points = points-more c.loop-low.points.items _ n r (λ i. is_unanswered left installed caller call (take i script))
          so_far.count so_far.points pushed here;
    }
