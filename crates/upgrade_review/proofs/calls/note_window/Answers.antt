-- It is the one window that begins there.
use Rattle.std.proofs.Common.{◌≡◌, ◌-◌, ◌∙◌, length, sym, ap, subst, true≢false}
use Rattle.upgrade_review.proofs.Adding.{adds_nothing}
use Rattle.upgrade_review.proofs.Noting.{noted}
use Rattle.upgrade_review.proofs.Windows.{only_window}
use Rattle.upgrade_review.specs.Calls.{IsOfUpgrade, IsWindowFrom, holds_at}
use Rattle.upgrade_review.specs.declared.finding.Finding.TheVariants.{Unanswered}
use Rattle.upgrade_review.proofs.calls.note_window.Goals as goal

pub returns : goal.returns
returns c =
    let way = c.args.way in
    let points = c.args.points.now in
    let last = length points - 1 in
    let from = c.args.from in
    let to = c.end_of-to.result in
    let caller = c.args.caller.now in
    let call = c.args.call.now in
    let told = Unanswered way from to c.in_ok-caller.caller c.in_ok-call.call in
    let same : told ≡ Unanswered way from to caller call =
    ap (λ it. Unanswered way from to it c.in_ok-call.call) c.in_ok-caller.ensures
    ∙ ap (Unanswered way from to caller) c.in_ok-call.ensures in
    noted _ (IsWindowFrom way (holds_at points) last from caller call) told _ _
    (to, c.end_of-to.ensures, c.is_of_upgrade.ensures.0 c.if-not-is_of_upgrade.false, same)
    (λ f w. w.3 ∙ ap (λ it. Unanswered way from it caller call)
    (only_window (holds_at points) last from to w.0 c.end_of-to.ensures w.1) ∙ sym same) c.note.ensures

pub returns-then-not-is_of_upgrade : goal.returns-then-not-is_of_upgrade
returns-then-not-is_of_upgrade c =
    let points = c.args.points.now in
    let last = length points - 1 in
    let from = c.args.from in
    let to = c.end_of-to.result in
    adds_nothing (IsWindowFrom c.args.way (holds_at points) last from c.args.caller.now c.args.call.now) c.args.found.now.items
    (λ f w. let there = subst (IsOfUpgrade from) (only_window (holds_at points) last from to w.0 c.end_of-to.ensures w.1) w.2 in
    true≢false (sym (c.is_of_upgrade.ensures.1 there) ∙ c.if-not-is_of_upgrade.true))
