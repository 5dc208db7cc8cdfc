-- The windows are those of the list of points.
use Rattle.std.proofs.Common.{◌≡◌, ◌∙◌, ◌-◌, ◌≤◌, ℕ, true, true≢false, List, Bool, OnOk, length, sym, subst, take}
use Rattle.upgrade_review.proofs.Adding.{adds_nothing}
use Rattle.upgrade_review.proofs.Unanswered.{windows-of-points}
use Rattle.upgrade_review.specs.Calls.{IsUnansweredCall, IsWindowFinding, holds_at, is_known, is_unanswered}
use Rattle.upgrade_review.specs.Gathering.{Adds}
use Rattle.upgrade_review.proofs.calls.note_call.Goals as goal

pub returns : goal.returns
returns c =
    let p = c.args.passage in
    let caller = c.args.caller.now in
    let call = c.args.call.now in
    let known : is_known call.«module» p.left.now p.installed.now ≡ true = sym c.is_known.ensures ∙ c.if-not-is_known.false in
    let noted = subst (λ (points : List Bool). OnOk c.note_windows.result (Adds
    (IsWindowFinding p.way (holds_at points) (length points - 1) caller.name call) c.args.found.now.items
    c.note_windows.new.found.items)) c.as_slice-2.ensures.value c.note_windows.ensures in
    let written = subst (λ (points : List Bool). (i : ℕ) → i ≤ length p.script.now →
    holds_at points i ≡ is_unanswered p.left.now p.installed.now caller.name call (take i p.script.now))
    (sym c.as_slice.ensures.value) c.in_ok-unanswered.ensures.points in
    windows-of-points _ p.way p.left.now p.installed.now p.script.now caller.application caller.name call
    c.as_slice.result.now c.in_ok-points.points.items _ _ known c.in_ok-points.ensures.count
    c.in_ok-points.ensures.points written noted

pub returns-then-not-is_known : goal.returns-then-not-is_known
returns-then-not-is_known c =
    let p = c.args.passage in
    let caller = c.args.caller.now in
    adds_nothing (IsUnansweredCall p.way p.left.now p.installed.now p.script.now caller.application caller.name c.args.call.now)
    c.args.found.now.items (λ f w. true≢false (sym w.0 ∙ sym c.is_known.ensures ∙ c.if-not-is_known.true))
