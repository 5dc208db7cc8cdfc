-- It is the one finding of its kind.
use Rattle.std.proofs.Common.{◌≡◌, ◌∙◌, false, true, true≢false, refl, sym, take}
use Rattle.upgrade_review.proofs.Adding.{adds_nothing}
use Rattle.upgrade_review.proofs.Noting.{noted}
use Rattle.upgrade_review.proofs.Unanswered.{answers-after}
use Rattle.upgrade_review.specs.Calls.{AppliesNobodyAt, answers, interface_at, is_known}
use Rattle.upgrade_review.specs.declared.finding.Finding.TheVariants.{AppliesNobody}
use Rattle.upgrade_review.proofs.calls.note_apply.Goals as goal

pub returns : goal.returns
returns c =
    let p = c.args.passage in
    let left = p.left.now in
    let installed = p.installed.now in
    let index = c.args.index in
    let call = c.args.call in
    let before = take index p.script.now in
    let by = c.answered_by-answered in
    let known : is_known call.«module» left installed ≡ true = sym c.is_known.ensures ∙ c.if-not-is_known.false in
    let nobody : answers call (interface_at call.«module» before left installed) ≡ false =
    sym (answers-after left installed call before c.current_by-current.result by.result.left by.result.installed c.at.result
    by.ensures.left by.ensures.installed c.current_by-current.ensures c.at.ensures) ∙ c.if-at.false in
    noted _ (AppliesNobodyAt p.way left installed p.script.now index call) (AppliesNobody p.way index call) _ _
    (known, nobody, refl) (λ f w. w.2) c.note.ensures

pub returns-then-not-is_known : goal.returns-then-not-is_known
returns-then-not-is_known c =
    let p = c.args.passage in
    adds_nothing (AppliesNobodyAt p.way p.left.now p.installed.now p.script.now c.args.index c.args.call) c.args.found.now.items
    (λ f w. true≢false (sym w.0 ∙ sym c.is_known.ensures ∙ c.if-not-is_known.true))

pub returns-then-at : goal.returns-then-at
returns-then-at c =
    let p = c.args.passage in
    let left = p.left.now in
    let installed = p.installed.now in
    let call = c.args.call in
    let before = take c.args.index p.script.now in
    let by = c.answered_by-answered in
    let answered = answers-after left installed call before c.current_by-current.result by.result.left by.result.installed
    c.at.result by.ensures.left by.ensures.installed c.current_by-current.ensures c.at.ensures in
    adds_nothing (AppliesNobodyAt p.way left installed p.script.now c.args.index call) c.args.found.now.items
    (λ f w. true≢false (sym c.if-at.true ∙ answered ∙ w.1))
