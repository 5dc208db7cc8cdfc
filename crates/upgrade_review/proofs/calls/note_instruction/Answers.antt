-- It applies a function, or none.
use Rattle.std.proofs.Common.{◌∙◌, sym}
use Rattle.std.proofs.lemmas.Option.{none-some}
use Rattle.upgrade_review.proofs.Adding.{adds_nothing}
use Rattle.upgrade_review.proofs.Unanswered.{noted-of-applied}
use Rattle.upgrade_review.specs.Calls.{AppliesNobodyAt, AppliesNobodyBy, applied_by}
use Rattle.upgrade_review.proofs.calls.note_instruction.Goals as goal

pub returns-in-Some : goal.returns-in-Some
returns-in-Some c =
    let p = c.args.passage in
    noted-of-applied _ (AppliesNobodyAt p.way p.left.now p.installed.now p.script.now c.args.index) (applied_by c.args.low.now)
    c.in-Some.call _ _ (sym c.in_ok-applied.ensures ∙ c.in-Some.is) c.note_apply.ensures

pub returns-in-None : goal.returns-in-None
returns-in-None c =
    let p = c.args.passage in
    adds_nothing (AppliesNobodyBy p.way p.left.now p.installed.now p.script.now c.args.index c.args.low.now) c.args.found.now.items
    (λ f w. none-some w.0 (sym (sym c.in_ok-applied.ensures ∙ c.in-None.is) ∙ w.1))
