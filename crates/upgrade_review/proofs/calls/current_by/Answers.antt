-- Each instruction in turn.
use Rattle.std.proofs.Common.{◌∙◌, ap, sym}
use Rattle.std.proofs.lemmas.List.{take_all}
use Rattle.upgrade_review.proofs.Unanswered.{current-next, current-none}
use Rattle.upgrade_review.specs.Calls.{current_by}
use Rattle.upgrade_review.specs.declared.calls.Current.TheVariants.{Left}
use Rattle.upgrade_review.proofs.calls.current_by.Goals as goal

pub loop-low-init : goal.loop-low-init
loop-low-init c = sym (current-none c.args.name.now Left)

pub loop-low-preserved : goal.loop-low-preserved
loop-low-preserved c =
    c.current_after-current.ensures ∙ current-next c.args.name.now c.args.script.now _ _ _ c.loop-low-test.true c.low-item.is c.loop-low.invariant

pub returns : goal.returns
returns c = c.loop-low.invariant ∙ ap (current_by c.args.name.now Left) (take_all _ c.args.script.now c.loop-low-test.false)
