-- Each instruction in turn.
use Rattle.std.proofs.Common.{◌∙◌, ap, false, sym}
use Rattle.std.proofs.lemmas.List.{take_all}
use Rattle.upgrade_review.proofs.Through.{through-next, through-none}
use Rattle.upgrade_review.specs.Suspended.{kept_after, through}
use Rattle.upgrade_review.proofs.suspended.has_suspended.Goals as goal

pub loop-low-init : goal.loop-low-init
loop-low-init c = sym (through-none (kept_after c.args.name.now) false)

pub loop-low-preserved : goal.loop-low-preserved
loop-low-preserved c =
    c.kept_after-kept.ensures ∙ through-next (kept_after c.args.name.now) c.args.script.now _ _ _ c.loop-low-test.true c.low-item.is c.loop-low.invariant

pub returns : goal.returns
returns c = c.loop-low.invariant ∙ ap (through (kept_after c.args.name.now) _) (take_all _ c.args.script.now c.loop-low-test.false)
