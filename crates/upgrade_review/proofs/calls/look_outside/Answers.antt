-- The next item, and then none is left.
use Rattle.std.proofs.Common.{ℕ, sym, subst}
use Rattle.upgrade_review.proofs.Adding.{ends, goes_on, none_twice}
use Rattle.upgrade_review.proofs.Unanswered.{outside-of-parts}
use Rattle.upgrade_review.specs.Calls.{IsOutsideOf}
use Rattle.upgrade_review.specs.Findings.{AreDifferent}
use Rattle.upgrade_review.specs.declared.finding.Finding.{Finding}
use Rattle.upgrade_review.specs.declared.interface.Interface.{Interface}
use Rattle.upgrade_review.proofs.calls.look_outside.Goals as goal

pub loop-caller-preserved : goal.loop-caller-preserved
loop-caller-preserved c =
    let R : ℕ → Interface → Finding → Type 0 = λ i caller. IsOutsideOf c.args.left.now c.args.installed.now caller in
    goes_on R c.args.installed.now _ _ _ _ _ c.loop-caller-test.true c.caller-item.is c.loop-caller.invariant
    c.in_ok-note_outside_of.ensures

pub returns-clause-found : goal.returns-clause-found
returns-clause-found c =
    let R : ℕ → Interface → Finding → Type 0 = λ i caller. IsOutsideOf c.args.left.now c.args.installed.now caller in
    outside-of-parts c.args.left.now c.args.installed.now _ _ c.new-found.ensures.items
    (ends R c.args.installed.now _ _ _ c.loop-caller-test.false c.loop-caller.invariant)

pub returns-clause-once : goal.returns-clause-once
returns-clause-once c = c.loop-caller.invariant.once (subst AreDifferent (sym c.new-found.ensures.items) none_twice)
