-- The next item, and then none is left.
use Rattle.std.proofs.Common.{ℕ, sym, subst}
use Rattle.upgrade_review.proofs.Adding.{ends, goes_on, none_twice}
use Rattle.upgrade_review.proofs.Unanswered.{asking-of-parts}
use Rattle.upgrade_review.specs.Calls.{IsAskingOf}
use Rattle.upgrade_review.specs.Findings.{AreDifferent}
use Rattle.upgrade_review.specs.declared.finding.Finding.{Finding}
use Rattle.upgrade_review.specs.declared.interface.Interface.{Interface}
use Rattle.upgrade_review.proofs.calls.look_inside.Goals as goal

pub loop-server-preserved : goal.loop-server-preserved
loop-server-preserved c =
    let R : ℕ → Interface → Finding → Type 0 = λ i server. IsAskingOf server in
    goes_on R c.args.installed.now _ _ _ _ _ c.loop-server-test.true c.server-item.is c.loop-server.invariant
    c.in_ok-note_asking_of.ensures

pub returns-clause-found : goal.returns-clause-found
returns-clause-found c =
    let R : ℕ → Interface → Finding → Type 0 = λ i server. IsAskingOf server in
    asking-of-parts c.args.installed.now _ _ c.new-found.ensures.items
    (ends R c.args.installed.now _ _ _ c.loop-server-test.false c.loop-server.invariant)

pub returns-clause-once : goal.returns-clause-once
returns-clause-once c = c.loop-server.invariant.once (subst AreDifferent (sym c.new-found.ensures.items) none_twice)
