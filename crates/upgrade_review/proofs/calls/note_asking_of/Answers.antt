-- The next item, and then none is left.
use Rattle.std.proofs.Common.{ℕ, List, subst}
use Rattle.erl_ir.specs.Module.{Key}
use Rattle.upgrade_review.proofs.Adding.{ends, goes_on}
use Rattle.upgrade_review.specs.Calls.{IsAskingKey}
use Rattle.upgrade_review.specs.Gathering.{Adds, FromEach}
use Rattle.upgrade_review.specs.declared.finding.Finding.{Finding}
use Rattle.upgrade_review.proofs.calls.note_asking_of.Goals as goal

pub loop-key-preserved : goal.loop-key-preserved
loop-key-preserved c =
    let R : ℕ → Key → Finding → Type 0 = λ i key. IsAskingKey c.args.server.now.name key in
    goes_on R c.as_slice-asking.result.now _ _ _ _ _ c.loop-key-test.true c.key-item.is c.loop-key.invariant c.in_ok-note_asking.ensures

pub returns : goal.returns
returns c =
    let R : ℕ → Key → Finding → Type 0 = λ i key. IsAskingKey c.args.server.now.name key in
    subst (λ (keys : List Key). Adds (FromEach R keys) c.args.found.now.items c.loop-key.found.items) c.as_slice-asking.ensures
    (ends R c.as_slice-asking.result.now _ _ _ c.loop-key-test.false c.loop-key.invariant)
