use Rattle.std.proofs.Common.{◌≡◌, slice_index_or, rules, ◌∙◌, subst}
use Rattle.std.proofs.lemmas.List.{get_or_default}
use Rattle.entry_lists.specs.Entries.{written_out}
use Rattle.node_lock.specs.Closing.{IsListOf}
use Rattle.node_lock.proofs.Counted.{below-next}
use Rattle.node_lock.proofs.closing.has_foreign.Goals as goal

pub loop-i-preserved : goal.loop-i-preserved
loop-i-preserved g c k d =
    let history = written_out c.args.history.now in
    let seats = c.args.seats.now in
    let kept : IsListOf history c.index-seats-i.result = search rules in
    let at : c.index-seats-i.result ≡ slice_index_or seats c.loop-i.i d = c.index-seats-i.is ∙ get_or_default seats c.loop-i.i c.index-seats-i.result d c.loop-i-test.true in
    let here = subst (IsListOf history) at kept in
    below-next (λ k. IsListOf history (slice_index_or seats k d)) c.loop-i.i (λ k. c.loop-i.invariant k d) here k
