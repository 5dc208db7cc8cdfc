-- Two nodes, or twice as many as there were, are a tree's number.
use Rattle.std.proofs.Common.{◌≡◌, ◌*◌, ◌∙◌, arith, ap, length}
use Rattle.ready_set.proofs.Sizes.{first_full, twice_full}
use Rattle.ready_set.proofs.tree.grow.Goals as goal
use Rattle.ready_set.proofs.tree.grow.Goals.{then-len-eq0, else-len-eq0}

pub spread-requires-clause-full : goal.spread-requires-clause-full
spread-requires-clause-full c =
    let long : length c.deref_mut.result.now ≡ c.if-len-eq0.wanted = c.deref_mut.ensures.len ∙ c.in_ok-resize.ensures.len in
    let many : c.len-len.result ≡ length c.args.marks.now.items = omega (arith, c.len-len.ensures, c.args.marks.now.ok.0) in
    elim c.if-len-eq0.branch [
      | then-len-eq0 w ↦ first_full c.deref_mut.result.now (long ∙ w.wanted-is)
      | else-len-eq0 w ↦ twice_full c.args.marks.now.items c.deref_mut.result.now c.requires.full (λ none. w.if-len-eq0.false (many ∙ none)) (long ∙ w.wanted-is ∙ ap (λ n. 2 * n) many)
    ]
