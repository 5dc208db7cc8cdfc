-- One term more in each turn.
use Rattle.std.proofs.Common.{◌+◌, ◌-◌, ◌^◌, min, take, sym, ap, ◌∙◌, subst, arith}
use Rattle.erl_term.specs.Parts.{HasExtent}
use Rattle.erl_term.proofs.Parts.{told_deeper, told_flatter}
use Rattle.erl_term.proofs.term.told.told_of.Goals as goal
use Rattle.erl_term.proofs.term.told.told_of.Goals.{then-told-depth, else-told-depth}

pub loop-i-preserved : goal.loop-i-preserved
loop-i-preserved c =
    let items = c.args.items.now in
    let i = c.loop-i.i in
    let t = c.index-items-i.result in
    let l = c.loop-i.told in
    let depth = c.depth-depth in
    let size = c.size in
    let sum = c.saturating_add in
    elim c.if-told-depth.branch [
      | then-told-depth w ↦
          let whole = sum.ensures ∙ ap (λ told. min (told.size + size.result) (2 ^ 64 - 1)) w.told-is in
          subst (λ told. HasExtent (take (i + 1) items) told.depth told.last sum.result) (sym w.told-is) (told_deeper items i t l.depth l.last l.size depth.result size.result sum.result c.loop-i-test.true c.index-items-i.is c.loop-i.invariant depth.ensures size.ensures (omega arith) whole)
      | else-told-depth w ↦
          let whole = sum.ensures ∙ ap (λ told. min (told.size + size.result) (2 ^ 64 - 1)) w.told-is in
          subst (λ told. HasExtent (take (i + 1) items) told.depth told.last sum.result) (sym w.told-is) (told_flatter items i t l.depth l.last l.size depth.result size.result sum.result c.loop-i-test.true c.index-items-i.is c.loop-i.invariant depth.ensures size.ensures (omega arith) whole)
    ]
