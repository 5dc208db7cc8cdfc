-- Sizes first, and then row by row.
use Rattle.std.proofs.Common.{◌≤◌, ◌⊎◌, inl, inr, length, nat_cmp, ap₂, ◌∙◌, arith, rules}
use Rattle.erl_term.specs.Order.{trees_cmp}
use Rattle.erl_term.proofs.Rows.{tuples-equal, tuples-unequal, trees_cmp-end, depth_in}
use Rattle.erl_term.proofs.term.+order.Goals as goal
use Rattle.erl_term.proofs.term.+order.Goals.{order::compare_rows-then-ts-us, order::compare_rows-else-ts-us}

pub order::compare_rows-returns : goal.order::compare_rows-returns
order::compare_rows-returns t c =
    let ts = c.args.ts.now in
    let us = c.args.us.now in
    let i = c.loop-i.i in
    let one : i ≤ length ts = elim c.if-ts-us.branch [ order::compare_rows-then-ts-us w ↦ omega arith | order::compare_rows-else-ts-us w ↦ omega arith ] in
    let other : i ≤ length us = elim c.if-ts-us.branch [ order::compare_rows-then-ts-us w ↦ omega arith | order::compare_rows-else-ts-us w ↦ omega arith ] in
    let ends : (length ts ≤ i) ⊎ (length us ≤ i) = elim c.if-ts-us.branch [ order::compare_rows-then-ts-us w ↦ inl (omega arith) | order::compare_rows-else-ts-us w ↦ inr (omega arith) ] in
    c.cmp.ensures ∙ trees_cmp-end ts us i one other ends ∙ c.loop-i.invariant

pub order::compare_rows-cmp-order-requires : goal.order::compare_rows-cmp-order-requires
order::compare_rows-cmp-order-requires t c =
    let smaller = depth_in c.args.ts.now c.loop-i.i c.index-ts-i.result (omega arith) c.index-ts-i.is in
    search rules

pub Terms::compare_sized-returns-in-Equal : goal.Terms::compare_sized-returns-in-Equal
Terms::compare_sized-returns-in-Equal t c =
    tuples-equal c.args.self.now c.args.other.now c.compare_rows.result (c.in-Equal.ensures ∙ ap₂ nat_cmp c.len.ensures c.len-2.ensures) (c.compare_rows.ensures ∙ ap₂ trees_cmp c.as_slice.ensures c.as_slice-in-Equal.ensures)

pub Terms::compare_sized-returns-in_default : goal.Terms::compare_sized-returns-in_default
Terms::compare_sized-returns-in_default t c =
    tuples-unequal c.args.self.now c.args.other.now c.cmp.result (c.cmp.ensures ∙ ap₂ nat_cmp c.len.ensures c.len-2.ensures) c.in_default.not-Equal
