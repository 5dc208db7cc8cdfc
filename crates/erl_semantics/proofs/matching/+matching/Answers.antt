-- Rows of patterns: one by one, and all but the last and then the last.
use Rattle.std.specs.Prelude.{[]}
use Rattle.std.proofs.Common.{arith, rules, ap, ◌∙◌}
use Rattle.erl_semantics.specs.Bindings.{bindings, bound_if}
use Rattle.erl_ir.proofs.PatternRows.{depth_in}
use Rattle.erl_semantics.proofs.Matched.{each_unequal, front_too_short, front_fails, front_then, front_depth, last_depth}
use Rattle.erl_semantics.proofs.matching.+matching.Goals as goal

pub match_all-match_pattern-requires : goal.match_all-match_pattern-requires
match_all-match_pattern-requires t c =
    let smaller = depth_in c.args.patterns.now c.loop-pattern.pattern-index c.pattern-item.result c.loop-pattern-test.true c.pattern-item.is in
    search rules

pub match_each-match_pattern-requires : goal.match_each-match_pattern-requires
match_each-match_pattern-requires t c =
    let smaller = depth_in c.args.patterns.now c.loop-i.i c.index-patterns-i.result c.loop-i-test.true c.index-patterns-i.is in
    search rules

pub match_each-returns-then-patterns-terms : goal.match_each-returns-then-patterns-terms
match_each-returns-then-patterns-terms t c = each_unequal _ _ _ c.if-patterns-terms.true

pub match_front-returns-then-terms-patterns : goal.match_front-returns-then-terms-patterns
match_front-returns-then-terms-patterns t c = front_too_short _ _ c.in-Some.last.now c.as_slice-terms.result.now _ _
    c.in-Some.ensures.cases.0 c.as_slice-terms.ensures c.if-terms-patterns.true

pub match_front-match_each-requires : goal.match_front-match_each-requires
match_front-match_each-requires t c =
    let smaller = front_depth _ _ c.in-Some.last.now c.as_slice-terms.result.now _ [] c.in-Some.ensures.cases.0 c.as_slice-terms.ensures in
    search rules

pub match_front-match_pattern-requires : goal.match_front-match_pattern-requires
match_front-match_pattern-requires t c =
    let smaller = last_depth _ _ c.in-Some.last.now c.as_slice-terms.result.now _ [] c.in-Some.ensures.cases.0 c.as_slice-terms.ensures in
    search rules

pub match_front-returns-then-not-branch : goal.match_front-returns-then-not-branch
match_front-returns-then-not-branch t c = front_fails _ _ c.in-Some.last.now c.as_slice-terms.result.now _ _
    c.in-Some.ensures.cases.0 c.as_slice-terms.ensures (omega (arith, c.if-terms-patterns.false))
    (c.in_ok-match_each.ensures ∙ ap (λ b. bound_if b (bindings c.args.base.now c.match_each.new.fresh.items)) c.if-not-branch.true)

pub match_front-returns : goal.match_front-returns
match_front-returns t c =
    rw (
      front_then _ _ c.in-Some.last.now c.as_slice-terms.result.now _ _
          c.in-Some.ensures.cases.0 c.as_slice-terms.ensures (bindings c.args.base.now c.match_each.new.fresh.items)
          (omega (arith, c.if-terms-patterns.false))
          (c.in_ok-match_each.ensures ∙ ap (λ b. bound_if b (bindings c.args.base.now c.match_each.new.fresh.items)) c.if-not-branch.false),
      ← c.in_ok-rest_behind.ensures,
    ) c.match_pattern.ensures
