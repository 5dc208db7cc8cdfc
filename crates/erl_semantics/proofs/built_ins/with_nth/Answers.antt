use Rattle.std.proofs.Common.{arith, sym, ◌∙◌}
use Rattle.std.specs.Prelude.{set}
use Rattle.erl_term.specs.Term.{tree, trees}
use Rattle.erl_semantics.proofs.built_ins.with_nth.Goals as goal
use Rattle.erl_semantics.proofs.Elements.{with_element_at, with_element_past, with_element_nowhere}
use Rattle.erl_semantics.proofs.Uniqueness.{ap2}

pub returns-in_default : goal.returns-in_default
returns-in_default c = sym (with_element_nowhere _ (tree c.args.z.now) _ c.in_default.ensures)

pub returns-then-index-terms : goal.returns-then-index-terms
returns-then-index-terms c =
    with_element_past _ (tree c.args.z.now) _ _ c.in-Some.index c.as_slice-terms.ensures c.in-Some.ensures c.if-index-terms.true

pub returns : goal.returns
returns c = with_element_at _ _ c.as_slice-terms.result.now c.in-Some.index c.args.z.now c.in_ok-new.field-0
    c.as_slice-terms.ensures c.in-Some.ensures (omega (arith, c.if-index-terms.false))
    (c.in_ok-new.ensures ∙ ap2 (λ ts v. trees (set ts c.in-Some.index v)) c.in_ok-items.ensures c.in_ok-items-2.ensures)
