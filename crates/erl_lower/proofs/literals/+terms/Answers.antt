-- One term more is made, and none is left at the end.
use Rattle.std.proofs.Common.{ap, arith, rules, ℕ}
use Rattle.erl_ast.specs.TreeForms.{trees as trees_of}
use Rattle.erl_term.specs.Term.{trees}
use Rattle.erl_lower.specs.Literals.{terms_in}
use Rattle.erl_lower.proofs.Rows.{ended, next_term, onto_terms, onto_terms-none, tree_in}
use Rattle.erl_lower.proofs.literals.+terms.Goals as goal

pub lower_terms-loop-part-init : goal.lower_terms-loop-part-init
lower_terms-loop-part-init t c = ap (λ ts. onto_terms ts (terms_in c.args.own.now (trees_of c.args.row.now))) c.in_ok-items.ensures.items

pub lower_terms-lower_term-requires : goal.lower_terms-lower_term-requires
lower_terms-lower_term-requires t c =
    let smaller = tree_in c.args.row.now c.loop-part.part-index c.part-item.result c.loop-part-test.true c.part-item.is in
    search rules

pub lower_terms-loop-part-preserved : goal.lower_terms-loop-part-preserved
lower_terms-loop-part-preserved t c =
    next_term c.args.own.now c.loop-part.items.items c.push.new.self.items c.args.row.now c.loop-part.part-index c.part-item.result
    c.in_ok-lower_term.field-0 (terms_in c.args.own.now (trees_of c.args.row.now)) c.loop-part-test.true c.part-item.is
    c.in_ok-push.ensures.items c.in_ok-lower_term.ensures c.loop-part.invariant

pub lower_terms-returns : goal.lower_terms-returns
lower_terms-returns t c =
    ended onto_terms (λ (s : ℕ) xs. terms_in c.args.own.now (trees_of xs)) trees 0 onto_terms-none c.loop-part.items.items c.args.row.now
    c.loop-part.part-index (terms_in c.args.own.now (trees_of c.args.row.now)) (omega (arith, c.loop-part-test.false)) c.loop-part.invariant
