-- The laws of the order, for terms as the code has them.
use Rattle.std.specs.Prelude.{◌≡◌, refl}
use Rattle.std.specs.declared.cmp.Ordering.TheVariants.{Equal}
use Rattle.std.specs.Ordering.{as_partial_cmp, eq_by_cmp, on}
use Rattle.std.specs.Cmp.{IsTotalOrder, IsPartialOrder, IsEquivalence, IsPartialEquivalence, partial_equiv_from_equiv}
use Rattle.std.specs.Cmp.{eq_by_cmp_equiv, po}
use Rattle.std.proofs.Common.{ap, sym, ◌∙◌}
use Rattle.std.proofs.lemmas.Cmp.{on_total}
use Rattle.erl_term.specs.declared.term.Term.{Term}
use Rattle.erl_term.specs.Term.{tree, term_of, term_of-tree}
use Rattle.erl_term.specs.Order.{tree_cmp}
use Rattle.erl_term.specs.OrderLaws.{tree_cmp-total, tree_cmp-same}

pub term_cmp-total : IsTotalOrder (on tree tree_cmp)
term_cmp-total = on_total tree tree_cmp-total

pub term_eq-equivalence : IsEquivalence (eq_by_cmp (on tree tree_cmp))
term_eq-equivalence = eq_by_cmp_equiv term_cmp-total

pub term_eq-partial : IsPartialEquivalence (eq_by_cmp (on tree tree_cmp))
term_eq-partial = partial_equiv_from_equiv term_eq-equivalence

pub term_cmp-partial : IsPartialOrder (eq_by_cmp (on tree tree_cmp)) (as_partial_cmp (on tree tree_cmp))
term_cmp-partial = po term_cmp-total (λ x y. refl)

-- the order tells all terms apart
pub term_cmp-same : (t u : Term) → tree_cmp (tree t) (tree u) ≡ Equal → t ≡ u
term_cmp-same t u tied = sym (term_of-tree t) ∙ ap term_of (tree_cmp-same (tree t) (tree u) tied) ∙ term_of-tree u
