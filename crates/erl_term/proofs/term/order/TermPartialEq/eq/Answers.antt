-- Terms are tied exactly where they are equal.
use Rattle.std.proofs.Common.{ap, sym, ◌∙◌}
use Rattle.std.specs.Ordering.{is_eq}
use Rattle.std.specs.Cmp.{Equal-is}
use Rattle.std.proofs.lemmas.Bool.Decides.{same_from_decides}
use Rattle.std.proofs.lemmas.Cmp.{tied_itself}
use Rattle.erl_term.specs.Term.{tree}
use Rattle.erl_term.specs.Order.{tree_cmp}
use Rattle.erl_term.specs.TermOrder.{term_cmp-total, term_cmp-same}
use Rattle.erl_term.proofs.term.order.TermPartialEq.eq.Goals as goal

pub returns : goal.returns
returns c =
    let t = c.args.self.now in
    let u = c.args.other.now in
    let tied = Equal-is (tree_cmp (tree t) (tree u)) in
    same_from_decides c.same.result (is_eq (tree_cmp (tree t) (tree u))) c.same.ensures (λ yes. term_cmp-same t u (tied.0 yes), λ e. tied.1 (ap (λ v. tree_cmp (tree t) (tree v)) (sym e) ∙ tied_itself term_cmp-total t))
