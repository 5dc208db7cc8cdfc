-- The elements of the last one stand behind the others.
use Rattle.std.proofs.Common.{◌∙◌, ap, sym}
use Rattle.erl_term.specs.Rows.{append_trees}
use Rattle.erl_term.specs.Term.{trees}
use Rattle.erl_lower.specs.Literals.{before_tail}
use Rattle.erl_lower.proofs.Rows.{tail_last, trees_append}
use Rattle.erl_lower.proofs.literals.before_tail.Goals as goal

pub returns : goal.returns
returns c =
    ap trees c.in_ok-append.ensures.items ∙ trees_append c.pop.new.self.items c.in_ok-elements.elements.items ∙
    ap (append_trees (trees c.pop.new.self.items)) c.in_ok-elements.ensures ∙ sym (tail_last c.pop.new.self.items c.in-Some.tail) ∙
    ap (λ ts. before_tail (trees ts)) (sym c.in-Some.ensures.items)
