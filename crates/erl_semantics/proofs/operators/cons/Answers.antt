-- The last value is a list, or it isn't.
use Rattle.std.proofs.Common.{ap, ◌∙◌}
use Rattle.erl_term.specs.Rows.{append_trees}
use Rattle.erl_term.specs.Term.{trees}
use Rattle.erl_semantics.proofs.Rows.{consed_list, consed_else}
use Rattle.erl_semantics.proofs.operators.cons.Goals as goal

pub returns-in_default-last : goal.returns-in_default-last
returns-in_default-last c =
    rw (consed_else _ c.pop.new.self.items c.in-Some.last c.in-Some.ensures.items (λ row is. c.in_default-last.not-List row is))
    c.exit_by-in_default-last.ensures

pub returns : goal.returns
returns c = rw (consed_list _ c.pop.new.self.items c.in-Some.last c.in-List.row c.in_ok-joined.field-0 c.in-Some.ensures.items c.in-List.is
    (c.in_ok-joined.ensures ∙ ap (λ ts. append_trees ts c.in-List.row) (ap trees c.as_slice.ensures.value))) c.made.ensures
