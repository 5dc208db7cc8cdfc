-- A row is none exactly where its slice is empty.
use Rattle.std.proofs.Common.{length, refl, sym, ◌∙◌}
use Rattle.erl_term.proofs.Rows.{none-trees}
use Rattle.erl_term.proofs.term.Terms.is_empty.Goals as goal

pub returns : goal.returns
returns c =
    let items = c.as_slice.result.now in
    let both = none-trees items (length items) c.is_empty.result c.is_empty.ensures refl in
    (λ yes. sym c.as_slice.ensures ∙ both.0 yes, λ e. both.1 (c.as_slice.ensures ∙ e))
