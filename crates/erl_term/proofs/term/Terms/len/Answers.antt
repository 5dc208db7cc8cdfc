-- A row has as many terms as its slice.
use Rattle.std.proofs.Common.{ap, sym, ◌∙◌}
use Rattle.erl_term.specs.Tree.{count}
use Rattle.erl_term.proofs.Rows.{count-trees}
use Rattle.erl_term.proofs.term.Terms.len.Goals as goal

pub returns : goal.returns
returns c = sym (count-trees c.as_slice.result.now) ∙ ap count c.as_slice.ensures
