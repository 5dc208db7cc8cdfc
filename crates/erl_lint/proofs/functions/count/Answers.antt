-- As many as the slice has.
use Rattle.std.proofs.Common.{ap, ◌∙◌}
use Rattle.erl_ast.specs.Tree.{tree_count}
use Rattle.erl_lint.proofs.Rows.{counted}
use Rattle.erl_lint.proofs.functions.count.Goals as goal

pub returns : goal.returns
returns c = counted c.as_slice.result.now ∙ ap tree_count c.as_slice.ensures
