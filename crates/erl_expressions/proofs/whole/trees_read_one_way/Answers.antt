-- Both are what is read.
use Rattle.erl_expressions.proofs.Trees.{one_tree}
use Rattle.erl_expressions.proofs.whole.trees_read_one_way.Goals as goal

pub returns : goal.returns
returns c = one_tree
