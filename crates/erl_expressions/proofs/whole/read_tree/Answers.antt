-- What is read is there.
use Rattle.erl_ast.specs.Terminal.{terminals}
use Rattle.erl_ast.specs.TreeForms.{tree as tree_of}
use Rattle.erl_expressions.proofs.Trees.{is_begun}
use Rattle.std.proofs.Common.{rules}
use Rattle.erl_expressions.proofs.whole.read_tree.Goals as goal

pub returns-in-Ok-clause-found : goal.returns-in-Ok-clause-found
returns-in-Ok-clause-found c =
    is_begun c.args.role c.args.levels c.greatest.result (terminals c.args.tokens.now) c.in-Ok.deep (tree_of c.into_tree.result)
    (terminals c.in-Ok.rest.now) c.greatest.ensures c.into_tree.ensures (search rules)
