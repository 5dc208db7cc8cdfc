-- What one expression more binds is bound, and it is no higher than its row.
use Rattle.std.proofs.Common.{rules}
use Rattle.std.specs.Str.{bytes_eq}
use Rattle.indexmap.specs.IndexSet.{insert_key}
use Rattle.erl_ast.specs.TreeForms.{tree, trees}
use Rattle.erl_lint.specs.Scopes.{binds, binds_in}
use Rattle.erl_lint.proofs.Rows.{tree_in, grown, binds_push}
use Rattle.erl_lint.proofs.binding.+expressions.Goals as goal

pub bind_row-bind_tree-requires : goal.bind_row-bind_tree-requires
bind_row-bind_tree-requires t c =
    let smaller = tree_in c.args.row.now c.loop-tree.tree-index c.tree-item.result c.loop-tree-test.true c.tree-item.is in
    search rules

pub bind_row-loop-tree-preserved : goal.bind_row-loop-tree-preserved
bind_row-loop-tree-preserved t c =
    grown (insert_key bytes_eq) (λ ts. binds_in (trees ts)) (λ t. binds (tree t)) binds_push
    c.args.row.now c.loop-tree.tree-index c.tree-item.result c.args.scope.now c.loop-tree.scope c.bind_tree.new.scope
    c.loop-tree-test.true c.tree-item.is c.loop-tree.invariant c.in_ok-bind_tree.ensures
