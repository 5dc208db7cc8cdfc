-- One pattern more is bound, and it is no higher than its row.
use Rattle.std.proofs.Common.{rules}
use Rattle.std.specs.Str.{bytes_eq}
use Rattle.indexmap.specs.IndexSet.{insert_key}
use Rattle.erl_ast.specs.TreeForms.{tree, trees}
use Rattle.erl_lint.specs.Scopes.{pattern_names, pattern_names_in}
use Rattle.erl_lint.proofs.Rows.{tree_in, grown, patterns_push}
use Rattle.erl_lint.proofs.binding.+patterns.Goals as goal

pub bind_patterns-bind_pattern-requires : goal.bind_patterns-bind_pattern-requires
bind_patterns-bind_pattern-requires t c =
    let smaller = tree_in c.args.row.now c.loop-pattern.pattern-index c.pattern-item.result c.loop-pattern-test.true c.pattern-item.is in
    search rules

pub bind_patterns-loop-pattern-preserved : goal.bind_patterns-loop-pattern-preserved
bind_patterns-loop-pattern-preserved t c =
    grown (insert_key bytes_eq) (λ ps. pattern_names_in (trees ps)) (λ p. pattern_names (tree p)) patterns_push
    c.args.row.now c.loop-pattern.pattern-index c.pattern-item.result c.args.scope.now c.loop-pattern.scope c.bind_pattern.new.scope
    c.loop-pattern-test.true c.pattern-item.is c.loop-pattern.invariant c.in_ok-bind_pattern.ensures
