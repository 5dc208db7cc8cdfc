-- A part is no deeper than its row.
use Rattle.std.proofs.Common.{rules}
use Rattle.erl_expressions.proofs.Rows.{tree_in}
use Rattle.module_forms.proofs.Terms.{are_in}
use Rattle.module_forms.proofs.attributes.+term.Goals as goal

pub are_terms-is_term-requires : goal.are_terms-is_term-requires
are_terms-is_term-requires t c =
    let smaller = tree_in c.args.parts.now c.loop-part.part-index c.part-item.result c.loop-part-test.true c.part-item.is in
    search rules
