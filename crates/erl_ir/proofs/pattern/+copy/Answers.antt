-- A pattern is no deeper than the row that it stands in.
use Rattle.std.proofs.Common.{rules}
use Rattle.erl_ir.proofs.PatternRows.{depth_in}
use Rattle.erl_ir.proofs.pattern.+copy.Goals as goal

pub copied_row-copy-requires : goal.copied_row-copy-requires
copied_row-copy-requires t c =
    let smaller = depth_in c.args.items.now c.loop-item.item-index c.item-item.result c.loop-item-test.true c.item-item.is in
    search rules
