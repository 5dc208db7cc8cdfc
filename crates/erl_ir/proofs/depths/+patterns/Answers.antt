-- One pattern more, and it is no deeper than its row.
use Rattle.std.proofs.Common.{rules}
use Rattle.erl_ir.proofs.PatternRows.{depth_in, depth_more}
use Rattle.erl_ir.proofs.depths.+patterns.Goals as goal

pub depth_of_patterns-depth_of_pattern-requires : goal.depth_of_patterns-depth_of_pattern-requires
depth_of_patterns-depth_of_pattern-requires t c =
    let smaller = depth_in c.args.patterns.now c.loop-pattern.pattern-index c.pattern-item.result c.loop-pattern-test.true c.pattern-item.is in
    search rules

pub depth_of_patterns-loop-pattern-preserved : goal.depth_of_patterns-loop-pattern-preserved
depth_of_patterns-loop-pattern-preserved t c =
    let next = depth_more c.args.patterns.now c.loop-pattern.pattern-index c.pattern-item.result c.loop-pattern-test.true c.pattern-item.is in
    search rules
