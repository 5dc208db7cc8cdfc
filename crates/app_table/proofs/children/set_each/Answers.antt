-- One more is in its state.
use Rattle.std.proofs.Common.{◌<◌, ◌≤◌, ◌∙◌, arith, length, min}
use Rattle.app_table.proofs.States.{set_more, states_all}
use Rattle.app_table.proofs.children.set_each.Goals as goal

pub loop-index-preserved : goal.loop-index-preserved
loop-index-preserved c =
    let below : c.loop-index.index < length c.args.states.now = omega (arith, c.loop-index-test.true, c.min-index-end.ensures) in
    let within : c.loop-index.index < length c.args.row.now = omega (arith, c.loop-index-test.true, c.min-index-end.ensures) in
    set_more c.args.states.now c.args.row.now c.loop-index.row c.loop-index.index c.set.new.self _ _ below within c.loop-index.invariant c.set.ensures

pub returns : goal.returns
returns c =
    let over : min (length c.args.row.now) (length c.args.states.now) ≤ c.loop-index.index = omega (arith, c.loop-index-test.false, c.min-index-end.ensures) in
    c.loop-index.invariant ∙ states_all c.args.states.now c.args.row.now c.loop-index.index over
