-- One more round is done.
use Rattle.std.proofs.Common.{rules}
use Rattle.workers.proofs.MoreRounds.{serves_more}
use Rattle.workers.proofs.serving.serve.Goals as goal

pub loop-preserved : goal.loop-preserved
loop-preserved g c =
    serves_more c.loop.counter c.loop.above c.next_above-above.result c.in_ok-round_end.round_end c.args.seat.now c.loop.seat c.one_round.new.seat c.loop.served c.and-served.result
    c.loop.invariant (search rules) (search rules) (search rules)
