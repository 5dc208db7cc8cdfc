-- What was done shows how it was played.
use Rattle.upgrade_rehearsal.proofs.Whole.{played_by}
use Rattle.upgrade_rehearsal.proofs.rehearsing.play_before.Goals as goal

pub returns : goal.returns
returns c = played_by _ c.args.player.now c.happened.new.self c.play.new.self c.happened-happened.new.self _ _
    c.happened.ensures.journal c.happened.ensures.arrivals c.happened.ensures.none c.in_ok-play.ensures c.happened-happened.ensures.happened
    c.happened-happened.ensures.journal c.happened-happened.ensures.arrivals c.in_ok-view.ensures
