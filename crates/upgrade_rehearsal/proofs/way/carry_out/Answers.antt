-- What was done shows what it caused.
use Rattle.upgrade_rehearsal.proofs.Going.{goes_both}
use Rattle.upgrade_rehearsal.proofs.Leading.{goes_same}
use Rattle.upgrade_rehearsal.proofs.Ways.{has_come}
use Rattle.upgrade_rehearsal.proofs.way.carry_out.Goals as goal

pub returns-clause-done : goal.returns-clause-done
returns-clause-done c = has_come _ c.args.player.now c.happened.new.self c.step.new.player c.settle.new.player c.happened-2.new.self _ _ _ _ _
    c.happened.ensures.journal c.happened.ensures.arrivals c.happened.ensures.none c.in_ok-outcome.ensures.led
    c.in_ok-outcome.ensures.seen c.in_ok-view.ensures.led c.in_ok-view.ensures.seen c.happened-2.ensures.happened
    c.happened-2.ensures.journal c.happened-2.ensures.arrivals

pub returns-clause-journal : goal.returns-clause-journal
returns-clause-journal c = goes_both _ _ _ (goes_same c.args.player.now c.happened.new.self c.happened.ensures.journal)
    (goes_both _ _ _ c.in_ok-outcome.ensures.led.journal
    (goes_both _ _ _ c.in_ok-view.ensures.led.journal (goes_same c.settle.new.player c.happened-2.new.self c.happened-2.ensures.journal)))
