-- The view is of the player's present state.
use Rattle.upgrade_rehearsal.proofs.way.settle.Goals as goal

pub returns-clause-led : goal.returns-clause-led
returns-clause-led c = c.in_ok-play.ensures

pub returns-clause-seen : goal.returns-clause-seen
returns-clause-seen c = (c.in_ok-view.ensures, c.restless.ensures)
