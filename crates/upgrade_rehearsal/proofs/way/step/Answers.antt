-- The view is of the player's present state.
use Rattle.upgrade_rehearsal.proofs.way.step.Goals as goal

pub returns-clause-led : goal.returns-clause-led
returns-clause-led c = c.in_ok-outcome.ensures

pub returns-clause-seen : goal.returns-clause-seen
returns-clause-seen c = c.in_ok-behind.ensures
