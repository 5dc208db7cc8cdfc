-- The way down is run if the way up was finished.
use Rattle.upgrade_rehearsal.proofs.Going.{stays}
use Rattle.upgrade_rehearsal.proofs.Whole.{goes_down, stays_up}
use Rattle.upgrade_rehearsal.proofs.rehearsing.go_down.Goals as goal

pub returns-in_ok-go-clause-way : goal.returns-in_ok-go-clause-way
returns-in_ok-go-clause-way g c = goes_down _ _ _ _ _ _ c.if-is_up.true c.in_ok-go.ensures.way

pub returns-else-is_up-clause-way : goal.returns-else-is_up-clause-way
returns-else-is_up-clause-way g c = stays_up _ _ _ _ c.if-is_up.false

pub returns-else-is_up-clause-journal : goal.returns-else-is_up-clause-journal
returns-else-is_up-clause-journal g c = stays _
