-- Both ways were run.
use Rattle.upgrade_rehearsal.proofs.Going.{goes_both}
use Rattle.upgrade_rehearsal.proofs.Whole.{both_ways}
use Rattle.upgrade_rehearsal.proofs.rehearsing.go_both.Goals as goal

pub returns-clause-ways : goal.returns-clause-ways
returns-clause-ways g c = both_ways _ _ _ _ _ _ _ _ _ c.is_finished.ensures c.in_ok-up.ensures.way c.in_ok-down.ensures.way

pub returns-clause-journal : goal.returns-clause-journal
returns-clause-journal g c = goes_both _ _ _ c.in_ok-up.ensures.journal c.in_ok-down.ensures.journal
