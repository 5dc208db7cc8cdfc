-- An instruction is seen by its parts.
use Rattle.upgrade_rehearsal.proofs.Going.{goes_from}
use Rattle.upgrade_rehearsal.proofs.Leading.{stage_again}
use Rattle.upgrade_rehearsal.proofs.Ways.{seen_by}
use Rattle.upgrade_rehearsal.proofs.way.go_on.Goals as goal

pub returns-clause-seen : goal.returns-clause-seen
returns-clause-seen c = seen_by _ _ _ _ _ (stage_again _ _ c.in_ok-ahead.ensures.back) c.in_ok-ahead.ensures.ahead c.in_ok-done.ensures.done

pub returns-clause-journal : goal.returns-clause-journal
returns-clause-journal c = goes_from _ _ _ c.in_ok-ahead.ensures.back.journal c.in_ok-done.ensures.journal
