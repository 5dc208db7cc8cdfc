-- The message is taken, and the result of running it is committed.
use Rattle.std.proofs.Common.{◌∙◌, sym}
use Rattle.upgrade_rehearsal.proofs.Performing.{served_by}
use Rattle.upgrade_rehearsal.proofs.player.Player.serve_one.Goals as goal

pub returns : goal.returns
returns c = served_by _ _ _ _ _ _ _ (sym c.job_in.ensures ∙ c.in-Some.is) c.in_ok-perform.ensures.performed c.commit.ensures
