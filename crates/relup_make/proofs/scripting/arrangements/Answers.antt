-- One job more.
use Rattle.std.proofs.Common.{length, refl, subst}
use Rattle.dependency_order.specs.Orders.{AreOrderedGroups}
use Rattle.relup_make.specs.Dependencies.{depends}
use Rattle.relup_make.proofs.Scripted.{arranged_next}
use Rattle.relup_make.proofs.scripting.arrangements.Goals as goal

pub loop-job-preserved : goal.loop-job-preserved
loop-job-preserved c =
    arranged_next c.args.jobs.now c.loop-job.arrangements.items c.push.new.self.items c.loop-job.job-index _ _ c.loop-job-test.true c.job-item.is refl (subst (λ is. AreOrderedGroups (depends is) (length is) c.in_ok-groups.groups) c.as_slice.ensures c.in_ok-groups.ensures) c.in_ok-push.ensures.items c.loop-job.invariant
