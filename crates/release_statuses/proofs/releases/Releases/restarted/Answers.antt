-- What was permanent stays so; the releases have their statuses again.
use Rattle.std.proofs.Common.{ap, sym, subst, ◌∙◌}
use Rattle.release_statuses.specs.declared.status.Status.TheVariants.{Current, Old}
use Rattle.release_statuses.specs.Statuses.{HasPermanent}
use Rattle.release_statuses.proofs.Backs.{Statuses-back}
use Rattle.release_statuses.proofs.Permanent.{permanent-restarted}
use Rattle.release_statuses.proofs.Standing.{releases-status_changed, releases_of, statuses_of}
use Rattle.release_statuses.proofs.releases.Releases.restarted.Goals as goal

pub invariant_of-self : goal.invariant_of-self
invariant_of-self c =
    subst HasPermanent (sym c.change_status.ensures) (permanent-restarted c.self.inside.table c.self.invariant)

pub returns-clause-takes_back : goal.returns-clause-takes_back
returns-clause-takes_back c =
    let xs = c.self.inside.table in
    let row = c.new.ensures ∙ c.in_ok-former.ensures ∙ ap statuses_of c.as_slice.ensures in
    let kept = ap releases_of c.change_status.ensures ∙ releases-status_changed Current Old xs in
    Statuses-back c.new.result xs c.args.self.now c.change_status.new.table row kept c.self.invariant c.self.view_is
