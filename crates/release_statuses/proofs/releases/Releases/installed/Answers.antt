-- What was permanent stays so; the releases have their statuses again.
use Rattle.std.proofs.Common.{ap, sym, subst, ◌∙◌}
use Rattle.std.specs.Str.{chars}
use Rattle.release_statuses.specs.Statuses.{HasPermanent}
use Rattle.release_statuses.proofs.Backs.{Statuses-back}
use Rattle.release_statuses.proofs.Permanent.{permanent-installed}
use Rattle.release_statuses.proofs.Standing.{releases-installed, releases_of, statuses_of}
use Rattle.release_statuses.proofs.releases.Releases.installed.Goals as goal

pub invariant_of-self : goal.invariant_of-self
invariant_of-self c =
    let vsn = chars c.args.vsn.now in
    subst HasPermanent (sym c.install.ensures) (permanent-installed vsn c.self.inside.table c.self.invariant)

pub returns-clause-takes_back : goal.returns-clause-takes_back
returns-clause-takes_back c =
    let vsn = chars c.args.vsn.now in
    let xs = c.self.inside.table in
    let row = c.new.ensures ∙ c.in_ok-former.ensures ∙ ap statuses_of c.as_slice.ensures in
    let kept = ap releases_of c.install.ensures ∙ releases-installed vsn xs in
    Statuses-back c.new.result xs c.args.self.now c.install.new.table row kept c.self.invariant c.self.view_is
