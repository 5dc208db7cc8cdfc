-- The release is permanent; the releases have their statuses again.
use Rattle.std.proofs.Common.{ap, sym, subst, ◌∙◌}
use Rattle.std.specs.Str.{chars}
use Rattle.release_statuses.specs.Statuses.{HasPermanent, reboot_refusal}
use Rattle.release_statuses.proofs.Backs.{Statuses-back}
use Rattle.release_statuses.proofs.Permanent.{permanent-rebooted}
use Rattle.release_statuses.proofs.Standing.{none_unless, releases-rebooted, releases_of, statuses_of}
use Rattle.release_statuses.proofs.releases.Releases.reboot_old.Goals as goal

pub invariant_of-self : goal.invariant_of-self
invariant_of-self c =
    let vsn = chars c.args.vsn.now in
    let unrefused = ap (reboot_refusal vsn) c.self.view_is ∙ sym c.reboot_refusal.ensures ∙
    none_unless c.reboot_refusal.result c.in_default.not-Some in
    subst HasPermanent (sym c.reboot.ensures) (permanent-rebooted vsn c.self.inside.table unrefused)

pub returns-clause-takes_back : goal.returns-clause-takes_back
returns-clause-takes_back c =
    let vsn = chars c.args.vsn.now in
    let xs = c.self.inside.table in
    let row = c.new.ensures ∙ c.in_ok-former.ensures ∙ ap statuses_of c.as_slice.ensures in
    let kept = ap releases_of c.reboot.ensures ∙ releases-rebooted vsn xs in
    Statuses-back c.new.result xs c.args.self.now c.reboot.new.table row kept c.self.invariant c.self.view_is
