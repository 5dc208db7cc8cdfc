-- The release stood at its index, and wasn't permanent.
use Rattle.std.proofs.Common.{ap, subst, sym, ◌∙◌}
use Rattle.std.specs.Str.{chars}
use Rattle.release_statuses.specs.Statuses.{HasPermanent, remove_refusal}
use Rattle.release_statuses.proofs.Backs.{Removed-back}
use Rattle.release_statuses.proofs.Permanent.{permanent-removed}
use Rattle.release_statuses.proofs.Standing.{Stands-index, none_unless}
use Rattle.release_statuses.proofs.releases.Releases.remove.Goals as goal

pub invariant_of-self : goal.invariant_of-self
invariant_of-self c =
    let vsn = chars c.args.vsn.now in
    let at = sym c.index_of.ensures.index ∙ c.in-Some-index_of.is in
    let unrefused = ap (remove_refusal vsn) c.self.view_is ∙ sym c.remove_refusal.ensures ∙
    none_unless c.remove_refusal.result c.in_default.not-Some in
    subst HasPermanent (sym c.take_out.ensures.rest)
    (permanent-removed vsn c.self.inside.table c.in-Some-index_of.index at unrefused c.self.invariant)

pub returns-in-Some-index_of-clause-takes_back : goal.returns-in-Some-index_of-clause-takes_back
returns-in-Some-index_of-clause-takes_back c =
    let xs = c.self.inside.table in
    let index = c.in-Some-index_of.index in
    let at = sym c.index_of.ensures.index ∙ c.in-Some-index_of.is in
    let within = (Stands-index (chars c.args.vsn.now) xs index at).within in
    Removed-back index c.take_out.result xs c.args.self.now c.take_out.new.self c.take_out.ensures.taken within
    c.take_out.ensures.rest c.take_out.ensures.absent c.self.invariant c.self.view_is
