-- One is permanent, and the first such stands at its index.
use Rattle.std.proofs.Common.{length, option_and_then, slice_get, ap, refl, sym, ◌∙◌}
use Rattle.std.proofs.lemmas.Option.{slice_get_read}
use Rattle.release_statuses.specs.declared.status.Status.TheVariants.{Permanent}
use Rattle.release_statuses.specs.Statuses.{first_with, has_status, index_with}
use Rattle.release_statuses.proofs.Permanent.{permanent-there}
use Rattle.release_statuses.proofs.Tests.{first-within}
use Rattle.release_statuses.proofs.releases.Releases.permanent.Goals as goal

pub unreachable-requires : goal.unreachable-requires
unreachable-requires c =
    let none = ap (index_with Permanent) (sym c.as_slice-list.ensures) ∙ sym c.index_with.ensures ∙ c.in-None.is in
    permanent-there c.self.inside.table none c.self.invariant

pub returns : goal.returns
returns c =
    let xs = c.as_slice-list.result.now in
    let index = c.in-Some.index in
    let it = c.index-list-index.result in
    let at = sym c.index_with.ensures ∙ c.in-Some.is in
    let within = first-within (has_status Permanent) xs index at in
    let there = slice_get_read xs (length xs) index it refl within c.index-list-index.is in
    sym (ap (first_with Permanent) (c.as_slice-list.ensures ∙ c.self.view_is)) ∙ ap (option_and_then (slice_get xs)) at ∙ there
