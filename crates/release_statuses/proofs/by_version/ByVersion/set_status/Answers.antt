-- A write at the index is a change of the status there.
use Rattle.std.proofs.Common.{refl, sym, ap, subst, ◌∙◌}
use Rattle.std.specs.Map.{values_of}
use Rattle.values.specs.Edits.{changed_at}
use Rattle.release_statuses.specs.Spelling.{AreSpelled}
use Rattle.release_statuses.specs.Statuses.{with_status}
use Rattle.release_statuses.proofs.Spelled.{entries-written, spelled-changed, values-changed}
use Rattle.release_statuses.proofs.by_version.ByVersion.set_status.Goals as goal

pub invariant_of-self : goal.invariant_of-self
invariant_of-self c =
    let es = c.self.inside.table.entries in
    let old = c.index_mut.result.now in
    let written = entries-written (with_status c.args.status) es c.args.index old _ c.index_mut.ensures.value refl in
    subst AreSpelled (sym written) (spelled-changed c.args.status es c.args.index c.self.invariant)

pub returns : goal.returns
returns c =
    let es = c.self.inside.table.entries in
    let f = with_status c.args.status in
    let old = c.index_mut.result.now in
    let written = entries-written f es c.args.index old _ c.index_mut.ensures.value refl in
    ap values_of written ∙ values-changed f es c.args.index ∙ ap (λ its. changed_at f its c.args.index) c.self.view_is
