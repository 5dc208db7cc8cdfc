-- The walk begins at the end of the list.
use Rattle.std.proofs.Common.{reverse, ap, subst, ◌∙◌}
use Rattle.std.specs.Iterator.Adapters.{rev_source}
use Rattle.std.specs.Iterator.Runs.{ItemsMapTo}
use Rattle.std.specs.Slice.Iter.{iter_rest}
use Rattle.release_statuses.proofs.Latest.{lends_reversed}
use Rattle.release_statuses.proofs.releases.Releases.which_releases.Goals as goal

pub returns : goal.returns
returns c =
    λ run seen from.
    let begun = ap (λ s. iter_rest (rev_source s)) from ∙ ap iter_rest c.rev.ensures.source in
    let list = begun ∙ c.iter.ensures.rest ∙ c.as_slice.ensures.items in
    subst (λ its. ItemsMapTo run (λ it. it.now) its) (ap reverse list) (lends_reversed run seen)
