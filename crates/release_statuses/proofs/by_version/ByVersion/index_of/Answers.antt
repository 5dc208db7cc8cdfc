-- A text finds the release of its version.
use Rattle.std.proofs.Common.{ap, ◌∙◌}
use Rattle.std.specs.Str.{chars}
use Rattle.release_statuses.specs.Statuses.{index_of}
use Rattle.release_statuses.proofs.Spelled.{index-spelled}
use Rattle.release_statuses.proofs.by_version.ByVersion.index_of.Goals as goal

pub returns-clause-index : goal.returns-clause-index
returns-clause-index c =
    let found = index-spelled c.args.vsn.now c.self.inside.table.entries c.utf8.vsn c.self.invariant in
    c.get_index_of.ensures.index ∙ found ∙ ap (index_of (chars c.args.vsn.now)) c.self.view_is
