-- The entries have the new value under the key, and what they had under the others.
use Rattle.std.proofs.Common.{Some, ap, ◌∙◌}
use Rattle.process_index.specs.Index.{put}
use Rattle.process_index.proofs.Index.{names_apart, from_entries-put}
use Rattle.process_index.proofs.names.NameIndex.insert.Goals as goal

pub returns-clause-ok : goal.returns-clause-ok
returns-clause-ok c =
    from_entries-put names_apart _ _ c.args.name (Some c.args.pid) c.in_ok-insert.ensures.updates.0 ∙ ap (put c.args.name (Some c.args.pid)) c.self.view_is
