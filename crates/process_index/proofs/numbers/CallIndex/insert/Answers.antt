-- The entries have the new value under the number, and what they had under the others.
use Rattle.std.proofs.Common.{Some, ap, ◌∙◌}
use Rattle.process_index.specs.Index.{put}
use Rattle.process_index.proofs.Index.{numbers_apart, from_entries-put}
use Rattle.process_index.proofs.numbers.CallIndex.insert.Goals as goal

pub returns-clause-ok : goal.returns-clause-ok
returns-clause-ok c =
    from_entries-put numbers_apart _ _ c.args.number (Some c.args.owner) c.in_ok-insert.ensures.updates.0 ∙ ap (put c.args.number (Some c.args.owner)) c.self.view_is
