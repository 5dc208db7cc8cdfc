-- The entries have nothing under the number, and what they had under the others.
use Rattle.std.proofs.Common.{None, ap, ◌∙◌}
use Rattle.process_index.specs.Index.{put}
use Rattle.process_index.proofs.Index.{numbers_apart, from_entries-put}
use Rattle.process_index.proofs.numbers.CallIndex.remove.Goals as goal

pub returns : goal.returns
returns c =
    from_entries-put numbers_apart _ _ c.args.number None c.remove.ensures.updates.0 ∙ ap (put c.args.number None) c.self.view_is
