-- The entries have nothing under the key, and what they had under the others.
use Rattle.std.proofs.Common.{None, ap, ◌∙◌}
use Rattle.process_index.specs.Index.{put}
use Rattle.process_index.proofs.Index.{names_apart, from_entries-put}
use Rattle.process_index.proofs.names.NameIndex.remove.Goals as goal

pub returns : goal.returns
returns c = from_entries-put names_apart _ _ c.args.name.now None c.swap_remove.ensures.updates.0 ∙ ap (put c.args.name.now None) c.self.view_is
