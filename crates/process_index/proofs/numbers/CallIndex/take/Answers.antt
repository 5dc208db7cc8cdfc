-- The entries have nothing under the number, and what they had under the others.
use Rattle.std.proofs.Common.{None, sym, ap, ◌∙◌}
use Rattle.std.specs.FinMap as map
use Rattle.process_index.specs.Index.{put}
use Rattle.process_index.proofs.Index.{numbers_apart, from_entries-put, get-lookup}
use Rattle.process_index.proofs.numbers.CallIndex.take.Goals as goal

pub returns-clause-owner : goal.returns-clause-owner
returns-clause-owner c =
    c.remove.ensures.value ∙ sym (get-lookup numbers_apart c.self.inside.owners.entries c.args.number) ∙ ap (λ m. map.get m c.args.number) c.self.view_is

pub returns-clause-taken : goal.returns-clause-taken
returns-clause-taken c =
    from_entries-put numbers_apart _ _ c.args.number None c.remove.ensures.updates.0 ∙ ap (put c.args.number None) c.self.view_is
