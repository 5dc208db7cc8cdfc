-- The index has under a number what its entries have.
use Rattle.std.proofs.Common.{sym, ap, ◌∙◌}
use Rattle.std.specs.FinMap as map
use Rattle.process_index.proofs.Index.{numbers_apart, get-lookup}
use Rattle.process_index.proofs.numbers.CallIndex.get.Goals as goal

pub returns : goal.returns
returns c =
    c.copied.ensures ∙ c.get.ensures.value ∙ sym (get-lookup numbers_apart c.self.inside.owners.entries c.args.number) ∙ ap (λ m. map.get m c.args.number) c.self.view_is
