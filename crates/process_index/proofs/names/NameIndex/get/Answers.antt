-- The index has under a key what its entries have.
use Rattle.std.proofs.Common.{sym, ap, ◌∙◌}
use Rattle.std.specs.FinMap as map
use Rattle.std.specs.Str.{chars}
use Rattle.process_index.proofs.Index.{names_apart, get-lookup, lookup-spelled}
use Rattle.process_index.proofs.names.NameIndex.get.Goals as goal

pub returns : goal.returns
returns c =
    c.copied.ensures ∙ c.get.ensures.value ∙ lookup-spelled c.args.name.now c.self.inside.pids.entries c.utf8.name
    ∙ sym (get-lookup names_apart c.self.inside.pids.entries (chars c.args.name.now)) ∙ ap (λ m. map.get m (chars c.args.name.now)) c.self.view_is
