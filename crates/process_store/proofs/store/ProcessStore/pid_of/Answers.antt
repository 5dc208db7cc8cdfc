-- The index finds who has the name.
use Rattle.std.proofs.Common.{◌∙◌}
use Rattle.std.specs.Str.{chars}
use Rattle.process_store.proofs.Indexes.{named_by_index}
use Rattle.process_store.proofs.store.ProcessStore.pid_of.Goals as goal

pub returns : goal.returns
returns c = c.get.ensures ∙ named_by_index c.self.inside.names c.self.inside.open_calls c.self.inside.slots c.args.self.now (chars c.args.name.now) c.self.invariant c.self.view_is
