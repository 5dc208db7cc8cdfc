-- The index finds the call.
use Rattle.std.proofs.Common.{◌∙◌, ap, is_some}
use Rattle.process_store.proofs.Indexes.{asked_by_index}
use Rattle.process_store.proofs.store.ProcessStore.is_open.Goals as goal

pub returns : goal.returns
returns c = c.is_some.ensures ∙ ap is_some c.get.ensures ∙ asked_by_index c.self.inside.names c.self.inside.open_calls c.self.inside.slots c.args.self.now c.args.number c.self.invariant c.self.view_is
