-- The set takes out just the call.
use Rattle.std.proofs.Common.{sym, ap, subst, ◌∙◌}
use Rattle.process_index.specs.Calls.{AreInOrder, without}
use Rattle.process_index.proofs.OpenCalls.{AreInOrder-without, remove_key-without}
use Rattle.process_index.proofs.calls.Calls.remove.Goals as goal

pub returns : goal.returns
returns c =
    c.remove.ensures.keys ∙ remove_key-without c.args.call c.self.inside.items.keys ∙ ap (without c.args.call) c.self.view_is

pub invariant_of-self : goal.invariant_of-self
invariant_of-self c =
    let ordered = subst AreInOrder c.self.view_is c.self.invariant in
    subst AreInOrder (sym (returns c)) (AreInOrder-without c.args.call c.args.self.now ordered)
