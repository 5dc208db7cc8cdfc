-- The set puts the call in behind those that come before it.
use Rattle.std.proofs.Common.{◌≡◌, sym, ap, subst, ◌∙◌, false}
use Rattle.process_index.specs.Calls.{AreInOrder, has, with_call}
use Rattle.process_index.proofs.OpenCalls.{AreInOrder-with_call, insert_key-with_call}
use Rattle.process_index.proofs.calls.Calls.insert.Goals as goal

pub returns-clause-ok : goal.returns-clause-ok
returns-clause-ok c =
    let absent = subst (λ cs. has c.args.call cs ≡ false) (sym c.self.view_is) c.requires in
    c.in_ok-insert.ensures.keys ∙ insert_key-with_call c.args.call c.self.inside.items.keys absent ∙ ap (with_call c.args.call) c.self.view_is

pub invariant_of-self-2 : goal.invariant_of-self-2
invariant_of-self-2 c =
    let ordered = subst AreInOrder c.self.view_is c.self.invariant in
    subst AreInOrder (sym (returns-clause-ok c)) (AreInOrder-with_call c.args.call c.args.self.now ordered c.requires)
