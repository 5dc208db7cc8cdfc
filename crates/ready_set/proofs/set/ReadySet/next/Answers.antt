-- The first marked leaf is that of the next number.
use Rattle.std.proofs.Common.{◌/◌, ap, sym, ◌∙◌}
use Rattle.ready_set.proofs.Kept.{next_found}
use Rattle.ready_set.proofs.set.ReadySet.next.Goals as goal

pub returns-in-Some : goal.returns-in-Some
returns-in-Some c =
    let s = c.self.inside in
    next_found s.marks.items c.deref.result.now c.args.self.now s.capacity _ c.args.from c.in-Some.leaf c.self.invariant c.self.view_is c.deref.ensures.value
    (ap (λ n. n / 2) (c.len-first.ensures ∙ sym c.deref.ensures.len)) c.in-Some.ensures.first
