-- The last of those that are left is made again.
use Rattle.std.proofs.Common.{arith}
use Rattle.code_loading.proofs.LastFirst.{can_redo, redone_last}
use Rattle.code_loading.proofs.unpurging.repurge_all.Goals as goal

pub redo-requires : goal.redo-requires
redo-requires c =
    let some = c.loop-redo.invariant.some in
    can_redo c.pop.new.self.items c.loop-redo.redos.items c.in-Some.redo c.loop-redo.left.items c.loop-redo.modules some.0 some.1 c.in-Some.ensures.items some.2

pub loop-redo-preserved : goal.loop-redo-preserved
loop-redo-preserved c =
    let i = c.loop-redo.invariant in
    let made = redone_last c.pop.new.self.items c.loop-redo.redos.items c.in-Some.redo c.loop-redo.left.items c.push_reserved.new.self.items c.redo.result c.loop-redo.modules c.redo.new.self in
    record {
      some = (i.some.0, i.some.1, made i.some.0 i.some.1 c.in-Some.ensures.items c.push_reserved.ensures.items c.redo.ensures i.some.2);
      back = λ all m initially. made all m c.in-Some.ensures.items c.push_reserved.ensures.items c.redo.ensures (i.back all m initially);
      room = omega (arith, i.room, c.in-Some.ensures.cases, c.push_reserved.ensures.len, c.push_reserved.ensures.capacity);
    }
