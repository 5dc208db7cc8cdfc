-- One more has left, or nobody lives there.
use Rattle.std.proofs.Common.{None, Some, sym, ◌∙◌, arith}
use Rattle.std.proofs.lemmas.List.{append-nil}
use Rattle.process_effects.proofs.Returns.{ended_last, leaves_last}
use Rattle.process_effects.proofs.returning.take_again.Goals as goal

pub loop-leaves-preserved-in-Some-take_out : goal.loop-leaves-preserved-in-Some-take_out
loop-leaves-preserved-in-Some-take_out c =
    let ps = c.loop-leaves.back.items in
    let others = c.pop.new.self.items in
    let p = c.in-Some.leaves in
    let t = c.loop-leaves.store in
    let after = c.take_out.new.store in
    let i = c.loop-leaves.invariant in
    let last = c.in-Some.ensures.items in
    let gone = c.take_out.ensures.table in
    record {
      table = leaves_last ps others p t after last gone ∙ i.table;
      out = ended_last ps others p t after (Some c.in-Some-take_out.process) c.loop-leaves.out.items c.push_reserved.new.self.items last gone c.in-Some-take_out.ensures.process c.push_reserved.ensures.items ∙ i.out;
      room = omega (arith, i.room, c.in-Some.ensures.cases, c.push_reserved.ensures.len, c.push_reserved.ensures.capacity);
    }

pub loop-leaves-preserved : goal.loop-leaves-preserved
loop-leaves-preserved c =
    let ps = c.loop-leaves.back.items in
    let others = c.pop.new.self.items in
    let p = c.in-Some.leaves in
    let t = c.loop-leaves.store in
    let after = c.take_out.new.store in
    let i = c.loop-leaves.invariant in
    let last = c.in-Some.ensures.items in
    let gone = c.take_out.ensures.table in
    let out = c.loop-leaves.out.items in
    record {
      table = leaves_last ps others p t after last gone ∙ i.table;
      out = ended_last ps others p t after None out out last gone c.in_default-take_out.ensures.process (sym (append-nil out)) ∙ i.out;
      room = omega (arith, i.room, c.in-Some.ensures.cases);
    }
