-- One more has left, or nobody lives there.
use Rattle.std.proofs.Common.{sym, subst, ◌∙◌, arith}
use Rattle.process_effects.specs.Ends.{UndoesEnds}
use Rattle.process_effects.specs.EndedPieces.{held_by_all}
use Rattle.process_effects.proofs.EndedPieces.{HaveLeft, left_lost, more_left}
use Rattle.process_effects.proofs.Returns.{kills_back, leaves_last, nobody_leaves, still_stand, told_last, told_others}
use Rattle.process_effects.proofs.killing.take_all_out.Goals as goal

pub loop-leaves-preserved-in-Some-take_out : goal.loop-leaves-preserved-in-Some-take_out
loop-leaves-preserved-in-Some-take_out c =
    let ps = c.loop-leaves.leaving.items in
    let others = c.pop.new.self.items in
    let p = c.in-Some.leaves in
    let t = c.loop-leaves.store in
    let after = c.take_out.new.store in
    let before = c.args.store.now in
    let i = c.loop-leaves.invariant in
    let last = c.in-Some.ensures.items in
    let gone = c.take_out.ensures.table in
    record {
      table = leaves_last ps others p t after last gone ∙ i.table;
      told = told_others ps others p t after last gone i.told;
      stands = still_stand before t after p.pid gone i.stands;
      back = kills_back before t after c.loop-leaves.ended.items c.push_reserved.new.self.items c.in-Some-take_out.process p c.in-Some-take_out.ensures.process gone c.push_reserved.ensures.items i.stands (c.in-Some-take_out.ensures.back (told_last ps others p t last i.told)) i.back;
      room = omega (arith, i.room, c.in-Some.ensures.cases, c.push_reserved.ensures.len, c.push_reserved.ensures.capacity);
      left = more_left c.loop-leaves.ended.items c.push_reserved.new.self.items c.in-Some-take_out.process p before t after c.in-Some-take_out.ensures.process gone c.push_reserved.ensures.items i.left;
    }

pub loop-leaves-preserved : goal.loop-leaves-preserved
loop-leaves-preserved c =
    let ps = c.loop-leaves.leaving.items in
    let others = c.pop.new.self.items in
    let p = c.in-Some.leaves in
    let t = c.loop-leaves.store in
    let after = c.take_out.new.store in
    let before = c.args.store.now in
    let i = c.loop-leaves.invariant in
    let last = c.in-Some.ensures.items in
    let gone = c.take_out.ensures.table in
    record {
      table = leaves_last ps others p t after last gone ∙ i.table;
      told = told_others ps others p t after last gone i.told;
      stands = still_stand before t after p.pid gone i.stands;
      back = subst (UndoesEnds c.loop-leaves.ended.items before) (sym (nobody_leaves p t after c.in_default-take_out.ensures.process gone)) i.back;
      room = omega (arith, i.room, c.in-Some.ensures.cases);
      left = subst (HaveLeft (held_by_all c.loop-leaves.ended.items) before) (sym (nobody_leaves p t after c.in_default-take_out.ensures.process gone)) i.left;
    }

pub returns-clause-pieces : goal.returns-clause-pieces
returns-clause-pieces c = left_lost (held_by_all c.loop-leaves.ended.items) c.args.store.now c.loop-leaves.store c.loop-leaves.invariant.left
