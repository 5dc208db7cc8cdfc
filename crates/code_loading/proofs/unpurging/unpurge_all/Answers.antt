-- The last of those that stand is taken back.
use Rattle.std.proofs.Common.{sym, ap, subst, ◌∙◌, arith}
use Rattle.code_loading.specs.Unpurging.{AllUnpurge, Repurges, all_unpurged}
use Rattle.code_loading.proofs.LastFirst.{all_unpurged_more, last_of, one_back}
use Rattle.code_loading.proofs.unpurging.unpurge_all.Goals as goal

pub unpurge-requires : goal.unpurge-requires
unpurge-requires c =
    let last = last_of c.pop.new.self.items c.in-Some.undo c.loop-undo.modules (subst (λ us. AllUnpurge us c.loop-undo.modules) c.in-Some.ensures.items c.loop-undo.invariant.fits) in
    record { fits = last.fits; purged = last.purged }

pub loop-undo-preserved : goal.loop-undo-preserved
loop-undo-preserved c =
    let i = c.loop-undo.invariant in
    let us = c.pop.new.self.items in
    let u = c.in-Some.undo in
    let now = c.loop-undo.modules in
    let after = c.unpurge.new.self in
    let is = c.in-Some.ensures.items in
    let done = c.in-Ok.ensures in
    let last = last_of us u now (subst (λ x. AllUnpurge x now) is i.fits) in
    record {
      fits = subst (AllUnpurge us) (sym done.ok) last.others;
      given = ap (all_unpurged us) done.ok ∙ sym (all_unpurged_more us u now) ∙ ap (λ x. all_unpurged x now) (sym is) ∙ i.given;
      back = subst (λ rs. Repurges rs us after c.args.left.items c.args.modules.now) (sym c.push_reserved.ensures.items)
          (one_back c.loop-undo.redos.items c.in-Ok.redo us u now after c.args.left.items c.args.modules.now
          (subst (λ x. Repurges c.loop-undo.redos.items x now c.args.left.items c.args.modules.now) is i.back) done.again);
      room = omega (arith, i.room, c.in-Some.ensures.cases, c.in-Some.ensures.capacity, c.push_reserved.ensures.len);
      room_again = omega (arith, i.room_again, c.in-Some.ensures.cases, c.push_reserved.ensures.len, c.push_reserved.ensures.capacity);
    }
