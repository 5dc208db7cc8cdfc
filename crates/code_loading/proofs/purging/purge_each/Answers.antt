-- One module more is purged, which has old code or none.
use Rattle.std.proofs.Common.{◌+◌, sym, ap, subst, ◌∙◌, arith, drop, vec_capacity, vec_len}
use Rattle.code_loading.proofs.CodePieces.{one_taken}
use Rattle.code_loading.proofs.LastFirst.{none_more, one_more}
use Rattle.code_loading.proofs.Turns.{turn_at}
use Rattle.code_loading.specs.Pieces.{IsTaken}
use Rattle.code_loading.specs.Unpurging.{AllUnpurge, all_unpurged}
use Rattle.code_loading.proofs.purging.purge_each.Goals.{in-Some, in_default}
use Rattle.code_loading.proofs.purging.purge_each.Goals as goal

pub loop-name-preserved : goal.loop-name-preserved
loop-name-preserved c =
    let i = c.loop-name.invariant in
    let n = c.name-item.result in
    let at = turn_at c.args.names.now c.loop-name.name-index n c.loop-name-test.true c.name-item.is in
    let now = c.loop-name.modules in
    let after = c.purge_old.new.modules in
    let purged = none_more n (drop (c.loop-name.name-index + 1) c.args.names.now) (drop c.loop-name.name-index c.args.names.now) now after at c.purge_old.ensures.purged ∙ i.purged in
    elim c.match-purge_old.branch [
      | in-Some w ↦
          let it = w.in-Some.ensures.inverse in
          let more = ap (λ v. v.items) w.undos-is ∙ w.push_reserved.ensures.items in
          let back = one_more c.loop-name.undos.items c.match-purge_old.undos.items w.in-Some.undo now after c.args.modules.now more it.0 it.1 it.2 i.fits i.back in
          record {
            purged = purged;
            fits = back.0;
            back = back.1;
            taken = subst (λ us. IsTaken us c.args.modules.now after) (sym more) (one_taken n c.loop-name.undos.items w.in-Some.undo c.args.modules.now now after c.purge_old.ensures.purged it.3 i.taken);
            within = omega (arith, i.within, ap vec_len w.undos-is, w.push_reserved.ensures.len);
            room = omega (arith, i.room, ap vec_capacity w.undos-is, w.push_reserved.ensures.capacity);
          }
      | in_default w ↦
          let same = w.in_default.ensures.inverse in
          let undos = ap (λ v. v.items) w.undos-is in
          record {
            purged = purged;
            fits = subst (λ x. AllUnpurge x after) (sym undos) (subst (AllUnpurge c.loop-name.undos.items) (sym same) i.fits);
            back = (λ j. all_unpurged (undos j) (same j)) ∙ i.back;
            taken = subst (λ us. IsTaken us c.args.modules.now after) (sym undos) (subst (λ m. IsTaken c.loop-name.undos.items c.args.modules.now m) (sym same) i.taken);
            within = omega (arith, i.within, ap vec_len w.undos-is);
            room = omega (arith, i.room, ap vec_capacity w.undos-is);
          }
    ]
