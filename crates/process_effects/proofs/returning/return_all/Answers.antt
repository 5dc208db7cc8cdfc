-- One more has returned.
use Rattle.std.proofs.Common.{Some, refl, sym, ap, subst, ◌∙◌, arith}
use Rattle.std.proofs.lemmas.List.Elements.{All-push, All-same}
use Rattle.process_store.specs.Table.{living}
use Rattle.process_effects.specs.Ends.{AllReturn, Lives, all_returned}
use Rattle.process_effects.specs.declared.ending.ToldProcess.{ToldProcess}
use Rattle.process_effects.proofs.Ends.{all_returned_more}
use Rattle.process_effects.proofs.Returns.{all_return_less, ended_last, leaves_again, leaves_last}
use Rattle.process_effects.proofs.returning.return_all.Goals as goal

pub return_ended-requires : goal.return_ended-requires
return_ended-requires c =
    let m = c.args.modules.now in
    let t = c.loop-ended.store in
    (all_return_less m c.pop.new.self.items c.in-Some.ended t (subst (λ x. AllReturn m x t) c.in-Some.ensures.items c.loop-ended.invariant.can)).0

pub loop-ended-preserved : goal.loop-ended-preserved
loop-ended-preserved c =
    let m = c.args.modules.now in
    let t = c.loop-ended.store in
    let after = c.return_ended.new.store in
    let ks = c.pop.new.self.items in
    let e = c.in-Some.ended in
    let i = c.loop-ended.invariant in
    let last = c.in-Some.ensures.items in
    let returns = c.in-Ok-return_ended.ensures in
    let p : ToldProcess = record { pid = e.pid; told = c.in-Ok-return_ended.told } in
    let bs = c.loop-ended.back.items in
    let now = c.push_reserved.new.self.items in
    let more = c.push_reserved.ensures.items in
    record {
      table = sym (leaves_last now bs p after t more (sym returns.vacates)) ∙ i.table;
      out = sym (ended_last now bs p after t (Some e) ks c.loop-ended.killed.items more (sym returns.vacates) (sym (leaves_again e p (living e.pid after) refl returns.told)) last) ∙ i.out;
      returned = ap (all_returned m ks) returns.ok ∙ sym (all_returned_more m ks e t) ∙ ap (λ x. all_returned m x t) (sym last) ∙ i.returned;
      can = subst (AllReturn m ks) (sym returns.ok) (all_return_less m ks e t (subst (λ x. AllReturn m x t) last i.can)).1;
      lives = λ all. i.lives (All-same (Lives m) c.loop-ended.killed.items _ last (All-push (Lives m) ks e all returns.lives));
      room = omega (arith, i.room, c.in-Some.ensures.cases, c.in-Some.ensures.capacity, c.push_reserved.ensures.len);
      room_back = omega (arith, i.room_back, c.in-Some.ensures.cases, c.push_reserved.ensures.len, c.push_reserved.ensures.capacity);
    }
