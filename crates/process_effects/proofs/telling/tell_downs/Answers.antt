-- The last reason is the reason, and so are those before it.
use Rattle.std.proofs.Common.{◌≡◌, ◌-◌, All, arith, subst, sym, ◌∙◌, vec_len}
use Rattle.std.proofs.lemmas.List.Elements.{All-take}
use Rattle.process_effects.proofs.Replies.{down_next}
use Rattle.process_effects.proofs.telling.tell_downs.Goals as goal

pub loop-down-preserved : goal.loop-down-preserved
loop-down-preserved c = record {
  same = λ reason all. subst (All (λ r. r ≡ reason)) (sym c.pop.ensures.rest) (All-take (λ r. r ≡ reason) (vec_len c.loop-down.reasons - 1) c.loop-down.reasons.items (c.loop-down.invariant.same reason all));
  told =
      let (reason, down, all) = c.requires.downs in
      down_next c.loop-down.reasons.items c.pop.new.self.items c.loop-down.replies.items c.push_reserved.new.self.items c.args.replies.now.items c.args.downs.now c.loop-down.down-index c.down-item.result c.down-item.result c.in-Some.reason reason c.loop-down-test.true c.down-item.is c.in-Some.ensures.items (c.loop-down.invariant.same reason all) down c.push_reserved.ensures.items c.loop-down.invariant.told;
  enough = omega (arith, c.loop-down.invariant.enough, c.in-Some.ensures.cases);
  room = omega (arith, c.loop-down.invariant.room, c.push_reserved.ensures.len);
  capacity = c.push_reserved.ensures.capacity ∙ c.loop-down.invariant.capacity;
}
