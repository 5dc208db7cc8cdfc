-- The last reason is the reason, and so are those before it.
use Rattle.std.proofs.Common.{◌≡◌, ◌-◌, ◌++◌, ◌∷◌, All, List, ap, arith, length, map, subst, sym, ◌∙◌, vec_len}
use Rattle.std.proofs.lemmas.List.Elements.{All-take}
use Rattle.process_index.specs.declared.calls.Call.{Call}
use Rattle.process_effects.specs.Told.{down}
use Rattle.process_effects.proofs.Leaving.{told_next}
use Rattle.process_effects.proofs.exiting.tell_downs.Goals as goal

pub loop-call-preserved : goal.loop-call-preserved
loop-call-preserved c =
    let call : Call = c.in-Some.call.now in
    let rest : List Call = c.next.new.self in
    let left : c.loop-call.call-iterator ≡ call ∷ rest = c.in-Some.ensures.steps in
    let shorter = ap length left in
    record {
      same = λ reason all. subst (All (λ r. r ≡ reason)) (sym c.pop.ensures.rest) (All-take (λ r. r ≡ reason) (vec_len c.loop-call.reasons - 1) c.loop-call.reasons.items (c.loop-call.invariant.same reason all));
      told = λ reason all. told_next c.loop-call.reasons.items c.pop.new.self.items c.loop-call.replies.items c.push_reserved.new.self.items _ call rest c.in-Some-pop.reason reason c.in-Some-pop.ensures.items (c.loop-call.invariant.same reason all) c.push_reserved.ensures.items (subst (λ cs. c.loop-call.replies.items ++ map (down reason) cs ≡ c.args.replies.now.items ++ map (down reason) c.args.calls.now) left (c.loop-call.invariant.told reason all));
      enough = omega (arith, c.loop-call.invariant.enough, c.in-Some-pop.ensures.cases, shorter);
      room = omega (arith, c.loop-call.invariant.room, c.push_reserved.ensures.len, shorter);
      capacity = c.push_reserved.ensures.capacity ∙ c.loop-call.invariant.capacity;
    }
