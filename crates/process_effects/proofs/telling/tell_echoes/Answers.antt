-- One more has told it.
use Rattle.std.proofs.Common.{◌≡◌, ◌+◌, ◌++◌, ◌∷◌, [], All, List, arith, subst, suc, ◌∙◌, ap}
use Rattle.std.specs.Vec.Iter.{into_iter_items, into_iter_len}
use Rattle.process_effects.specs.declared.told.Reply.{Reply}
use Rattle.process_effects.proofs.Replies.{echo_next}
use Rattle.process_effects.specs.Telling.{IsEcho}
use Rattle.process_effects.proofs.telling.tell_echoes.Goals as goal

pub loop-echo-preserved : goal.loop-echo-preserved
loop-echo-preserved c =
    let left : into_iter_items c.loop-echo.echo-iterator ≡ c.in-Some.echo ∷ into_iter_items c.next.new.self = c.in-Some.ensures.steps.0 in
    let one : into_iter_len c.loop-echo.echo-iterator ≡ 1 + into_iter_len c.next.new.self = omega (arith, c.in-Some.ensures.steps.1) in
    let pushed = c.push_reserved.ensures.items ∙ ap (λ (l : List Reply). c.loop-echo.lists.items ++ l ∷ []) c.tell_echo.ensures in
    record {
      ready = λ answers reasons all k d within. subst (All (IsEcho answers reasons)) left (c.loop-echo.invariant.ready answers reasons all) (suc k) d (omega (arith, within));
      told = echo_next c.args.told.now c.loop-echo.lists.items c.push_reserved.new.self.items _ (into_iter_len c.loop-echo.echo-iterator) (into_iter_len c.next.new.self) pushed c.loop-echo.invariant.told one;
      len = omega (arith, c.loop-echo.invariant.len, c.push_reserved.ensures.len, one);
      room = c.push_reserved.ensures.capacity ∙ c.loop-echo.invariant.room;
    }
