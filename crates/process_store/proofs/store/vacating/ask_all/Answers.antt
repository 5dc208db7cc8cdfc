-- One more call is open; where one is refused, none of them is.
use Rattle.std.proofs.Common.{◌≡◌, ℕ, true, ap, subst, ◌∙◌}
use Rattle.process_store.specs.Table.{has_number}
use Rattle.process_store.specs.Vacating.{all_answered, all_asked}
use Rattle.process_store.proofs.Vacating.{answered_back, left_fewer, same_elsewhere}
use Rattle.process_store.proofs.store.vacating.ask_all.Goals as goal

pub loop-call-preserved : goal.loop-call-preserved
loop-call-preserved c =
    let so_far = c.loop-call.invariant in
    let left = c.in-Some.ensures.steps in
    let call = c.in-Some.call.now in
    let rest = c.next.new.self in
    let calls = c.args.calls.now in
    let among = subst (λ cs. (number : ℕ) → has_number number cs ≡ true → has_number number calls ≡ true) left so_far.among in
    record {
      asked = ap (all_asked c.args.pid rest) c.in_default.ensures.ok ∙ subst (λ cs. all_asked c.args.pid cs c.loop-call.open_calls ≡ all_asked c.args.pid calls c.args.open_calls.now) left so_far.asked;
      among = left_fewer call rest calls among;
      same = same_elsewhere call rest calls _ c.args.open_calls.now c.loop-call.open_calls c.insert.new.self among c.in_default.ensures.ok so_far.same;
    }

pub returns-in-Err-clause-err : goal.returns-in-Err-clause-err
returns-in-Err-clause-err c =
    c.answer_all.ensures ∙ ap (all_answered c.args.calls.now) c.in-Err.ensures.err ∙ answered_back c.args.calls.now c.args.open_calls.now c.loop-call.open_calls c.requires c.loop-call.invariant.same
