-- The call that was closed is noted.
use Rattle.std.proofs.Common.{sym, ap, subst, ◌∙◌}
use Rattle.process_effects.specs.Parted.{AllReopen, all_reopened}
use Rattle.process_effects.specs.declared.answers.Closed.{Closed}
use Rattle.process_effects.proofs.Unsending.{answered_back, answered_fits}
use Rattle.process_effects.proofs.answers.answer_call.Goals as goal

pub returns-in-Some-clause-fits : goal.returns-in-Some-clause-fits
returns-in-Some-clause-fits c =
    let it : Closed = record { pid = c.in-Some.pid; call = c.in-Some.call } in
    λ all. subst (λ cs. AllReopen cs c.close.new.self) (sym c.push_reserved.ensures.items) (answered_fits c.args.closed.now.items it c.args.store.now c.close.new.self c.in-Some.ensures.returns c.in-Some.ensures.back all)

pub returns-in-Some-clause-back : goal.returns-in-Some-clause-back
returns-in-Some-clause-back c =
    let it : Closed = record { pid = c.in-Some.pid; call = c.in-Some.call } in
    ap (λ cs. all_reopened cs c.close.new.self) c.push_reserved.ensures.items ∙ answered_back c.args.closed.now.items it c.args.store.now c.close.new.self c.in-Some.ensures.back
