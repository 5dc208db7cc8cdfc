-- Those that were idle are so again.
use Rattle.std.proofs.Common.{◌≡◌, sym, ap, ◌∙◌, arith}
use Rattle.std.proofs.lemmas.List.{drop_all}
use Rattle.process_table.specs.States.{all_suspended}
use Rattle.process_table.proofs.Resuming.{all_back}
use Rattle.process_table.proofs.states.suspend_all.Goals as goal

pub returns-clause-back : goal.returns-clause-back
returns-clause-back c = λ idle.
    let pids = c.args.pids.now in
    let t = c.loop-pid.store in
    let is : t ≡ all_suspended pids c.args.store.now = ap (λ xs. all_suspended xs t) (sym (drop_all c.loop-pid.pid-index pids (omega arith))) ∙ c.loop-pid.invariant in
    all_back pids c.args.store.now t is idle
