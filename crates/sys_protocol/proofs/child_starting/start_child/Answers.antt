-- What comes of the child in the processes as they are comes of it in those that the batch makes.
use Rattle.std.proofs.Common.{◌+◌, ℕ, Bool, List, option_map, ap, ◌∙◌}
use Rattle.sys_protocol.proofs.Reached.{begun_there, fails_there, free_there, starts_there}
use Rattle.sys_protocol.specs.StartResults.{name_in}
use Rattle.sys_protocol.proofs.child_starting.start_child.Goals as goal

pub begin-requires : goal.begin-requires
begin-requires c =
    free_there (c.last_pid-last.result + 1) c.in_ok-outcome.outcome c.args.processes.now c.in_ok-name-in-Ok.name (c.in_ok-name-in-Ok.ensures ∙ ap (λ acts. option_map (λ (asked : List ℕ × Bool). asked.0) (name_in acts)) c.as_slice.ensures) c.in-Ok.ensures.ok

pub returns-in_ok-begin-in-Ok-clause-started : goal.returns-in_ok-begin-in-Ok-clause-started
returns-in_ok-begin-in-Ok-clause-started c =
    λ before t told way.
    let o = c.in_ok-outcome.outcome in
    let more = c.begin.new.batch in
    let named = c.in_ok-name-in-Ok.ensures ∙ ap (λ acts. option_map (λ (asked : List ℕ × Bool). asked.0) (name_in acts)) c.as_slice.ensures in (
      o,
      starts_there c.args.batch.now.answers.items c.args.processes.now t way.makes c.args.code.now c.args.child.now o (c.last_pid-last.result + 1) c.last_pid-last.ensures.pid c.in_ok-outcome.ensures c.in-Ok.ensures.ok,
      begun_there c.args.code.now o.acts c.in_ok-name-in-Ok.name more.changes.items more.answers.items before c.begin.new.self t told named (c.in_ok-begin-in-Ok.ensures.begun before t told way),
    )

pub returns-in-Err-clause-failed : goal.returns-in-Err-clause-failed
returns-in-Err-clause-failed c =
    λ before t told way.
    fails_there c.args.batch.now.answers.items c.args.processes.now t way.makes c.args.code.now c.args.child.now c.in_ok-outcome.outcome (c.last_pid-last.result + 1) c.last_pid-last.ensures.pid c.in_ok-outcome.ensures c.in-Err.failure c.in-Err.ensures.failed
