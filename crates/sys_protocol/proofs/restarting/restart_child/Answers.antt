-- What is under way from the processes as they are stands.
use Rattle.std.proofs.Common.{[], refl}
use Rattle.sys_protocol.specs.ChildStarts.{after_start, start_told}
use Rattle.sys_protocol.proofs.restarting.restart_child.Goals as goal

pub returns-in_ok-told-in-Ok-clause-started : goal.returns-in_ok-told-in-Ok-clause-started
returns-in_ok-told-in-Ok-clause-started c =
    let now = c.args.processes.now in
    let code = c.args.code.now in
    let (o, starts, under) = c.in-Ok.ensures.started now now [] (c.new-batch.ensures now) in
    let stands = c.in_ok-told-in-Ok.ensures.stands now (after_start code o now) (start_told code o now) under in
    let told = c.in_ok-told-in-Ok.ensures.told now (after_start code o now) (start_told code o now) under in
    (start_told code o now, (c.in-Ok.ensures.pid, (o, starts, stands, refl)), told)

pub returns-in_ok-told-in-Ok-clause-inverse : goal.returns-in_ok-told-in-Ok-clause-inverse
returns-in_ok-told-in-Ok-clause-inverse c =
    let now = c.args.processes.now in
    let (o, starts, under) = c.in-Ok.ensures.started now now [] (c.new-batch.ensures now) in
    c.in_ok-told-in-Ok.ensures.inverse now under.back

pub returns-in_ok-told-in-Ok-clause-pieces : goal.returns-in_ok-told-in-Ok-clause-pieces
returns-in_ok-told-in-Ok-clause-pieces c = c.in_ok-told-in-Ok.ensures.pieces c.args.processes.now
