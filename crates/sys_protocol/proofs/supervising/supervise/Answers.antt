-- What is under way from the processes as they are stands.
use Rattle.std.proofs.Common.{[], sym, subst}
use Rattle.sys_protocol.specs.AppStarts.{AppStarts}
use Rattle.process_store.specs.Table.{Table}
use Rattle.sys_protocol.proofs.supervising.supervise.Goals as goal

pub returns-in_ok-told-in-Ok-clause-started : goal.returns-in_ok-told-in-Ok-clause-started
returns-in_ok-told-in-Ok-clause-started c =
    let code = c.args.code.now in
    let m = c.args.module.now in
    let now = c.args.processes.now in
    let (after, others, starts, under) = c.in-Ok.ensures.started now now [] (c.new-batch.ensures now) in
    let stands = c.in_ok-told-in-Ok.ensures.stands now after others under in
    let told = c.in_ok-told-in-Ok.ensures.told now after others under in
    (others, subst (λ (u : Table). AppStarts code m now c.in-Ok.children u others) (sym stands) starts, told)

pub returns-in_ok-told-in-Ok-clause-inverse : goal.returns-in_ok-told-in-Ok-clause-inverse
returns-in_ok-told-in-Ok-clause-inverse c =
    let now = c.args.processes.now in
    let (after, others, starts, under) = c.in-Ok.ensures.started now now [] (c.new-batch.ensures now) in
    c.in_ok-told-in-Ok.ensures.inverse now under.back

pub returns-in_ok-told-in-Ok-clause-pieces : goal.returns-in_ok-told-in-Ok-clause-pieces
returns-in_ok-told-in-Ok-clause-pieces c = c.in_ok-told-in-Ok.ensures.pieces c.args.processes.now
