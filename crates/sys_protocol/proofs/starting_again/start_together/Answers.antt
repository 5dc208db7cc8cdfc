-- What is under way from the processes as they are stands.
use Rattle.std.proofs.Common.{[], sym, subst}
use Rattle.process_store.specs.Table.{Table}
use Rattle.sys_protocol.proofs.Lengths.{all_start_length}
use Rattle.sys_protocol.specs.ChildStarts.{AllStart}
use Rattle.sys_protocol.proofs.starting_again.start_together.Goals as goal

pub returns-in_ok-told-in-Ok-clause-started : goal.returns-in_ok-told-in-Ok-clause-started
returns-in_ok-told-in-Ok-clause-started c =
    let now = c.args.processes.now in
    let (after, others, start, under) = c.in-Ok.ensures.started now now [] (c.new-batch.ensures now) in
    let stands = c.in_ok-told-in-Ok.ensures.stands now after others under in
    let told = c.in_ok-told-in-Ok.ensures.told now after others under in
    (others, subst (λ (u : Table). AllStart c.args.code.now c.args.specs.now now c.in-Ok.pids.items u others) (sym stands) start, told)

pub returns-in_ok-told-in-Ok-clause-enough : goal.returns-in_ok-told-in-Ok-clause-enough
returns-in_ok-told-in-Ok-clause-enough c =
    let now = c.args.processes.now in
    let (after, others, start, under) = c.in-Ok.ensures.started now now [] (c.new-batch.ensures now) in
    all_start_length c.args.code.now c.args.specs.now now c.in-Ok.pids.items after others start

pub returns-in_ok-told-in-Ok-clause-inverse : goal.returns-in_ok-told-in-Ok-clause-inverse
returns-in_ok-told-in-Ok-clause-inverse c =
    let now = c.args.processes.now in
    let (after, others, start, under) = c.in-Ok.ensures.started now now [] (c.new-batch.ensures now) in
    c.in_ok-told-in-Ok.ensures.inverse now under.back

pub returns-in_ok-told-in-Ok-clause-pieces : goal.returns-in_ok-told-in-Ok-clause-pieces
returns-in_ok-told-in-Ok-clause-pieces c = c.in_ok-told-in-Ok.ensures.pieces c.args.processes.now
