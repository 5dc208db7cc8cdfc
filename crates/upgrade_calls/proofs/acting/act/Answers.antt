-- What is under way from the processes as they are stands.
use Rattle.std.proofs.Common.{[], None}
use Rattle.process_effects.specs.Begins.{acts_begun, begun_told}
use Rattle.process_store.specs.Table.{empty_table}
use Rattle.process_table.specs.Undo.{held}
use Rattle.upgrade_calls.proofs.Kept.{nothing_held}
use Rattle.upgrade_calls.proofs.acting.act.Goals as goal

pub returns-in_ok-told-in-Ok-clause-done : goal.returns-in_ok-told-in-Ok-clause-done
returns-in_ok-told-in-Ok-clause-done c =
    let now = c.args.processes.now in
    let code = c.args.code.now in
    let under = c.in-Ok.ensures.begun now now [] (c.new-batch.ensures now) in
    c.in_ok-told-in-Ok.ensures.stands now (acts_begun None code c.args.acts now) (begun_told None code c.args.acts now) under

pub returns-in_ok-told-in-Ok-clause-told : goal.returns-in_ok-told-in-Ok-clause-told
returns-in_ok-told-in-Ok-clause-told c =
    let now = c.args.processes.now in
    let code = c.args.code.now in
    let under = c.in-Ok.ensures.begun now now [] (c.new-batch.ensures now) in
    c.in_ok-told-in-Ok.ensures.told now (acts_begun None code c.args.acts now) (begun_told None code c.args.acts now) under

pub returns-in_ok-told-in-Ok-clause-inverse : goal.returns-in_ok-told-in-Ok-clause-inverse
returns-in_ok-told-in-Ok-clause-inverse c =
    let now = c.args.processes.now in
    let under = c.in-Ok.ensures.begun now now [] (c.new-batch.ensures now) in
    c.in_ok-told-in-Ok.ensures.inverse now under.back

pub returns-in_ok-told-in-Ok-clause-pieces : goal.returns-in_ok-told-in-Ok-clause-pieces
returns-in_ok-told-in-Ok-clause-pieces c = c.in_ok-told-in-Ok.ensures.pieces c.args.processes.now

pub returns-in_ok-told-in-Ok-clause-none : goal.returns-in_ok-told-in-Ok-clause-none
returns-in_ok-told-in-Ok-clause-none c = nothing_held (held c.in_ok-told-in-Ok.undo c.finish.new.self) c.finish.new.self (c.in_ok-told-in-Ok.ensures.pieces empty_table)
