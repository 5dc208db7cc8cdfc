-- An advance is not done.
use Rattle.workers.specs.Installing.{DriveFails}
use Rattle.workers.proofs.Halted.{drives_halted}
use Rattle.workers.proofs.Passed.{passed_on}
use Rattle.workers.proofs.installing.drive.Goals as goal

pub returns-in_err-end-clause-fails : goal.returns-in_err-end-clause-fails
returns-in_err-end-clause-fails g c =
    let patience = c.args.patience in
    let old = c.args.seat.now in
    let new = c.advance.new.seat in
    let why = c.in_err-end.field-0.0 in
    passed_on (DriveFails patience old new) c.from_residual.result why c.from_residual.ensures
    (drives_halted patience c.loop.left why old c.loop.seat new c.loop.invariant c.in_err-end.ensures.fails)
