-- It doesn't start, and all is as it was.
use Rattle.std.proofs.Common.{inr, refl}
use Rattle.release_boot.specs.Boot.{reason_of}
use Rattle.release_boot.proofs.restarting.start_or_pass_over.Goals as goal

pub returns-in-Err-Refused : goal.returns-in-Err-Refused
returns-in-Err-Refused c =
    let e = c.in-Err-Refused.field-0-0 in
    let refuses = rw c.in-Err-Refused.field-0-is at c.in-Err-Refused.ensures.refused in
    inr (reason_of c.args.name.now e, (e, refuses, refl), c.in-Err-Refused.ensures.err.0, c.in-Err-Refused.ensures.err.1)
