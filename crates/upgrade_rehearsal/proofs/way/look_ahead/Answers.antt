-- It is known by its parts.
use Rattle.upgrade_rehearsal.proofs.way.look_ahead.Goals as goal

pub try_out-requires : goal.try_out-requires
try_out-requires c = c.requires

pub returns-clause-ahead : goal.returns-clause-ahead
returns-clause-ahead c = record {
  next = c.in_ok-instruction.ensures.instruction;
  known = c.in_ok-instruction.ensures.outlook;
  tried = c.in_ok-jobs.ensures.tried;
  undone = c.in_ok-jobs.ensures.undone;
}
