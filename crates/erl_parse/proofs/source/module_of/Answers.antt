-- The first fault is told, as an error.
use Rattle.std.proofs.Common.{subst}
use Rattle.erl_lower.specs.Lowering.{IsLoweringOf}
use Rattle.erl_parse.specs.Telling.{has_fault}
use Rattle.erl_parse.proofs.source.module_of.Goals as goal

pub returns-in-Fault-clause-refused : goal.returns-in-Fault-clause-refused
returns-in-Fault-clause-refused c =
    has_fault {fault = c.in-Fault.fault} c.of_static.ensures (subst (IsLoweringOf c.args.tree) c.in-Fault.is c.in_ok-module.ensures)
