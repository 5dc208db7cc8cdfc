-- What comes of the modules that are left comes, behind what was evaluated so far, of all.
use Rattle.std.proofs.Common.{List, drop}
use Rattle.app_table.specs.Applications.{Application}
use Rattle.code_changes.proofs.Upgraded.{Reached}
use Rattle.code_changes.specs.Changing.{script}
use Rattle.code_changes.specs.Undo.{AreRenewalsIn}
use Rattle.upgrade_calls.specs.Evaluated.{AreEvaluated}
use Rattle.code_changes.proofs.changing.evaluate_all.Given as goal

abbrev pub invariant-loop-module : goal.invariant-loop-module
invariant-loop-module l = record {
  evaluated : AreEvaluated l.processes l.evaluation;
  reached : Reached l.code (script l.direction l.versions l.suspended) l.processes l.modules l.fn.apps (drop l.module-index l.modules) l.apps l.evaluation;
  renewals : (before : List Application) → AreRenewalsIn l.code l.fn.renewals.items before l.fn.apps → AreRenewalsIn l.code l.renewals.items before l.apps;
}
