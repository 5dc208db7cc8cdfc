-- What comes of the applications from here on comes, behind those so far, of all; those from here on are as they were; none so far gives no
-- supervision.
use Rattle.std.proofs.Common.{◌≡◌, List, drop, length}
use Rattle.app_table.specs.Applications.{Application}
use Rattle.code_changes.proofs.Renewed.{Renewing}
use Rattle.code_changes.specs.Renewing.{FirstBadInit}
use Rattle.code_changes.specs.Undo.{AreRenewalsIn}
use Rattle.erl_term.specs.declared.term.Term.{Term}
use Rattle.process_store.specs.Table.{Table}
use Rattle.upgrade_calls.specs.Evaluated.{AreEvaluated}
use Rattle.code_changes.proofs.renewing.renew_apps.Given as goal

abbrev pub invariant-loop-index : goal.invariant-loop-index
invariant-loop-index l = record {
  long : length l.apps ≡ length l.fn.apps;
  same : drop l.index l.apps ≡ drop l.index l.fn.apps;
  renewing : (t : Table) → AreEvaluated t l.fn.evaluation → Renewing l.code l.name t l.fn.apps l.fn.evaluation l.index l.apps l.evaluation;
  bad : (x : Term) → FirstBadInit l.code l.name (drop l.index l.fn.apps) x → FirstBadInit l.code l.name l.fn.apps x;
  renewals : (before : List Application) → AreRenewalsIn l.code l.fn.renewals.items before l.fn.apps → AreRenewalsIn l.code l.renewals.items before l.apps;
}
