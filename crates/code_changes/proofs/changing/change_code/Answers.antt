-- What it holds of children is lost over all the steps.
use Rattle.std.proofs.Common.{List, subst, sym}
use Rattle.app_table.specs.declared.undo.AppsUndo.{AppsUndo}
use Rattle.code_changes.proofs.Backs.{are_renewals, no_renewals}
use Rattle.code_changes.specs.Undo.{AreRenewals, AreRenewalsIn}
use Rattle.code_changes.proofs.changing.change_code.Goals as goal

pub returns-in-Ok-clause-inverse : goal.returns-in-Ok-clause-inverse
returns-in-Ok-clause-inverse c =
    let code = c.args.code.now in
    let before = c.args.apps.now in
    let after = c.upgrade.new.apps in
    let none = subst (λ (us : List AppsUndo). AreRenewalsIn code us before before) (sym c.new-renewals.ensures.items) (no_renewals code before) in
    let all = are_renewals code c.upgrade.new.renewals.items before after (c.upgrade.ensures.renewals before none) in
    record {
      processes = c.in-Ok.ensures.inverse;
      renewals = subst (λ (us : List AppsUndo). AreRenewals us before after) (sym c.new-renewals-in-Ok.ensures) all;
    }
