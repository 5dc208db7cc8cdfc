-- The application at the index has its children specified anew, where its supervisor is of the module.
use Rattle.std.proofs.Common.{◌≡◌, ◌+◌, ◌++◌, ◌∷◌, ◌∙◌, List, [], None, Some, ap, drop, length, refl, sym, subst}
use Rattle.std.specs.Option.{IsSome, option_copied}
use Rattle.std.specs.Prelude.{IfSome}
use Rattle.code_changes.proofs.Renewed.{drop_changed, is_renewed, messages_given, not_renewed, stands}
use Rattle.code_changes.proofs.Backs.{its_supervisor, renewals_more}
use Rattle.app_table.specs.Applications.{Application}
use Rattle.app_table.specs.Renewing.{with_renewed}
use Rattle.app_table.specs.declared.undo.AppsUndo.{AppsUndo}
use Rattle.code_changes.specs.Undo.{AreRenewalsIn}
use Rattle.values.proofs.Edits.{length-changed_at}
use Rattle.code_changes.specs.Renewing.{RenewsOne, supervisor_in}
use Rattle.script_state.proofs.Firsts.{none_unless}
use Rattle.code_changes.proofs.renewing.renew_app.Goals as goal

pub app_at-requires : goal.app_at-requires
app_at-requires c =
    let (a, at) = stands c.args.apps.now c.args.index c.requires in
    subst IsSome (sym at) refl

pub ask-requires : goal.ask-requires
ask-requires c = messages_given c.args.code.now c.in-Some.module.now c.in_ok-specs.field-0.specs c.in_ok-specs.field-0.acts c.in_ok-specs.ensures.given

pub renew-requires : goal.renew-requires
renew-requires c = c.requires

pub returns-in_default-clause-renews : goal.returns-in_default-clause-renews
returns-in_default-clause-renews c =
    let code = c.args.code.now in
    let name = c.args.name.now in
    let apps = c.args.apps.now in
    let e = c.args.evaluation in
    let a = c.app_at.result.now in
    let none : supervisor_in name a ≡ None = sym c.supervisor_in.ensures ∙ ap option_copied (none_unless c.supervisor_in.result c.in_default.not-Some) in
    λ t it. subst (λ o. IfSome o (RenewsOne code name c.args.index apps apps t e e)) (sym c.app_at.ensures) (not_renewed code name c.args.index apps t e a c.app_at.ensures none it)

pub returns-clause-renews : goal.returns-clause-renews
returns-clause-renews c =
    let code = c.args.code.now in
    let name = c.args.name.now in
    let apps = c.args.apps.now in
    let e = c.args.evaluation in
    let f = c.in_ok-evaluation.evaluation in
    let a = c.app_at.result.now in
    let m = c.in-Some.module.now in
    let specs = c.in_ok-specs.field-0.specs in
    let acts = c.in_ok-specs.field-0.acts in
    let is : supervisor_in name a ≡ Some m = sym c.supervisor_in.ensures ∙ ap option_copied c.in-Some.is in
    λ t it. subst (λ o. IfSome o (RenewsOne code name c.args.index apps c.renew.new.self t e f)) (sym c.app_at.ensures)
    (is_renewed code name c.args.index apps c.renew.new.self t e f a m specs acts c.app_at.ensures is c.in_ok-specs.ensures.given c.in_ok-renew.ensures.renewed c.in_ok-evaluation.ensures.asked it (c.in_ok-evaluation.ensures.evaluated t it))

pub returns-clause-others : goal.returns-clause-others
returns-clause-others c =
    let apps = c.args.apps.now in
    let index = c.args.index in
    let f = with_renewed c.in_ok-specs.field-0.specs in (
      ap (λ (xs : List Application). length xs) c.in_ok-renew.ensures.renewed ∙ length-changed_at f apps index,
      ap (λ (xs : List Application). drop (index + 1) xs) c.in_ok-renew.ensures.renewed ∙ drop_changed apps index f,
    )

pub returns-clause-renewals : goal.returns-clause-renewals
returns-clause-renewals c =
    let code = c.args.code.now in
    let name = c.args.name.now in
    let undo = c.in_ok-renew.field-0 in
    let a = c.app_at.result.now in
    let m = c.in-Some.module.now in
    let specs = c.in_ok-specs.field-0.specs in
    let acts = c.in_ok-specs.field-0.acts in
    let is : supervisor_in name a ≡ Some m = sym c.supervisor_in.ensures ∙ ap option_copied c.in-Some.is in
    let so_far = c.args.renewals.now.items in
    let pushed = c.push_reserved.ensures.items ∙ ap (λ (us : List AppsUndo). us ++ undo ∷ []) c.in_ok-reserve.ensures.items in
    λ before x. subst (λ (us : List AppsUndo). AreRenewalsIn code us before c.renew.new.self) (sym pushed)
    (renewals_more code so_far undo before c.args.apps.now c.renew.new.self c.args.index a m specs acts c.app_at.ensures (its_supervisor name a m is) c.in_ok-specs.ensures.given c.in_ok-renew.ensures.renewed c.in_ok-renew.ensures.inverse c.in_ok-renew.ensures.renewal c.in_ok-renew.ensures.pieces x)
