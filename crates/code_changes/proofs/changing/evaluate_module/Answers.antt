-- The processes change, and then the supervisors specify their children anew.
use Rattle.std.proofs.Common.{◌++◌, ◌∙◌, List, ap, refl, subst, sym}
use Rattle.std.proofs.lemmas.List.{append_assoc}
use Rattle.code_changes.proofs.Servers.{changes_stay}
use Rattle.code_changes.specs.Changing.{Upgraded, changes_in, script}
use Rattle.code_changes.specs.Renewing.{FirstBadInit}
use Rattle.process_effects.specs.declared.told.Reply.{Reply}
use Rattle.upgrade_calls.specs.Changing.{AllChange, FirstUnchanged}
use Rattle.upgrade_calls.specs.Evaluated.{processes_after, told_after}
use Rattle.upgrade_calls.specs.declared.changing.CodeChangeCall.{CodeChangeCall}
use Rattle.values.specs.Failure.{Fails}
use Rattle.code_changes.proofs.changing.evaluate_module.Goals as goal

pub returns-in-Err-Refused-clause-stops : goal.returns-in-Err-Refused-clause-stops
returns-in-Err-Refused-clause-stops c =
    let code = c.args.code.now in
    let t = c.args.processes.now in
    let e = c.args.evaluation in
    let s = script c.args.direction c.args.versions.now c.args.suspended.now in
    let now = processes_after code e t in
    let same = c.in_ok-changes.ensures.changes ∙ changes_stay code t e s c.args.module.now c.args.apps.now c.requires in
    let fails = subst (Fails (FirstUnchanged code c.in_ok-changes.changes.items now) (Unit {0})) c.in-Err-Refused.field-0-is c.in-Err-Refused.ensures.failed in
    subst (FirstUnchanged code (changes_in s c.args.module.now c.args.apps.now now) now) (sym c.in-Err-Refused.failed-is) (subst (λ (cs : List CodeChangeCall). FirstUnchanged code cs now c.in-Err-Refused.failed) same fails)

pub returns-in-Ok-renew_apps-clause-evaluated : goal.returns-in-Ok-renew_apps-clause-evaluated
returns-in-Ok-renew_apps-clause-evaluated c = (c.in-Ok-renew_apps.ensures.renews c.args.processes.now c.in-Ok.ensures.evaluated).evaluated

pub returns-in-Ok-renew_apps-clause-upgrades : goal.returns-in-Ok-renew_apps-clause-upgrades
returns-in-Ok-renew_apps-clause-upgrades c =
    let code = c.args.code.now in
    let t = c.args.processes.now in
    let e = c.args.evaluation in
    let f = c.in-Ok.changed in
    let g = c.in-Ok-renew_apps.renewed in
    let s = script c.args.direction c.args.versions.now c.args.suspended.now in
    let now = processes_after code e t in
    let between = processes_after code f t in
    let same = c.in_ok-changes.ensures.changes ∙ changes_stay code t e s c.args.module.now c.args.apps.now c.requires in
    let all = c.in-Ok-renew_apps.ensures.renews t c.in-Ok.ensures.evaluated in
    let (told, change, tells) = c.in-Ok.ensures.changed in
    let u : Upgraded = record { apps = c.renew_apps.new.apps; processes = processes_after code g t; told = told ++ all.said; changes = c.in_ok-changes.changes.items } in (
      u,
      record {
        between = between;
        said = told;
        rest = all.said;
        change = subst (λ (cs : List CodeChangeCall). AllChange code cs now between told) same change;
        renew = all.renew;
        tells = refl;
        changes = same;
      },
      refl,
      record {
        processes = refl;
        tells = all.tells ∙ ap (λ (r : List Reply). r ++ all.said) tells ∙ append_assoc (told_after code e t) told all.said;
        changes = all.changes ∙ c.in-Ok.ensures.changes;
      },
    )

pub returns-in-Ok-renew_apps-clause-renewals : goal.returns-in-Ok-renew_apps-clause-renewals
returns-in-Ok-renew_apps-clause-renewals c = c.renew_apps.ensures.renewals

pub returns-in-Err-Refused-renew_apps-clause-stops : goal.returns-in-Err-Refused-renew_apps-clause-stops
returns-in-Err-Refused-renew_apps-clause-stops c =
    let code = c.args.code.now in
    let t = c.args.processes.now in
    let e = c.args.evaluation in
    let s = script c.args.direction c.args.versions.now c.args.suspended.now in
    let now = processes_after code e t in
    let between = processes_after code c.in-Ok.changed t in
    let same = c.in_ok-changes.ensures.changes ∙ changes_stay code t e s c.args.module.now c.args.apps.now c.requires in
    let (told, change, tells) = c.in-Ok.ensures.changed in
    let fails = subst (Fails (FirstBadInit code c.args.module.now.name c.args.apps.now) (Unit {0})) c.in-Err-Refused-renew_apps.field-0-is c.in-Err-Refused-renew_apps.ensures.failed in
    (between, told, subst (λ (cs : List CodeChangeCall). AllChange code cs now between told) same change, fails)

pub returns-in-Err-Refused-renew_apps-clause-renewals : goal.returns-in-Err-Refused-renew_apps-clause-renewals
returns-in-Err-Refused-renew_apps-clause-renewals c = c.renew_apps.ensures.renewals

pub returns-in-Err-Memory-renew_apps-clause-renewals : goal.returns-in-Err-Memory-renew_apps-clause-renewals
returns-in-Err-Memory-renew_apps-clause-renewals c = c.renew_apps.ensures.renewals
