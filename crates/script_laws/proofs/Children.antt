-- Each child that runs goes on as a process of its own, whatever an instruction does.
use Rattle.std.proofs.Common.{◌≡◌, ◌⊎◌, ℕ, inl, inr, List, [], ◌∷◌, Option, None, Some, sym, subst}
use Rattle.app_table.specs.Applications.{Application}
use Rattle.app_table.specs.Renewing.{with_renewed}
use Rattle.child_specs.specs.declared.child.ChildSpec.{ChildSpec}
use Rattle.children_live.proofs.Steps.{application_steps_keep_children, ends_keep_children, process_steps_keep_children}
use Rattle.children_live.specs.Children.{AreRenewed, ChildrenLive}
use Rattle.code_changes.specs.Changing.{AllUpgrade, Script, Upgraded, Upgrades, changes_in}
use Rattle.code_changes.specs.Renewing.{AllRenew, RenewsIf, supervisor_in}
use Rattle.code_loading.specs.Current.{current_code}
use Rattle.code_replacement.specs.Replacing.{RunningSystem, all_without, without_lingering}
use Rattle.erl_semantics.specs.declared.instance.Instance.{Instance}
use Rattle.erl_term.specs.Accessors.{atom_of}
use Rattle.erl_term.specs.Tree.{Tree, Trees}
use Rattle.low_instructions.specs.declared.low.Low.{Low}
use Rattle.low_instructions.specs.declared.low.Low.TheVariants.{LoadObjectCode, PointOfNoReturn, Load, Remove, Purge, Suspend, Resume, CodeChange, Stop, Start, Apply}
use Rattle.low_instructions.specs.declared.modules.ModuleChange.{ModuleChange}
use Rattle.otp_files.specs.declared.app.StartModule.{StartModule}
use Rattle.process_effects.specs.Ends.{all_vacated}
use Rattle.process_effects.specs.declared.told.Reply.{Reply}
use Rattle.process_store.specs.Table.{Table}
use Rattle.release_table.specs.declared.table.Release.{Release}
use Rattle.script_children.specs.Applying as applying
use Rattle.script_children.specs.Applying.{AppliedAs}
use Rattle.script_children.specs.Calls.{call_of}
use Rattle.script_children.specs.Children.{Supervised}
use Rattle.script_children.specs.declared.calls.AppCall.{AppCall}
use Rattle.script_children.specs.declared.calls.AppCall.TheVariants as call
use Rattle.script_laws.specs.Laws.{InstructionsKeepChildren}
use Rattle.script_runner.specs.Instructions.{RunsInstruction, running_of, script_of, supervised_of}
use Rattle.script_runner.specs.Parts.{Parts}
use Rattle.suspensions.specs.Suspending.{names, to_resume, to_suspend}
use Rattle.sys_protocol.specs.Stopping.{app_pids, stopped_app, unloaded_app}

abbrev Live : Parts → Type 0
Live p = ChildrenLive p.apps p.processes

-- modules are purged, one after the other
purges_keep : (ns : List (List ℕ)) (s : RunningSystem) → ChildrenLive s.apps s.processes →
    ChildrenLive (all_without ns s).apps (all_without ns s).processes
purges_keep [] s kept = kept
purges_keep (n ∷ ns) s kept =
    purges_keep ns (without_lingering n s) (ends_keep_children.spares n s.modules s.apps s.processes kept)

-- a function is applied

moved : (after : Supervised) (apps : List Application) (t : Table) → after.apps ≡ apps → after.processes ≡ t →
    ChildrenLive apps t → ChildrenLive after.apps after.processes
moved after apps t same also kept =
    subst (λ (xs : List Application). ChildrenLive xs after.processes) (sym same)
    (subst (λ (u : Table). ChildrenLive apps u) (sym also) kept)

calls_keep : (code : List Instance) (c : AppCall) (name : Option (List ℕ)) (s after : Supervised) (told : List Reply) →
    applying.DoesAppCall code c name s after told → ChildrenLive s.apps s.processes → ChildrenLive after.apps after.processes
calls_keep code call.Start None s after told does kept = absurd does
calls_keep code call.Stop None s after told does kept = absurd does
calls_keep code call.Unload None s after told does kept = absurd does
calls_keep code call.Start (Some name) s after told does kept =
    subst (λ (xs : List Application). ChildrenLive xs after.processes) (sym does.apps)
    (application_steps_keep_children.starts_app code name s.apps s.processes does.children after.processes told does.runs kept)
calls_keep code call.Stop (Some name) s after told does kept =
    moved after (stopped_app name s.apps) (all_vacated (app_pids name s.apps) s.processes) does.apps does.processes
    (application_steps_keep_children.stops_app name s.apps s.processes kept)
calls_keep code call.Unload (Some name) s after told does kept =
    moved after (unloaded_app name s.apps) s.processes does.apps does.processes
    (application_steps_keep_children.unloads_app name s.apps s.processes kept)

applied_keeps : (o : Option (AppCall × Tree)) (code : List Instance) (m f : List ℕ) (args : Trees) (s after : Supervised) →
    (told : List Reply) → AppliedAs o code m f args s after told →
    ChildrenLive s.apps s.processes → ChildrenLive after.apps after.processes
applied_keeps None code m f args s after told does kept =
    subst (λ (xs : List Application). ChildrenLive xs after.processes) (sym does.1)
    (process_steps_keep_children.applies code m f args s.apps s.processes after.processes told does.0 kept)
applied_keeps (Some c) code m f args s after told does kept = calls_keep code c.0 (atom_of c.1) s after told does kept

-- processes change, and supervisors specify their children anew

renews_live : (code : List Instance) (o : Option StartModule) (a b : Application) (apps : List Application) (t after : Table) →
    (told : List Reply) → RenewsIf code o a b t after told → ChildrenLive apps t → ChildrenLive apps after
renews_live code None a b apps t after told renews kept = subst (λ (u : Table). ChildrenLive apps u) (sym renews.1) kept
renews_live code (Some s) a b apps t after told renews kept =
    subst (λ (u : Table). ChildrenLive apps u) (sym renews.done) (process_steps_keep_children.begins None code renews.acts apps t kept)

all_renew_live : (code : List Instance) (name : List ℕ) (others : List Application) (t : Table) (last : List Application) (after : Table) →
    (told : List Reply) (apps : List Application) → AllRenew code name others t last after told → ChildrenLive apps t → ChildrenLive apps after
all_renew_live code name [] t last after told apps renew kept = subst (λ (u : Table). ChildrenLive apps u) (sym renew.1) kept
all_renew_live code name (a ∷ others) t [] after told apps renew kept = absurd renew
all_renew_live code name (a ∷ others) t (b ∷ last) after told apps (mid, said, rest, one, all, tells) kept =
    all_renew_live code name others mid last after rest apps all (renews_live code (supervisor_in name a) a b apps t mid said one kept)

are_renewed_if : (code : List Instance) (o : Option StartModule) (a b : Application) (t after : Table) (told : List Reply) →
    RenewsIf code o a b t after told → (b ≡ a) ⊎ ((specs : List ChildSpec) × (b ≡ with_renewed specs a))
are_renewed_if code None a b t after told renews = inl renews.0
are_renewed_if code (Some s) a b t after told renews = inr (renews.specs, renews.renewed)

are_renewed : (code : List Instance) (name : List ℕ) (apps : List Application) (t : Table) (last : List Application) (after : Table) →
    (told : List Reply) → AllRenew code name apps t last after told → AreRenewed apps last
are_renewed code name [] t last after told renew = subst (AreRenewed []) (sym renew.0) tt
are_renewed code name (a ∷ apps) t [] after told renew = absurd renew
are_renewed code name (a ∷ apps) t (b ∷ last) after told (mid, said, rest, one, all, tells) =
    (are_renewed_if code (supervisor_in name a) a b t mid said one, are_renewed code name apps mid last after rest all)

upgrades_live : (code : List Instance) (s : Script) (m : ModuleChange) (apps : List Application) (t : Table) (u : Upgraded) →
    Upgrades code s m apps t u → ChildrenLive apps t → ChildrenLive u.apps u.processes
upgrades_live code s m apps t u up kept =
    let changed = process_steps_keep_children.changes code (changes_in s m apps t) apps t up.between up.said up.change kept in
    let begun = all_renew_live code m.name apps up.between u.apps u.processes up.rest apps up.renew changed in
    application_steps_keep_children.renews apps u.apps u.processes (are_renewed code m.name apps up.between u.apps u.processes up.rest up.renew) begun

all_upgrade_live : (code : List Instance) (s : Script) (ms : List ModuleChange) (apps : List Application) (t : Table) (u : Upgraded) →
    AllUpgrade code s ms apps t u → ChildrenLive apps t → ChildrenLive u.apps u.processes
all_upgrade_live code s [] apps t u all kept = subst (λ (v : Upgraded). ChildrenLive v.apps v.processes) (sym all) kept
all_upgrade_live code s (m ∷ ms) apps t u (one, rest, up, all, is) kept =
    subst (λ (v : Upgraded). ChildrenLive v.apps v.processes) (sym is)
    (all_upgrade_live code s ms one.apps one.processes rest all (upgrades_live code s m apps t one up kept))

-- each instruction

does_keep : (r : Release) (i : Low) (p q : Parts) (told : List Reply) → RunsInstruction r i p q told → Live p → Live q
does_keep r (LoadObjectCode app vsn ms) p q told does kept = subst Live (sym does.1) kept
does_keep r PointOfNoReturn p q told does kept = subst Live (sym does.0) kept
does_keep r (Load m pre post) p q told does kept =
    subst Live (sym does.3) (ends_keep_children.spares does.0.name p.modules p.apps p.processes kept)
does_keep r (Remove m pre post) p q told does kept =
    subst Live (sym does.0) (ends_keep_children.spares m p.modules p.apps p.processes kept)
does_keep r (Purge ms) p q told does kept = subst Live (sym does.0) (purges_keep ms (running_of p) kept)
does_keep r (Suspend ms) p q told does kept =
    let pids = to_suspend (names ms) p.apps p.processes in
    subst Live (sym does.0) (process_steps_keep_children.suspends pids p.apps p.processes kept)
does_keep r (Resume ms) p q told does kept =
    let pids = to_resume ms p.suspended p.apps p.processes in
    subst Live (sym does.0) (process_steps_keep_children.resumes pids p.apps p.processes kept)
does_keep r (CodeChange direction changes) p q told (u, all, counted, is, tells) kept =
    let code = current_code p.modules in
    subst Live (sym is) (all_upgrade_live code (script_of direction p) changes p.apps p.processes u all kept)
does_keep r (Stop ms) p q told does kept =
    subst Live (sym does.0) (application_steps_keep_children.stops ms p.apps p.processes kept)
does_keep r (Start ms) p q told (apps, after, is, start) kept =
    let code = current_code p.modules in
    let starts = application_steps_keep_children.starts code p.stopped ms p.apps p.processes apps after told start kept in
    subst Live (sym is) starts
does_keep r (Apply m f args) p q told (s, is, applied) kept =
    let code = current_code p.modules in
    subst Live (sym is) (applied_keeps (call_of m f args) code m f args (supervised_of p) s told applied kept)

pub instructions_keep_children : InstructionsKeepChildren
instructions_keep_children = record { keeps = does_keep }
