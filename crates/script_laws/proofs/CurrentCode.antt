-- No process is left with code that is gone, whatever an instruction does.
use Rattle.std.proofs.Common.{ℕ, All, List, [], ◌∷◌, codes, map, Option, None, Some, refl, sym, subst}
use Rattle.child_specs.specs.declared.child.ChildSpec.{ChildSpec}
use Rattle.app_table.specs.Applications.{Application}
use Rattle.app_table.specs.declared.child.Child.{Child}
use Rattle.code_loading.proofs.Consistency.{loading_keeps_code}
use Rattle.code_loading.proofs.Removals.{purges_keep_code}
use Rattle.code_loading.proofs.Stepping.{steps_keep_code}
use Rattle.code_loading.specs.Consistent.{IsConsistent}
use Rattle.code_changes.specs.Changing.{AllUpgrade, Script, Upgraded, changes_in}
use Rattle.code_changes.specs.Renewing.{AllRenew, RenewsIf, supervisor_in}
use Rattle.code_loading.specs.Current.{current_code}
use Rattle.code_loading.specs.Laws.{StartsIn}
use Rattle.code_loading.specs.Loading.{spared}
use Rattle.code_replacement.specs.Replacing.{RunningSystem, all_without, without_lingering}
use Rattle.code_server.specs.Modules.{Table as Loaded, purged}
use Rattle.erl_ir.specs.Module.{Forms}
use Rattle.erl_semantics.specs.State.{World, plain, start_mode}
use Rattle.erl_semantics.specs.Views.{instance}
use Rattle.erl_semantics.specs.declared.acts.Place.{Place}
use Rattle.erl_semantics.specs.declared.acts.Place.TheVariants.{Server, Loop}
use Rattle.erl_semantics.specs.declared.instance.Instance.{Instance}
use Rattle.erl_semantics.specs.declared.outcome.Outcome.{Outcome}
use Rattle.erl_term.specs.Accessors.{atom_of}
use Rattle.erl_term.specs.Term.{tree}
use Rattle.erl_term.specs.Tree.{Tree, Trees, more, none}
use Rattle.low_instructions.specs.declared.low.Low.{Low}
use Rattle.low_instructions.specs.declared.low.Low.TheVariants.{LoadObjectCode, PointOfNoReturn, Load, Remove, Purge, Suspend, Resume, CodeChange, Stop, Start, Apply}
use Rattle.low_instructions.specs.declared.modules.ModuleChange.{ModuleChange}
use Rattle.otp_files.specs.declared.app.StartModule.{StartModule}
use Rattle.process.specs.Named.{StandsIn}
use Rattle.process_effects.specs.declared.told.Reply.{Reply}
use Rattle.process_store.specs.Table.{Table, living, next_pid}
use Rattle.process_store.specs.declared.living.ProcessEntry.{ProcessEntry}
use Rattle.release_table.specs.declared.table.Release.{Release}
use Rattle.script_children.specs.Applying as applying
use Rattle.script_children.specs.Applying.{AppliedAs}
use Rattle.script_children.specs.Calls.{call_of}
use Rattle.script_children.specs.Children.{Supervised}
use Rattle.script_children.specs.declared.calls.AppCall.{AppCall}
use Rattle.script_children.specs.declared.calls.AppCall.TheVariants as call
use Rattle.script_laws.specs.Laws.{InstructionsKeepCode}
use Rattle.script_runner.specs.Instructions.{RunsInstruction, running_of, script_of, supervised_of}
use Rattle.script_runner.specs.Parts.{Parts}
use Rattle.suspensions.specs.Suspending.{names, to_resume, to_suspend}
use Rattle.sys_protocol.specs.AppStarts.{InitGives, initialized}
use Rattle.sys_protocol.specs.ChildStarts as children
use Rattle.sys_protocol.specs.ChildStarts.{AllStart, after_start, named_by}
use Rattle.sys_protocol.specs.Refusals.{RunsStartModule, module_of}
use Rattle.sys_protocol.specs.Stopping.{app_pids, to_start, to_stop}
use Rattle.upgrade_calls.specs.Applying as functions
use Rattle.upgrade_calls.specs.Changing as states
use Rattle.upgrade_calls.specs.Changing.{AllChange, after_change, with_state}
use Rattle.upgrade_calls.specs.declared.changing.CodeChangeCall.{CodeChangeCall}

-- What is evaluated asks for what rests in the code in which it was evaluated: a start function, `init` of a callback module,
-- `code_change/3`, and a function that is applied.
module _ (code : List Instance) where
  child_begins : (c : ChildSpec) (t : Table) (o : Outcome) → children.Gives code c t o → All (StartsIn code) o.acts
  child_begins c t o gives =
      let w : World = record { code = map instance code; pid = next_pid t; mode = start_mode } in
      steps_keep_code.evaluated w code c.name c.function c.arguments o refl gives

  init_begins : (s : StartModule) (o : Outcome) → InitGives code s o → All (StartsIn code) o.acts
  init_begins s o gives =
      let w : World = record { code = map instance code; pid = 0; mode = plain } in
      steps_keep_code.evaluated w code s.name (codes "init") (more (tree s.arguments) none) o refl gives

  change_begins_at : (c : CodeChangeCall) (at : Place) (o : Outcome) → states.GivesAt code c at o → All (StartsIn code) o.acts
  change_begins_at c (Server m s) o gives =
      let w : World = record { code = map instance code; pid = c.pid; mode = plain } in
      let args : Trees = more (tree c.vsn) (more (tree s) (more (tree c.extra) none)) in
      steps_keep_code.evaluated w code m (codes "code_change") args o refl gives
  change_begins_at c (Loop m serial f args) o gives = absurd gives

  change_begins : (c : CodeChangeCall) (l : Option ProcessEntry) (o : Outcome) → states.Gives code c l o → All (StartsIn code) o.acts
  change_begins c None o gives = absurd gives
  change_begins c (Some l) o gives = change_begins_at c l.process.place o gives

  function_begins : (m f : List ℕ) (args : Trees) (o : Outcome) → functions.Gives code m f args o → All (StartsIn code) o.acts
  function_begins m f args o gives =
      let w : World = record { code = map instance code; pid = 0; mode = plain } in
      steps_keep_code.evaluated w code m f args o refl gives

-- So what starts, changes or is applied in current code leaves nobody with code that is gone.
module _ (m : Loaded Forms) (code : List Instance) (stand : All (StandsIn m) (map instance code)) where
  children_keep : (cs : List ChildSpec) (t : Table) (pids : List ℕ) (after : Table) (told : List Reply) →
      AllStart code cs t pids after told → IsConsistent m t → IsConsistent m after
  children_keep [] t [] after told all kept = subst (λ (u : Table). IsConsistent m u) (sym all.0) kept
  children_keep [] t (pid ∷ pids) after told all kept = absurd all
  children_keep (c ∷ cs) t [] after told all kept = absurd all
  children_keep (c ∷ cs) t (pid ∷ pids) after told (is, (o, others, starts, rest, tells)) kept =
      let begins = child_begins code c t o starts.gives in
      children_keep cs (after_start code o t) pids after others rest
      (steps_keep_code.starts (named_by o) code o.acts m t kept stand begins)

  runs_keep : (o : Option StartModule) (t : Table) (children : List Child) (after : Table) (told : List Reply) →
      RunsStartModule code o t children after told → IsConsistent m t → IsConsistent m after
  runs_keep None t children after told runs kept = subst (λ (u : Table). IsConsistent m u) (sym runs.1) kept
  runs_keep (Some it) t children after told runs kept =
      let begins = init_begins code it runs.outcome runs.gives in
      children_keep runs.specs (initialized code runs.outcome t) runs.all_run.0 after runs.others runs.all_run.1
      (steps_keep_code.starts None code runs.outcome.acts m t kept stand begins)

  changes_keep : (cs : List CodeChangeCall) (t after : Table) (told : List Reply) → AllChange code cs t after told →
      IsConsistent m t → IsConsistent m after
  changes_keep [] t after told all kept = subst (λ (u : Table). IsConsistent m u) (sym all.0) kept
  changes_keep (c ∷ cs) t after told (o, state, others, changes, rest, tells) kept =
      let begins = change_begins code c (living c.pid t) o changes.gives in
      let restated = steps_keep_code.restates state 1 c.pid m t kept in
      changes_keep cs (after_change code c o state t) after others rest
      (steps_keep_code.starts None code o.acts m (with_state c state t) restated stand begins)

  renews_keep : (o : Option StartModule) (a b : Application) (t after : Table) (told : List Reply) → RenewsIf code o a b t after told →
      IsConsistent m t → IsConsistent m after
  renews_keep None a b t after told renews kept = subst (λ (u : Table). IsConsistent m u) (sym renews.1) kept
  renews_keep (Some s) a b t after told renews kept =
      let begins = subst (All (StartsIn code)) (sym renews.gives.asks) (init_begins code s renews.gives.outcome renews.gives.gives) in
      subst (λ (u : Table). IsConsistent m u) (sym renews.done) (steps_keep_code.starts None code renews.acts m t kept stand begins)

  all_renew_keep : (name : List ℕ) (apps : List Application) (t : Table) (last : List Application) (after : Table) (told : List Reply) →
      AllRenew code name apps t last after told → IsConsistent m t → IsConsistent m after
  all_renew_keep name [] t last after told renew kept = subst (λ (u : Table). IsConsistent m u) (sym renew.1) kept
  all_renew_keep name (a ∷ apps) t [] after told renew kept = absurd renew
  all_renew_keep name (a ∷ apps) t (b ∷ last) after told (mid, said, rest, one, all, tells) kept =
      all_renew_keep name apps mid last after rest all (renews_keep (supervisor_in name a) a b t mid said one kept)

  all_upgrade_keep : (s : Script) (ms : List ModuleChange) (apps : List Application) (t : Table) (u : Upgraded) →
      AllUpgrade code s ms apps t u → IsConsistent m t → IsConsistent m u.processes
  all_upgrade_keep s [] apps t u all kept = subst (λ (v : Upgraded). IsConsistent m v.processes) (sym all) kept
  all_upgrade_keep s (c ∷ ms) apps t u (one, rest, up, all, is) kept =
      let changed = changes_keep (changes_in s c apps t) t up.between up.said up.change kept in
      let renewed = all_renew_keep c.name apps up.between one.apps one.processes up.rest up.renew changed in
      subst (λ (v : Upgraded). IsConsistent m v.processes) (sym is) (all_upgrade_keep s ms one.apps one.processes rest all renewed)

  function_keeps : (n f : List ℕ) (args : Trees) (t after : Table) (told : List Reply) →
      functions.Applies code n f args t after told → IsConsistent m t → IsConsistent m after
  function_keeps n f args t after told applies kept =
      let begins = function_begins code n f args applies.outcome applies.gives in
      subst (λ (u : Table). IsConsistent m u) (sym applies.done)
      (steps_keep_code.starts None code applies.outcome.acts m t kept stand begins)

  calls_keep : (c : AppCall) (name : Option (List ℕ)) (s after : Supervised) (told : List Reply) →
      applying.DoesAppCall code c name s after told → IsConsistent m s.processes → IsConsistent m after.processes
  calls_keep call.Start None s after told does kept = absurd does
  calls_keep call.Stop None s after told does kept = absurd does
  calls_keep call.Unload None s after told does kept = absurd does
  calls_keep call.Start (Some name) s after told does kept =
      runs_keep (module_of name s.apps) s.processes does.children after.processes told does.runs kept
  calls_keep call.Stop (Some name) s after told does kept =
      subst (λ (u : Table). IsConsistent m u) (sym does.processes)
      (steps_keep_code.ends (app_pids name s.apps) m s.processes kept)
  calls_keep call.Unload (Some name) s after told does kept =
      subst (λ (u : Table). IsConsistent m u) (sym does.processes) kept

  applied_keeps : (o : Option (AppCall × Tree)) (n f : List ℕ) (args : Trees) (s after : Supervised) (told : List Reply) →
      AppliedAs o code n f args s after told → IsConsistent m s.processes → IsConsistent m after.processes
  applied_keeps None n f args s after told does kept = function_keeps n f args s.processes after.processes told does.0 kept
  applied_keeps (Some c) n f args s after told does kept = calls_keep c.0 (atom_of c.1) s after told does kept

-- modules are purged, one after the other
all_without_keeps : (ns : List (List ℕ)) (s : RunningSystem) → IsConsistent s.modules s.processes →
    IsConsistent (all_without ns s).modules (all_without ns s).processes
all_without_keeps [] s kept = kept
all_without_keeps (n ∷ ns) s kept =
    all_without_keeps ns (without_lingering n s) (loading_keeps_code.purges n s.modules s.processes kept)

-- each instruction

abbrev Consistent : Parts → Type 0
Consistent p = IsConsistent p.modules p.processes

currents : (p : Parts) → Consistent p → All (StandsIn p.modules) (map instance (current_code p.modules))
currents p kept = steps_keep_code.currents p.modules kept.sound

does_keep : (r : Release) (i : Low) (p q : Parts) (told : List Reply) → RunsInstruction r i p q told → Consistent p → Consistent q
does_keep r (LoadObjectCode app vsn ms) p q told does kept = subst Consistent (sym does.1) kept
does_keep r PointOfNoReturn p q told does kept = subst Consistent (sym does.0) kept
does_keep r (Load m pre post) p q told (source, at, unrefused, is, tells) kept =
    subst Consistent (sym is)
    (loading_keeps_code.loads source.name source (Some post) (purged source.name p.modules) (spared source.name p.modules p.processes)
    (loading_keeps_code.purges source.name p.modules p.processes kept) unrefused)
does_keep r (Remove m pre post) p q told does kept =
    subst Consistent (sym does.0) (purges_keep_code.removes m (Some post) p.modules p.processes kept)
does_keep r (Purge ms) p q told does kept = subst Consistent (sym does.0) (all_without_keeps ms (running_of p) kept)
does_keep r (Suspend ms) p q told does kept =
    let pids = to_suspend (names ms) p.apps p.processes in
    subst Consistent (sym does.0) (steps_keep_code.suspends pids p.modules p.processes kept)
does_keep r (Resume ms) p q told does kept =
    let pids = to_resume ms p.suspended p.apps p.processes in
    subst Consistent (sym does.0) (steps_keep_code.resumes pids p.modules p.processes kept)
does_keep r (CodeChange direction changes) p q told (u, all, counted, is, tells) kept =
    let code = current_code p.modules in
    subst Consistent (sym is)
    (all_upgrade_keep p.modules code (currents p kept) (script_of direction p) changes p.apps p.processes u all kept)
does_keep r (Stop ms) p q told does kept =
    subst Consistent (sym does.0) (steps_keep_code.ends (to_stop ms p.apps) p.modules p.processes kept)
does_keep r (Start ms) p q told (apps, after, is, start) kept =
    let code = current_code p.modules in
    let cs = to_start p.stopped ms p.apps in
    let starts = children_keep p.modules code (currents p kept) cs p.processes start.pids after told start.start kept in
    subst Consistent (sym is) starts
does_keep r (Apply m f args) p q told (s, is, applied) kept =
    let code = current_code p.modules in
    let o = call_of m f args in
    subst Consistent (sym is) (applied_keeps p.modules code (currents p kept) o m f args (supervised_of p) s told applied kept)

pub instructions_keep_code : InstructionsKeepCode
instructions_keep_code = record { keeps = does_keep }
