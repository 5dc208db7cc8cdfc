-- A node that boots, or restarts, keeps what every node keeps: what starts uses current code alone, and each child that runs is a
-- process of its own.
use Rattle.std.proofs.Common.{ℕ, All, List, [], ◌∷◌, codes, map, inl, inr, Option, None, Some, refl, sym, ap, subst}
use Rattle.app_table.specs.Applications.{Application}
use Rattle.app_table.specs.declared.child.Child.{Child}
use Rattle.child_specs.specs.declared.child.ChildSpec.{ChildSpec}
use Rattle.children_live.proofs.Starting.{loaded_live}
use Rattle.code_loading.proofs.Stepping.{steps_keep_code}
use Rattle.code_loading.specs.Consistent.{IsConsistent}
use Rattle.code_loading.specs.Current.{current_code}
use Rattle.code_loading.specs.Laws.{StartsIn}
use Rattle.code_server.specs.Modules as code_tables
use Rattle.code_server.specs.Modules.{IsModuleTable, Table as Loaded, load_refusal, loaded, old_of, index_of, purged}
use Rattle.erl_ir.specs.Module.{Forms}
use Rattle.erl_semantics.specs.State.{World, plain, start_mode}
use Rattle.erl_semantics.specs.Views.{instance}
use Rattle.erl_semantics.specs.declared.instance.Instance.{Instance}
use Rattle.erl_semantics.specs.declared.outcome.Outcome.{Outcome}
use Rattle.erl_term.specs.Term.{tree}
use Rattle.erl_term.specs.Tree.{none, more}
use Rattle.node_rules.proofs.Emptied.{IsVacant, emptied_is_vacant, nobody, restarted_is_sound, vacant_is_consistent}
use Rattle.node_rules.proofs.Starting.{all_as_each, each_starts_live}
use Rattle.node_rules.specs.Node.{IsSoundNode, NodeState}
use Rattle.node_rules.specs.Scripts.{IsRestarted}
use Rattle.otp_files.specs.declared.app.StartModule.{StartModule}
use Rattle.process.specs.Named.{StandsIn}
use Rattle.process_effects.specs.declared.told.Reply.{Reply}
use Rattle.process_store.specs.Table as process_tables
use Rattle.process_store.specs.Table.{Table, empty_table as no_processes, living, next_pid}
use Rattle.release_boot.specs.Boot.{Boots, EachStarts, Restarts, StartsOrIsPassedOver, boot_apps, boot_modules, to_start}
use Rattle.release_specs.specs.Specs.{specs_of}
use Rattle.release_statuses.specs.declared.listed.Listed.{Listed}
use Rattle.release_table.specs.declared.table.Release.{Release}
use Rattle.sys_protocol.specs.AppStarts.{InitGives, initialized}
use Rattle.sys_protocol.specs.ChildStarts as children
use Rattle.sys_protocol.specs.ChildStarts.{Gives, after_start, named_by}
use Rattle.sys_protocol.specs.Refusals.{RunsStartModule, module_of}

-- what a start function gives, and `init` of a callback module, is of the code in which it was evaluated

pub child_begins : (code : List Instance) (c : ChildSpec) (t : Table) (o : Outcome) → Gives code c t o →
    All (StartsIn code) o.acts
child_begins code c t o gives =
    let w : World = record { code = map instance code; pid = next_pid t; mode = start_mode } in
    steps_keep_code.evaluated w code c.name c.function c.arguments o refl gives

init_begins : (code : List Instance) (s : StartModule) (o : Outcome) → InitGives code s o → All (StartsIn code) o.acts
init_begins code s o gives =
    let w : World = record { code = map instance code; pid = 0; mode = plain } in
    steps_keep_code.evaluated w code s.name (codes "init") (more (tree s.arguments) none) o refl gives

-- What starts uses current code alone.
module _ (m : Loaded Forms) (code : List Instance) (stand : All (StandsIn m) (map instance code)) where
  children_keep : (cs : List ChildSpec) (t : Table) (pids : List ℕ) (after : Table) (told : List Reply) →
      children.AllStart code cs t pids after told → IsConsistent m t → IsConsistent m after
  children_keep [] t [] after told all kept = subst (λ (u : Table). IsConsistent m u) (sym all.0) kept
  children_keep [] t (pid ∷ pids) after told all kept = absurd all
  children_keep (c ∷ cs) t [] after told all kept = absurd all
  children_keep (c ∷ cs) t (pid ∷ pids) after told (is, (o, others, starts, rest, tells)) kept =
      let begins = child_begins code c t o starts.gives in
      let here = steps_keep_code.starts (named_by o) code o.acts m t kept stand begins in
      children_keep cs (after_start code o t) pids after others rest here

  runs_keep : (o : Option StartModule) (t : Table) (children : List Child) (after : Table) (told : List Reply) →
      RunsStartModule code o t children after told → IsConsistent m t → IsConsistent m after
  runs_keep None t children after told runs kept = subst (λ (u : Table). IsConsistent m u) (sym runs.1) kept
  runs_keep (Some sm) t children after told runs kept =
      let begins = init_begins code sm runs.outcome runs.gives in
      let here = steps_keep_code.starts None code runs.outcome.acts m t kept stand begins in
      children_keep runs.specs (initialized code runs.outcome t) runs.all_run.0 after runs.others runs.all_run.1 here

  one_keeps : (name : List ℕ) (apps : List Application) (t : Table) (apps_after : List Application) (after : Table) →
      StartsOrIsPassedOver code name apps t apps_after after → IsConsistent m t → IsConsistent m after
  one_keeps name apps t apps_after after (inl starts) kept =
      runs_keep (module_of name apps) t starts.children after starts.told starts.runs kept
  one_keeps name apps t apps_after after (inr passed) kept = subst (λ (u : Table). IsConsistent m u) (sym passed.3) kept

  each_keeps : (names : List (List ℕ)) (apps : List Application) (t : Table) (apps_after : List Application) (after : Table) →
      EachStarts code names apps t apps_after after → IsConsistent m t → IsConsistent m after
  each_keeps [] apps t apps_after after all kept = subst (λ (u : Table). IsConsistent m u) (sym all.1) kept
  each_keeps (name ∷ names) apps t apps_after after (apps_next, next, does, rest) kept =
      each_keeps names apps_next next apps_after after rest (one_keeps name apps t apps_next next does kept)

-- So a release that boots, or that a node restarts with, leaves what every node keeps, where no script runs.

abbrev started_node : Loaded Forms → Table → List Application → List Listed → NodeState
started_node m t apps releases = record {
  modules = m;
  processes = t;
  apps = apps;
  releases = releases;
  runner = None;
}

started_is_kept : (r : Release) (before m : Loaded Forms) (t after : Table) (apps : List Application) (releases : List Listed) →
    IsVacant t → Restarts r before t m after apps → IsModuleTable m → IsSoundNode (started_node m after apps releases)
started_is_kept r before m t after apps releases vacant restarts sound =
    let names = to_start r.rel.apps in
    let code = current_code m in
    let same = sym (ap current_code restarts.0) in
    let starts = subst (λ (is : List Instance). EachStarts is names (boot_apps r) t apps after) same restarts.1 in
    let stand = steps_keep_code.currents m sound in
    record {
      consistent = each_keeps m code stand names (boot_apps r) t apps after starts (vacant_is_consistent m t vacant sound);
      children = each_starts_live code names (boot_apps r) t apps after starts (loaded_live (specs_of r) t);
      script = tt;
    }

pub booted_is_kept : (r : Release) (m : Loaded Forms) (t : Table) (apps : List Application) (releases : List Listed) →
    Boots r m t apps → IsModuleTable m → IsSoundNode (started_node m t apps releases)
booted_is_kept r m t apps releases boots sound =
    let code = current_code (boot_modules r code_tables.empty_table) in
    let starts = all_as_each code (to_start r.rel.apps) (boot_apps r) no_processes apps t boots.1 in
    started_is_kept r code_tables.empty_table m no_processes t apps releases nobody (boots.0, starts) sound

pub restarted_is_kept : (r : Release) (releases : List Listed) (n after : NodeState) (told : List Reply) → IsModuleTable n.modules →
    IsRestarted r releases n after told → IsSoundNode after
restarted_is_kept r releases n after told sound it =
    let m = code_tables.emptied n.modules in
    let t = process_tables.emptied n.processes in
    let fresh = subst IsModuleTable (sym it.boots.0) (restarted_is_sound r n.modules sound it.unrefused) in
    let vacant = emptied_is_vacant n.processes in
    let kept = started_is_kept r m after.modules t after.processes after.apps releases vacant it.boots fresh in
    subst IsSoundNode (sym it.is) kept
