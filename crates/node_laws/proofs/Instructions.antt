-- An instruction is carried out, or fails, or a number can't be counted further.
use Rattle.std.specs.Prelude.{◌≡◌, ◌⊎◌, ◌^◌, ◌==◌, ℕ, Bool, true, false, if◌then◌else◌, List, [], Option, None, Some, refl}
use Rattle.std.proofs.Common.{inl, inr}
use Rattle.app_table.specs.Changes.{all_run, at_spots}
use Rattle.app_table.specs.Modules.{startable}
use Rattle.code_changes.specs.Changing.{AllUpgrade, RefusesCodeChange, Upgraded}
use Rattle.code_changes.specs.declared.changing.CodeChangeError.{CodeChangeError}
use Rattle.code_changes.specs.declared.changing.CodeChangeError.TheVariants as change_error
use Rattle.code_loading.specs.Current.{current_code}
use Rattle.code_loading.specs.Loading.{downs_of_purge}
use Rattle.code_loading.specs.Purging.{downs_of_purges}
use Rattle.code_replacement.specs.Replacing.{all_without, code_loaded, code_removed}
use Rattle.code_server.proofs.Reloads.{refusal-purged}
use Rattle.code_server.specs.Modules.{IsModuleTable, load_refusal, purged}
use Rattle.code_server.specs.declared.error.CodeError.TheVariants as code_error
use Rattle.erl_ir.specs.Module.{Forms}
use Rattle.erl_term.specs.Tree.{Trees}
use Rattle.erl_term.specs.declared.term.Term.{Term}
use Rattle.low_instructions.specs.declared.low.Low.{Low}
use Rattle.low_instructions.specs.declared.low.Low.TheVariants.{LoadObjectCode, PointOfNoReturn, Load, Remove, Purge, Suspend, Resume, CodeChange, Stop, Start, Apply}
use Rattle.low_instructions.specs.declared.modules.Direction.{Direction}
use Rattle.low_instructions.specs.declared.modules.ModuleChange.{ModuleChange}
use Rattle.node_laws.proofs.Applying.{applied_or_not}
use Rattle.node_laws.proofs.Changing.{AllUpgradeOr, all_upgrade, counted_or_not, refuses}
use Rattle.node_laws.proofs.Starting.{ChildrenStart, children_start}
use Rattle.process_effects.specs.Kills.{downs_of_each}
use Rattle.process_effects.specs.declared.told.Reply.{Reply}
use Rattle.release_table.specs.declared.table.Release.{Release}
use Rattle.release_words.specs.declared.purge.Purge.{Purge as Kind}
use Rattle.script_children.specs.Applying.{Applied, NotApplied}
use Rattle.script_children.specs.Calls.{start_failed}
use Rattle.script_children.specs.Children.{Supervised}
use Rattle.script_runner.specs.Failures.{code_change_failed, no_object_code}
use Rattle.script_runner.specs.Instructions.{RunsInstruction, Fails, IsAtEnd, all_resumed_in, all_stopped_in, all_suspended_in, running_of, script_of}
use Rattle.script_runner.specs.Instructions.{supervised_of, with_running, with_supervised}
use Rattle.script_runner.specs.Parts.{Parts}
use Rattle.script_state.specs.ObjectCode.{all_noted, code_at_hand, files_of, missing_object_code}
use Rattle.suspensions.specs.Suspending.{names, to_suspend}
use Rattle.sys_protocol.specs.Stopping.{shutdown, to_start, to_stop}
use Rattle.upgrade_calls.specs.Changing.{AreCounted}

-- What comes of an instruction, where nobody has to be waited for.
abbrev pub Comes : Release → Low → Parts → Type 0
Comes r i p = ((q : Parts) × (told : List Reply) × RunsInstruction r i p q told) ⊎ (((reason : Term) × Fails r i p reason) ⊎ IsAtEnd r i p)

-- Object code is read.
reads : (r : Release) (app vsn : List ℕ) (ms : List (List ℕ)) (p : Parts) (missing : Option (List ℕ)) →
    missing_object_code app vsn ms r ≡ missing → Comes r (LoadObjectCode app vsn ms) p
reads r app vsn ms p None is =
    inl (record p { versions = all_noted p.modules (files_of app vsn r) ms p.versions }, [], (is, refl, refl))
reads r app vsn ms p (Some m) is = inr (inl (no_object_code m, (m, is, refl)))

-- A load: once old code is purged, the counter alone stands against it.

loads_by : (r : Release) (m : List ℕ) (pre post : Kind) (p : Parts) (source : Forms) →
    code_at_hand m p.versions r ≡ Some source →
    (b : Bool) → load_refusal source.name (purged source.name p.modules) ≡ (if b then Some code_error.CounterEnd else None) →
    Comes r (Load m pre post) p
loads_by r m pre post p source is false unrefused = inl (
  with_running (code_loaded source (Some post) (running_of p)) p,
  downs_of_purge source.name p.modules p.processes,
  (source, is, unrefused, refl, refl),
)
loads_by r m pre post p source is true refused = inr (inr (source, is, refused))

loads : (r : Release) (m : List ℕ) (pre post : Kind) (p : Parts) → IsModuleTable p.modules → (source : Option Forms) →
    code_at_hand m p.versions r ≡ source → Comes r (Load m pre post) p
loads r m pre post p sound None is = inr (inl (no_object_code m, (is, refl)))
loads r m pre post p sound (Some source) is =
    loads_by r m pre post p source is (p.modules.next == 2 ^ 64)
    (refusal-purged source.name p.modules (p.modules.next == 2 ^ 64) sound refl)

-- A change of code

changes_counted : (r : Release) (direction : Direction) (changes : List ModuleChange) (p : Parts) (u : Upgraded) →
    AllUpgrade (current_code p.modules) (script_of direction p) changes p.apps p.processes u →
    AreCounted u.changes u.processes ⊎ (AreCounted u.changes u.processes → ⊥) → Comes r (CodeChange direction changes) p
changes_counted r direction changes p u all (inl counted) =
    inl (record p { processes = u.processes; apps = u.apps }, u.told, (u, all, counted, refl, refl))
changes_counted r direction changes p u all (inr never) =
    inr (inr (change_error.CounterEnd, (u, all, never), refl))

changes_stopped : (r : Release) (direction : Direction) (changes : List ModuleChange) (p : Parts) (e : CodeChangeError) →
    RefusesCodeChange e (current_code p.modules) (script_of direction p) changes p.apps p.processes →
    Comes r (CodeChange direction changes) p
changes_stopped r direction changes p (change_error.Unchanged failed) refused =
    inr (inl (code_change_failed failed.pid failed.reason, (change_error.Unchanged failed, refused, refl)))
changes_stopped r direction changes p (change_error.BadInit reason) refused =
    inr (inl (reason, (change_error.BadInit reason, refused, refl)))
changes_stopped r direction changes p change_error.CounterEnd refused =
    inr (inr (change_error.CounterEnd, refused, refl))

changes_by : (r : Release) (direction : Direction) (changes : List ModuleChange) (p : Parts) →
    AllUpgradeOr (current_code p.modules) (script_of direction p) changes p.apps p.processes →
    Comes r (CodeChange direction changes) p
changes_by r direction changes p (inl (u, all)) =
    changes_counted r direction changes p u all (counted_or_not u.changes u.processes)
changes_by r direction changes p (inr (e, stops)) =
    changes_stopped r direction changes p e
    (refuses (current_code p.modules) (script_of direction p) e changes p.apps p.processes stops)

-- Children start again.
starts_by : (r : Release) (ms : List (List ℕ)) (p : Parts) →
    ChildrenStart (current_code p.modules) (to_start p.stopped ms p.apps) p.processes → Comes r (Start ms) p
starts_by r ms p (inl (pids, after, told, all)) =
    let apps = all_run (at_spots (startable p.stopped ms p.apps) pids) p.apps in
    inl (
      record p { processes = after; apps = apps },
      told,
      (apps, after, refl, record { pids = pids; start = all; run = refl }),
    )
starts_by r ms p (inr (c, reason, fails)) =
    inr (inl (start_failed c.id reason, (record { child = c.id; reason = reason }, (c, refl, fails), refl)))

-- A function is applied.
applies_by : (r : Release) (m f : List ℕ) (args : Trees) (p : Parts) →
    ((after : Supervised) × (told : List Reply) × Applied (current_code p.modules) m f args (supervised_of p) after told) ⊎
    ((reason : Term) × NotApplied (current_code p.modules) m f args (supervised_of p) reason) →
    Comes r (Apply m f args) p
applies_by r m f args p (inl (after, told, is)) = inl (with_supervised after p, told, (after, refl, is))
applies_by r m f args p (inr (reason, fails)) = inr (inl (reason, fails))

pub comes : (r : Release) (i : Low) (p : Parts) → IsModuleTable p.modules → Comes r i p
comes r (LoadObjectCode app vsn ms) p sound = reads r app vsn ms p (missing_object_code app vsn ms r) refl
comes r PointOfNoReturn p sound = inl (p, [], (refl, refl))
comes r (Load m pre post) p sound = loads r m pre post p sound (code_at_hand m p.versions r) refl
comes r (Remove m pre post) p sound =
    inl (
      with_running (code_removed m (Some post) (running_of p)) p,
      downs_of_purge m p.modules p.processes,
      (refl, refl),
    )
comes r (Purge ms) p sound =
    inl (with_running (all_without ms (running_of p)) p, downs_of_purges ms p.modules p.processes, (refl, refl))
comes r (Suspend ms) p sound = inl (all_suspended_in (to_suspend (names ms) p.apps p.processes) p, [], (refl, refl))
comes r (Resume ms) p sound = inl (all_resumed_in ms p, [], (refl, refl))
comes r (CodeChange direction changes) p sound =
    changes_by r direction changes p (all_upgrade (current_code p.modules) (script_of direction p) changes p.apps p.processes)
comes r (Stop ms) p sound = inl (all_stopped_in ms p, downs_of_each shutdown (to_stop ms p.apps) p.processes, (refl, refl))
comes r (Start ms) p sound = starts_by r ms p (children_start (current_code p.modules) (to_start p.stopped ms p.apps)
    p.processes)
comes r (Apply m f args) p sound = applies_by r m f args p (applied_or_not (current_code p.modules) m f args (supervised_of p))
