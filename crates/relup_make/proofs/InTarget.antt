-- What is loaded is of applications of the target.
use Rattle.std.proofs.Common.{◌≡◌, ℕ, zero, suc, Bool, true, false, List, [], ◌∷◌, ◌++◌, map, Option, Some, None, sym, ap, subst, refl, inl, inr}
use Rattle.std.specs.Prelude.{◌&&◌, ◌⊎◌, if◌then◌else◌}
use Rattle.std.specs.List.{AllByRecursion, cons_option, filter, filter_map, flat_map, slice_get}
use Rattle.std.specs.Option.{is_some, option_map, option_map_or}
use Rattle.std.specs.Str.{bytes_eq}
use Rattle.low_instructions.specs.declared.modules.Direction.{Direction}
use Rattle.low_instructions.specs.declared.modules.Direction.TheVariants.{Up, Down}
use Rattle.high_instructions.specs.declared.high.ApplicationWork.{ApplicationWork}
use Rattle.high_instructions.specs.declared.high.ApplicationWork.TheVariants as works
use Rattle.high_instructions.specs.declared.high.High.TheVariants.{Module, Application}
use Rattle.high_instructions.specs.declared.high.ModuleWork.{ModuleWork}
use Rattle.high_instructions.specs.declared.high.ModuleWork.TheVariants.{Update, Load, Add, Delete}
use Rattle.high_instructions.specs.Forms.{Name, Names, onto}
use Rattle.instructions.specs.declared.instruction.Instruction.{Instruction}
use Rattle.instructions.specs.declared.instruction.Instruction.TheVariants as levels
use Rattle.dependency_order.specs.declared.group.Group.{Group}
use Rattle.otp_files.specs.Distinct.{app_names}
use Rattle.otp_files.specs.declared.app.AppSpec.{AppSpec}
use Rattle.relup_make.specs.declared.job.Job.{Job}
use Rattle.relup_make.specs.declared.rel_apps.RelApps.{RelApps}
use Rattle.relup_make.specs.declared.scripting.Arrangement.{Arrangement}
use Rattle.relup_make.specs.Arranging.{AreArrangements, arranged, order_of_loads}
use Rattle.relup_make.specs.Dealt.{IsInTarget}
use Rattle.relup_make.specs.Releases.{has_app, modules_in, spec_named, start_type_in}
use Rattle.relup_make.specs.Scripts.{at, loaded_application, loaded_by, loaded_in, loaded_work}
use Rattle.relup_make.specs.Work.{AppupEntry, Way, changed_job, entry_of, is_changed, is_only_in, jobs, lone, reached, removed, source, target}
use Rattle.relup_make.proofs.Scripted.{groups_load}

-- All of lists that are made of others

all_both : {A : Type 0} (P : A → Type 0) (xs ys : List A) → AllByRecursion P xs → AllByRecursion P ys → AllByRecursion P (xs ++ ys)
all_both P [] ys one other = other
all_both P (x ∷ xs) ys one other = (one.0, all_both P xs ys one.1 other)

all_flat : {A B : Type 0} (P : B → Type 0) (f : A → List B) → ((x : A) → AllByRecursion P (f x)) → (xs : List A) → AllByRecursion P (flat_map f xs)
all_flat P f each [] = tt
all_flat P f each (x ∷ xs) = all_both P (f x) (flat_map f xs) (each x) (all_flat P f each xs)

all_mapped : {A B : Type 0} (P : B → Type 0) (f : A → B) → ((x : A) → P (f x)) → (xs : List A) → AllByRecursion P (map f xs)
all_mapped P f each [] = tt
all_mapped P f each (x ∷ xs) = (each x, all_mapped P f each xs)

-- An instruction of an application of the target

of_app : (name : Name) (release : RelApps) → AllByRecursion (λ (p : Name × Name). has_app p.0 release ≡ true) (map (λ m. (name, m)) (modules_in name release))
of_app name release = by (spec_named name release.apps) refl
  where
    by : (o : Option AppSpec) → spec_named name release.apps ≡ o → AllByRecursion (λ (p : Name × Name). has_app p.0 release ≡ true) (map (λ m. (name, m)) (option_map_or (λ spec. spec.modules) (spec_named name release.apps) []))
    by None e = subst (λ o. AllByRecursion (λ (p : Name × Name). has_app p.0 release ≡ true) (map (λ m. (name, m)) (option_map_or (λ spec. spec.modules) o []))) (sym e) tt
    by (Some spec) e = all_mapped (λ (p : Name × Name). has_app p.0 release ≡ true) (λ m. (name, m)) (λ m. ap is_some e) (option_map_or (λ s. s.modules) (spec_named name release.apps) [])

of_module : (way : Way) (app : Name) → has_app app (target way) ≡ true → (m : Name) (work : ModuleWork) → AllByRecursion (IsInTarget way) (loaded_work app m work)
of_module way app there m (Update type timeout change pre post) = (there, tt)
of_module way app there m (Load pre post) = (there, tt)
of_module way app there m Add = (there, tt)
of_module way app there m Delete = tt

of_application : (way : Way) (name : Name) (work : ApplicationWork) → AllByRecursion (IsInTarget way) (loaded_application way name work)
of_application way name (works.Add type) = of_app name (target way)
of_application way name works.Remove = tt
of_application way name works.Restart = of_app name (target way)

of_instruction : (way : Way) (app : Name) → has_app app (target way) ≡ true → (i : Instruction) → AllByRecursion (IsInTarget way) (loaded_by way app i)
of_instruction way app there (levels.High (Module m)) = of_module way app there m.name m.work
of_instruction way app there (levels.High (Application a)) = of_application way a.name a.work
of_instruction way app there (levels.Low low) = tt

-- A job is of an application of the target, or removes one and loads nothing

abbrev pub IsLoadable : Way → Job → Type 0
IsLoadable way job = (has_app job.app (target way) ≡ true) ⊎ (job.instructions ≡ levels.High (onto job.app works.Remove) ∷ [])

removal_loads : (way : Way) (app : Name) (order : List ℕ) → AllByRecursion (IsInTarget way) (flat_map (loaded_by way app) (at (levels.High (onto app works.Remove) ∷ []) order))
removal_loads way app [] = tt
removal_loads way app (zero ∷ ps) = removal_loads way app ps
removal_loads way app (suc p ∷ ps) = past (slice_get {X = Instruction} [] p) refl (removal_loads way app ps)
  where
    past : (o : Option Instruction) → slice_get [] p ≡ o → AllByRecursion (IsInTarget way) (flat_map (loaded_by way app) (at (levels.High (onto app works.Remove) ∷ []) ps)) → AllByRecursion (IsInTarget way) (flat_map (loaded_by way app) (cons_option (slice_get [] p) (at (levels.High (onto app works.Remove) ∷ []) ps)))
    past None e h = subst (λ o. AllByRecursion (IsInTarget way) (flat_map (loaded_by way app) (cons_option o (at (levels.High (onto app works.Remove) ∷ []) ps)))) (sym e) h
    past (Some i) e h = absurd (let never : ⊥ = cc in never)

order_loads : (way : Way) (job : Job) (order : List ℕ) → IsLoadable way job → AllByRecursion (IsInTarget way) (flat_map (loaded_by way job.app) (at job.instructions order))
order_loads way job order (inl there) = all_flat (IsInTarget way) (loaded_by way job.app) (of_instruction way job.app there) (at job.instructions order)
order_loads way job order (inr is) = subst (λ is. AllByRecursion (IsInTarget way) (flat_map (loaded_by way job.app) (at is order))) (sym is) (removal_loads way job.app order)

job_loads : (way : Way) (a : Arrangement) → IsLoadable way a.job.now → AllByRecursion (IsInTarget way) (loaded_in way (arranged a))
job_loads way a loadable =
    subst (AllByRecursion (IsInTarget way)) (groups_load (loaded_by way a.job.now.app) way.direction a.job.now.instructions a.groups)
    (all_flat (IsInTarget way) (λ (g : Group). flat_map (loaded_by way a.job.now.app) (at a.job.now.instructions (order_of_loads way.direction g))) (λ g. order_loads way a.job.now (order_of_loads way.direction g) loadable) a.groups)

pub all_load : (way : Way) (js : List Job) (arrangements : List Arrangement) → AllByRecursion (IsLoadable way) js → AreArrangements js arrangements → AllByRecursion (IsInTarget way) (flat_map (loaded_in way) (map arranged arrangements))
all_load way [] [] loadable are = tt
all_load way [] (a ∷ others) loadable are = absurd are
all_load way (j ∷ js) [] loadable are = absurd are
all_load way (j ∷ js) (a ∷ others) loadable are =
    all_both (IsInTarget way) (loaded_in way (arranged a)) (flat_map (loaded_in way) (map arranged others)) (job_loads way a (subst (IsLoadable way) (sym are.0) loadable.0)) (all_load way js others loadable.1 are.2)

-- The work of a direction

both_true : (a b : Bool) → (a && b) ≡ true → (a ≡ true) × (b ≡ true)
both_true true b e = (refl, e)
both_true false b e = absurd (let never : ⊥ = cc in never)

changed_there : (way : Way) (name : Name) → is_changed way name ≡ true → has_app name (target way) ≡ true
changed_there way name is =
    let old = both_true (has_app name way.old) _ is in
    let new = both_true (has_app name way.new) _ old.1 in
    by way.direction
  where
    by : (d : Direction) → has_app name (reached d way.old way.new) ≡ true
    by Up = (both_true (has_app name way.new) _ (both_true (has_app name way.old) _ is).1).0
    by Down = (both_true (has_app name way.old) _ is).0

changed_loadable : (way : Way) (names : Names) → AllByRecursion (IsLoadable way) (filter_map (changed_job way) (filter (is_changed way) names))
changed_loadable way [] = tt
changed_loadable way (n ∷ ns) = by (is_changed way n) refl (changed_loadable way ns)
  where
    entry : (o : Option AppupEntry) → is_changed way n ≡ true → AllByRecursion (IsLoadable way) (filter_map (changed_job way) (filter (is_changed way) ns)) → AllByRecursion (IsLoadable way) (cons_option (option_map (λ e. record { app = n; instructions = e.instructions }) o) (filter_map (changed_job way) (filter (is_changed way) ns)))
    entry None is h = h
    entry (Some e) is h = (inl (changed_there way n is), h)

    by : (b : Bool) → is_changed way n ≡ b → AllByRecursion (IsLoadable way) (filter_map (changed_job way) (filter (is_changed way) ns)) → AllByRecursion (IsLoadable way) (filter_map (changed_job way) (if is_changed way n then n ∷ filter (is_changed way) ns else filter (is_changed way) ns))
    by true e h = subst (λ b. AllByRecursion (IsLoadable way) (filter_map (changed_job way) (if b then n ∷ filter (is_changed way) ns else filter (is_changed way) ns))) (sym e) (entry (entry_of way n) e h)
    by false e h = subst (λ b. AllByRecursion (IsLoadable way) (filter_map (changed_job way) (if b then n ∷ filter (is_changed way) ns else filter (is_changed way) ns))) (sym e) h

added_loadable : (way : Way) (work : Name → ApplicationWork) (names : Names) → AllByRecursion (IsLoadable way) (map (λ name. lone name (work name)) (filter (is_only_in (target way) (source way)) names))
added_loadable way work [] = tt
added_loadable way work (n ∷ ns) = by (is_only_in (target way) (source way) n) refl (added_loadable way work ns)
  where
    by : (b : Bool) → is_only_in (target way) (source way) n ≡ b → AllByRecursion (IsLoadable way) (map (λ name. lone name (work name)) (filter (is_only_in (target way) (source way)) ns)) → AllByRecursion (IsLoadable way) (map (λ name. lone name (work name)) (if is_only_in (target way) (source way) n then n ∷ filter (is_only_in (target way) (source way)) ns else filter (is_only_in (target way) (source way)) ns))
    by true e h = subst (λ b. AllByRecursion (IsLoadable way) (map (λ name. lone name (work name)) (if b then n ∷ filter (is_only_in (target way) (source way)) ns else filter (is_only_in (target way) (source way)) ns))) (sym e) (inl (both_true (has_app n (target way)) _ e).0, h)
    by false e h = subst (λ b. AllByRecursion (IsLoadable way) (map (λ name. lone name (work name)) (if b then n ∷ filter (is_only_in (target way) (source way)) ns else filter (is_only_in (target way) (source way)) ns))) (sym e) h

pub jobs_loadable : (way : Way) → AllByRecursion (IsLoadable way) (jobs way)
jobs_loadable way =
    all_both (IsLoadable way) _ _
    (all_both (IsLoadable way) _ _ (changed_loadable way (app_names (target way).rel.apps)) (added_loadable way (λ name. works.Add (start_type_in name (target way))) (app_names (target way).rel.apps)))
    (all_mapped (IsLoadable way) (λ name. lone name works.Remove) (λ name. inr refl) (removed way))
