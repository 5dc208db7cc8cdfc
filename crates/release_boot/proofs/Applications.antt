-- A restart keeps the specifications of applications, and what doesn't start stays as it was loaded.
use Rattle.std.proofs.Common.{◌≡◌, ℕ, true, All, List, [], ◌∷◌, map, inl, inr, Option, None, Some, refl, sym, ap, subst, ◌∙◌}
use Rattle.std.proofs.lemmas.Bool.{true≢false}
use Rattle.std.proofs.lemmas.List.Elements.{All-map}
use Rattle.app_table.specs.Applications.{Application, loaded as app_loaded, index_of, started, started_at, with_children}
use Rattle.app_table.specs.declared.child.Child.{Child}
use Rattle.code_loading.specs.Current.{current_code}
use Rattle.code_server.specs.Modules.{Table as Loaded}
use Rattle.erl_ir.specs.Module.{Forms}
use Rattle.erl_semantics.specs.declared.instance.Instance.{Instance}
use Rattle.otp_files.specs.declared.app.AppSpec.{AppSpec}
use Rattle.process_store.specs.Table.{Table}
use Rattle.release_specs.specs.Specs.{spec_of}
use Rattle.release_boot.specs.Boot.{EachStarts, Restarts, StartsOrIsPassedOver, boot_apps, boot_modules, to_start}
use Rattle.release_boot.specs.Laws.{IsLoadedUnlessStarted, RestartsKeepApplications}
use Rattle.release_table.specs.declared.table.Release.{Release}
use Rattle.values.proofs.Edits.{All-changed_at, map-changed_at}

abbrev specs_in : List Application → List AppSpec
specs_in apps = map (λ (a : Application). a.spec) apps

-- one that starts

started_specs : (o : Option ℕ) (cs : List Child) (apps : List Application) → specs_in (started_at o cs apps) ≡ specs_in apps
started_specs None cs apps = refl
started_specs (Some index) cs apps = map-changed_at (λ (a : Application). a.spec) (with_children true cs) (λ a. refl) apps index

started_unstarted : (o : Option ℕ) (cs : List Child) (apps : List Application) → All IsLoadedUnlessStarted apps → All IsLoadedUnlessStarted (started_at o cs apps)
started_unstarted None cs apps all = all
started_unstarted (Some index) cs apps all =
    All-changed_at IsLoadedUnlessStarted (with_children true cs) apps index all (λ a at not. absurd (true≢false not))

-- or is passed over

here_specs : (code : List Instance) (name : List ℕ) (apps one : List Application) (t after : Table) → StartsOrIsPassedOver code name apps t one after → specs_in one ≡ specs_in apps
here_specs code name apps one t after (inl it) = ap specs_in it.starts ∙ started_specs (index_of name apps) it.children apps
here_specs code name apps one t after (inr it) = ap specs_in it.2

here_unstarted : (code : List Instance) (name : List ℕ) (apps one : List Application) (t after : Table) → StartsOrIsPassedOver code name apps t one after → All IsLoadedUnlessStarted apps → All IsLoadedUnlessStarted one
here_unstarted code name apps one t after (inl it) all =
    subst (λ (x : List Application). All IsLoadedUnlessStarted x) (sym it.starts) (started_unstarted (index_of name apps) it.children apps all)
here_unstarted code name apps one t after (inr it) all = subst (λ (x : List Application). All IsLoadedUnlessStarted x) (sym it.2) all

-- one after the other

each_specs : (code : List Instance) (names : List (List ℕ)) (apps one : List Application) (t after : Table) → EachStarts code names apps t one after → specs_in one ≡ specs_in apps
each_specs code [] apps one t after each = ap specs_in each.0
each_specs code (name ∷ names) apps one t after (next_apps, next, here, rest) =
    each_specs code names next_apps one next after rest ∙ here_specs code name apps next_apps t next here

each_unstarted : (code : List Instance) (names : List (List ℕ)) (apps one : List Application) (t after : Table) → EachStarts code names apps t one after → All IsLoadedUnlessStarted apps → All IsLoadedUnlessStarted one
each_unstarted code [] apps one t after each all = subst (λ (x : List Application). All IsLoadedUnlessStarted x) (sym each.0) all
each_unstarted code (name ∷ names) apps one t after (next_apps, next, here, rest) all =
    each_unstarted code names next_apps one next after rest (here_unstarted code name apps next_apps t next here all)

-- those that are loaded

loaded_specs : (specs : List AppSpec) → specs_in (map app_loaded specs) ≡ specs
loaded_specs [] = refl
loaded_specs (s ∷ specs) = ap (λ (ss : List AppSpec). s ∷ ss) (loaded_specs specs)

loaded_unstarted : (specs : List AppSpec) → All IsLoadedUnlessStarted (map app_loaded specs)
loaded_unstarted specs = All-map IsLoadedUnlessStarted app_loaded specs (λ k d within not. refl)

-- a restart

specs_kept : (r : Release) (modules after : Loaded Forms) (t last : Table) (apps : List Application) → Restarts r modules t after last apps → specs_in apps ≡ map (spec_of r.apps) r.rel.apps
specs_kept r modules after t last apps restarts =
    each_specs (current_code (boot_modules r modules)) (to_start r.rel.apps) (boot_apps r) apps t last restarts.1 ∙ loaded_specs (map (spec_of r.apps) r.rel.apps)

unstarted_kept : (r : Release) (modules after : Loaded Forms) (t last : Table) (apps : List Application) → Restarts r modules t after last apps → All IsLoadedUnlessStarted apps
unstarted_kept r modules after t last apps restarts =
    each_unstarted (current_code (boot_modules r modules)) (to_start r.rel.apps) (boot_apps r) apps t last restarts.1 (loaded_unstarted (map (spec_of r.apps) r.rel.apps))

pub restarts_keep_applications : RestartsKeepApplications
restarts_keep_applications = record { specs = specs_kept; unstarted = unstarted_kept }
