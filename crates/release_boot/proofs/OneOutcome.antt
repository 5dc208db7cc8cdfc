-- An application starts in one way, and a restart has one outcome.
use Rattle.std.proofs.Common.{◌≡◌, ℕ, List, [], ◌∷◌, inl, inr, Option, None, Some, sym, ap, subst, ◌∙◌}
use Rattle.std.proofs.lemmas.Option.{none-some, same_Some}
use Rattle.sys_protocol.proofs.ApplicationsOneWay.{applications_start_one_way}
use Rattle.sys_protocol.specs.declared.app_error.AppError.{AppError}
use Rattle.app_table.specs.Applications.{Application, started}
use Rattle.app_table.specs.declared.child.Child.{Child}
use Rattle.code_loading.specs.Current.{current_code}
use Rattle.code_server.specs.Modules.{Table as Loaded}
use Rattle.erl_ir.specs.Module.{Forms}
use Rattle.erl_semantics.specs.declared.instance.Instance.{Instance}
use Rattle.erl_term.specs.declared.term.Term.{Term}
use Rattle.otp_files.specs.declared.app.StartModule.{StartModule}
use Rattle.process_effects.specs.declared.told.Reply.{Reply}
use Rattle.process_store.specs.Table.{Table}
use Rattle.release_boot.specs.Boot.{DoesNotStart, EachStarts, Restarts, BootsApp, StartsOrIsPassedOver, boot_apps, boot_modules, reason_of, to_start}
use Rattle.release_boot.specs.Laws.{RestartsHaveOneOutcome, StartsHaveOneOutcome}
use Rattle.release_table.specs.declared.table.Release.{Release}
use Rattle.sys_protocol.specs.Refusals.{FailsToRun, RefusesStart, RunsStartModule, module_of}

-- what runs of one, or why nothing does

runs-once : (code : List Instance) (m : Option StartModule) (t : Table) (children others : List Child) (after last : Table) (told said : List Reply) → RunsStartModule code m t children after told → RunsStartModule code m t others last said → (children ≡ others) × (after ≡ last)
runs-once code None t children others after last told said first second = (first.0 ∙ sym second.0, first.1 ∙ sym second.1)
runs-once code (Some m) t children others after last told said first second =
    let same = applications_start_one_way.starts code m t after last children others told said first second in
    (same.0, same.1)

failing-once : (code : List Instance) (m : Option StartModule) (t : Table) (e f : AppError) → FailsToRun e code m t → FailsToRun f code m t → e ≡ f
failing-once code None t e f first second = absurd first
failing-once code (Some m) t e f first second = applications_start_one_way.fails code m t e f first second

runs_or_fails : (code : List Instance) (m : Option StartModule) (t : Table) (children : List Child) (after : Table) (told : List Reply) (e : AppError) → RunsStartModule code m t children after told → FailsToRun e code m t → ⊥
runs_or_fails code None t children after told e runs fails = fails
runs_or_fails code (Some m) t children after told e runs fails = applications_start_one_way.never_both code m t after children told e runs fails

-- it starts, or doesn't

starts-once : (code : List Instance) (name : List ℕ) (apps one other : List Application) (t after last : Table) → BootsApp code name apps t one after → BootsApp code name apps t other last → (one ≡ other) × (after ≡ last)
starts-once code name apps one other t after last first second =
    let same = runs-once code (module_of name apps) t first.children second.children after last first.told second.told first.runs second.runs in
    (first.starts ∙ ap (λ (cs : List Child). started name cs apps) same.0 ∙ sym second.starts, same.1)

one_refusal : (e f : AppError) (code : List Instance) (name : List ℕ) (apps : List Application) (t : Table) → RefusesStart e code name apps t → RefusesStart f code name apps t → e ≡ f
one_refusal e f code name apps t (inl x) (inl y) = same_Some e f (sym x ∙ y)
one_refusal e f code name apps t (inl x) (inr y) = absurd (none-some e (sym y.0 ∙ x))
one_refusal e f code name apps t (inr x) (inl y) = absurd (none-some f (sym x.0 ∙ y))
one_refusal e f code name apps t (inr x) (inr y) = failing-once code (module_of name apps) t e f x.1 y.1

fails-once : (code : List Instance) (name : List ℕ) (apps : List Application) (t : Table) (reason why : Term) → DoesNotStart code name apps t reason → DoesNotStart code name apps t why → reason ≡ why
fails-once code name apps t reason why (e, refuses, is) (f, refuses_too, is_too) =
    is ∙ ap (λ (x : AppError). reason_of name x) (one_refusal e f code name apps t refuses refuses_too) ∙ sym is_too

refused_or_not : (e : AppError) (code : List Instance) (name : List ℕ) (apps one : List Application) (t after : Table) → BootsApp code name apps t one after → RefusesStart e code name apps t → ⊥
refused_or_not e code name apps one t after starts (inl refused) = none-some e (sym starts.unrefused ∙ refused)
refused_or_not e code name apps one t after starts (inr fails) =
    runs_or_fails code (module_of name apps) t starts.children after starts.told e starts.runs fails.1

never_both : (code : List Instance) (name : List ℕ) (apps one : List Application) (t after : Table) (reason : Term) → BootsApp code name apps t one after → DoesNotStart code name apps t reason → ⊥
never_both code name apps one t after reason starts not = refused_or_not not.0 code name apps one t after starts not.1

pub starts_have_one_outcome : StartsHaveOneOutcome
starts_have_one_outcome = record { starts = starts-once; fails = fails-once; never_both = never_both }

-- one after the other

passes-once : (code : List Instance) (name : List ℕ) (apps one other : List Application) (t after last : Table) → StartsOrIsPassedOver code name apps t one after → StartsOrIsPassedOver code name apps t other last → (one ≡ other) × (after ≡ last)
passes-once code name apps one other t after last (inl x) (inl y) = starts-once code name apps one other t after last x y
passes-once code name apps one other t after last (inl x) (inr y) = absurd (never_both code name apps one t after y.0 x y.1)
passes-once code name apps one other t after last (inr x) (inl y) = absurd (never_both code name apps other t last x.0 y x.1)
passes-once code name apps one other t after last (inr x) (inr y) = (x.2 ∙ sym y.2, x.3 ∙ sym y.3)

each-once : (code : List Instance) (names : List (List ℕ)) (apps one other : List Application) (t after last : Table) → EachStarts code names apps t one after → EachStarts code names apps t other last → (one ≡ other) × (after ≡ last)
each-once code [] apps one other t after last first second = (first.0 ∙ sym second.0, first.1 ∙ sym second.1)
each-once code (name ∷ names) apps one other t after last (a, u, here, rest) (b, v, there, end) =
    let same = passes-once code name apps a b t u v here there in
    each-once code names b one other v after last (subst (λ (x : List Application). EachStarts code names x v one after) same.0 (subst (λ (x : Table). EachStarts code names a x one after) same.1 rest)) end

restarts-once : (r : Release) (modules one other : Loaded Forms) (t after last : Table) (apps others : List Application) → Restarts r modules t one after apps → Restarts r modules t other last others → (one ≡ other) × (after ≡ last) × (apps ≡ others)
restarts-once r modules one other t after last apps others first second =
    let same = each-once (current_code (boot_modules r modules)) (to_start r.rel.apps) (boot_apps r) apps others t after last first.1 second.1 in
    (first.0 ∙ sym second.0, same.1, same.0)

pub restarts_have_one_outcome : RestartsHaveOneOutcome
restarts_have_one_outcome = record { each = each-once; whole = restarts-once }
