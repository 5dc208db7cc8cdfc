-- A function that an upgrade applies does one thing, or fails for one reason, and never both.
use Rattle.std.proofs.Common.{◌≡◌, ℕ, inl, inr, List, Option, None, Some, sym, ap, ◌∙◌}
use Rattle.std.proofs.lemmas.Option.{none-some, same_Some}
use Rattle.app_table.specs.Applications.{Application, started}
use Rattle.app_table.specs.declared.child.Child.{Child}
use Rattle.erl_semantics.specs.declared.instance.Instance.{Instance}
use Rattle.erl_term.specs.Accessors.{atom_of}
use Rattle.erl_term.specs.Tree.{Tree, Trees}
use Rattle.erl_term.specs.declared.term.Term.{Term}
use Rattle.otp_files.specs.declared.app.StartModule.{StartModule}
use Rattle.process_effects.specs.declared.told.Reply.{Reply}
use Rattle.process_store.specs.Table.{Table}
use Rattle.script_children.specs.Applying.{AppliedAs, DoesAppCall, NotAppliedAs, Refuses}
use Rattle.script_children.specs.Calls.{reason_of}
use Rattle.script_children.specs.Children.{Supervised}
use Rattle.script_children.specs.declared.calls.AppCall.{AppCall}
use Rattle.script_children.specs.declared.calls.AppCall.TheVariants.{Start, Stop, Unload}
use Rattle.sys_protocol.proofs.ApplicationsOneWay.{applications_start_one_way}
use Rattle.sys_protocol.specs.Refusals.{FailsToRun, RefusesStart, RunsStartModule, module_of, start_refusal}
use Rattle.sys_protocol.specs.declared.app_error.AppError.{AppError}
use Rattle.upgrade_calls.proofs.AppliesOneWay.{applies_one_way}

same_supervised : (one other : Supervised) → one.apps ≡ other.apps → one.processes ≡ other.processes → one ≡ other
same_supervised one other apps processes = λ i. record { apps = apps i; processes = processes i }

-- an application starts, of which there may be nothing to run

runs-once : (code : List Instance) (o : Option StartModule) (t after last : Table) (children others : List Child) →
    (told said : List Reply) → RunsStartModule code o t children after told → RunsStartModule code o t others last said →
    (children ≡ others) × (after ≡ last) × (told ≡ said)
runs-once code None t after last children others told said first second =
    (first.0 ∙ sym second.0, first.1 ∙ sym second.1, first.2 ∙ sym second.2)
runs-once code (Some m) t after last children others told said first second =
    applications_start_one_way.starts code m t after last children others told said first second

runs_fail-once : (code : List Instance) (o : Option StartModule) (t : Table) (e f : AppError) → FailsToRun e code o t →
    FailsToRun f code o t → e ≡ f
runs_fail-once code None t e f first second = absurd first
runs_fail-once code (Some m) t e f first second = applications_start_one_way.fails code m t e f first second

runs_or_fails : (code : List Instance) (o : Option StartModule) (t after : Table) (children : List Child) (told : List Reply) →
    (e : AppError) → RunsStartModule code o t children after told → FailsToRun e code o t → ⊥
runs_or_fails code None t after children told e runs fails = fails
runs_or_fails code (Some m) t after children told e runs fails =
    applications_start_one_way.never_both code m t after children told e runs fails

starts_refused-once : (code : List Instance) (name : List ℕ) (apps : List Application) (t : Table) (e f : AppError) →
    RefusesStart e code name apps t → RefusesStart f code name apps t → e ≡ f
starts_refused-once code name apps t e f (inl one) (inl other) = same_Some e f (sym one ∙ other)
starts_refused-once code name apps t e f (inl one) (inr other) = absurd (none-some e (sym other.0 ∙ one))
starts_refused-once code name apps t e f (inr one) (inl other) = absurd (none-some f (sym one.0 ∙ other))
starts_refused-once code name apps t e f (inr one) (inr other) = runs_fail-once code (module_of name apps) t e f one.1 other.1

starts_or_refused : (code : List Instance) (name : List ℕ) (apps : List Application) (t after : Table) (children : List Child) →
    (told : List Reply) (e : AppError) → start_refusal name apps ≡ None → RunsStartModule code (module_of name apps) t children after told →
    RefusesStart e code name apps t → ⊥
starts_or_refused code name apps t after children told e unrefused runs (inl refused) = none-some e (sym unrefused ∙ refused)
starts_or_refused code name apps t after children told e unrefused runs (inr fails) =
    runs_or_fails code (module_of name apps) t after children told e runs fails.1

-- a function of `application`

calls-once : (code : List Instance) (c : AppCall) (name : Option (List ℕ)) (s after last : Supervised) (told said : List Reply) →
    DoesAppCall code c name s after told → DoesAppCall code c name s last said → (after ≡ last) × (told ≡ said)
calls-once code Start None s after last told said first second = absurd first
calls-once code Stop None s after last told said first second = absurd first
calls-once code Unload None s after last told said first second = absurd first
calls-once code Start (Some name) s after last told said first second =
    let m = module_of name s.apps in
    let both = runs-once code m s.processes after.processes last.processes first.children second.children told said in
    let same = both first.runs second.runs in
    let apps = first.apps ∙ ap (λ (cs : List Child). started name cs s.apps) same.0 ∙ sym second.apps in
    (same_supervised after last apps same.1, same.2)
calls-once code Stop (Some name) s after last told said first second =
    let same = same_supervised after last (first.apps ∙ sym second.apps) (first.processes ∙ sym second.processes) in
    (same, first.tells ∙ sym second.tells)
calls-once code Unload (Some name) s after last told said first second =
    let same = same_supervised after last (first.apps ∙ sym second.apps) (first.processes ∙ sym second.processes) in
    (same, first.tells ∙ sym second.tells)

calls_refused-once : (code : List Instance) (c : AppCall) (name : Option (List ℕ)) (s : Supervised) (e f : AppError) →
    Refuses e code c name s → Refuses f code c name s → e ≡ f
calls_refused-once code Start None s e f first second = first ∙ sym second
calls_refused-once code Stop None s e f first second = first ∙ sym second
calls_refused-once code Unload None s e f first second = first ∙ sym second
calls_refused-once code Start (Some name) s e f first second = starts_refused-once code name s.apps s.processes e f first second
calls_refused-once code Stop (Some name) s e f first second = same_Some e f (sym first ∙ second)
calls_refused-once code Unload (Some name) s e f first second = same_Some e f (sym first ∙ second)

calls_or_refused : (code : List Instance) (c : AppCall) (name : Option (List ℕ)) (s after : Supervised) (told : List Reply) →
    (e : AppError) → DoesAppCall code c name s after told → Refuses e code c name s → ⊥
calls_or_refused code Start None s after told e does refuses = does
calls_or_refused code Stop None s after told e does refuses = does
calls_or_refused code Unload None s after told e does refuses = does
calls_or_refused code Start (Some name) s after told e does refuses =
    starts_or_refused code name s.apps s.processes after.processes does.children told e does.unrefused does.runs refuses
calls_or_refused code Stop (Some name) s after told e does refuses = none-some e (sym does.unrefused ∙ refuses)
calls_or_refused code Unload (Some name) s after told e does refuses = none-some e (sym does.unrefused ∙ refuses)

-- any function

pub applied-once : (o : Option (AppCall × Tree)) (code : List Instance) (m f : List ℕ) (args : Trees) →
    (s after last : Supervised) (told said : List Reply) → AppliedAs o code m f args s after told →
    AppliedAs o code m f args s last said → (after ≡ last) × (told ≡ said)
applied-once None code m f args s after last told said first second =
    let same = applies_one_way.applies code m f args s.processes after.processes last.processes told said first.0 second.0 in
    (same_supervised after last (first.1 ∙ sym second.1) same.0, same.1)
applied-once (Some c) code m f args s after last told said first second =
    calls-once code c.0 (atom_of c.1) s after last told said first second

pub not_applied-once : (o : Option (AppCall × Tree)) (code : List Instance) (m f : List ℕ) (args : Trees) (s : Supervised) →
    (x y : Term) → NotAppliedAs o code m f args s x → NotAppliedAs o code m f args s y → x ≡ y
not_applied-once None code m f args s x y first second = applies_one_way.fails code m f args x y first second
not_applied-once (Some c) code m f args s x y (d, refuses, is) (e, refuses_too, also) =
    is ∙ ap (reason_of c.1) (calls_refused-once code c.0 (atom_of c.1) s d e refuses refuses_too) ∙ sym also

pub applied_or_not : (o : Option (AppCall × Tree)) (code : List Instance) (m f : List ℕ) (args : Trees) →
    (s after : Supervised) (told : List Reply) (x : Term) → AppliedAs o code m f args s after told →
    NotAppliedAs o code m f args s x → ⊥
applied_or_not None code m f args s after told x does fails =
    applies_one_way.never_both code m f args s.processes after.processes told x does.0 fails
applied_or_not (Some c) code m f args s after told x does (e, refuses, is) =
    calls_or_refused code c.0 (atom_of c.1) s after told e does refuses
