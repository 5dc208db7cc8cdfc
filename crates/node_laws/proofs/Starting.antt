-- Children and applications start, or fail to: something comes of each start function and of each `init`.
use Rattle.std.specs.Prelude.{◌≡◌, ◌⊎◌, ℕ, List, [], ◌∷◌, ◌++◌, codes, map, Option, None, Some, refl}
use Rattle.std.proofs.Common.{inl, inr}
use Rattle.app_table.specs.Applications.{Application, started}
use Rattle.app_table.specs.declared.child.Child.{Child}
use Rattle.child_specs.specs.declared.child.ChildSpec.{ChildSpec}
use Rattle.erl_semantics.specs.State.{plain, start_mode}
use Rattle.erl_semantics.specs.Views.{instance}
use Rattle.erl_semantics.specs.declared.instance.Instance.{Instance}
use Rattle.erl_semantics.specs.declared.outcome.Outcome.{Outcome}
use Rattle.erl_term.specs.Term.{tree}
use Rattle.erl_term.specs.Tree.{none, more}
use Rattle.erl_term.specs.declared.term.Term.{Term}
use Rattle.node_laws.proofs.Evaluated.{evaluated}
use Rattle.otp_files.specs.declared.app.StartModule.{StartModule}
use Rattle.process_effects.specs.Begins.{begun_told}
use Rattle.process_effects.specs.declared.told.Reply.{Reply}
use Rattle.process_store.specs.Table.{Table, next_pid}
use Rattle.release_boot.specs.Boot.{EachStarts, StartsOrIsPassedOver, reason_of}
use Rattle.sys_protocol.specs.AppStarts.{AppFails, AppStarts, InitGives, children_in, init_fault, initialized}
use Rattle.sys_protocol.specs.ChildStarts.{AllStart, Fails, FirstFails, Gives, StartsChild, after_start, start_told}
use Rattle.sys_protocol.specs.Refusals.{FailsToRun, RefusesStart, RunsStartModule, module_of, start_refusal}
use Rattle.sys_protocol.specs.RunningChildren.{all_running}
use Rattle.sys_protocol.specs.StartResults.{start_fault}
use Rattle.sys_protocol.specs.declared.app_error.AppError.{AppError}
use Rattle.sys_protocol.specs.declared.app_error.AppError.TheVariants as app_error

-- One child

abbrev pub ChildStarts : List Instance → ChildSpec → Table → Type 0
ChildStarts code c t = ((o : Outcome) × StartsChild code c t o) ⊎ ((reason : Term) × Fails code c t reason)

child_by : (code : List Instance) (c : ChildSpec) (t : Table) (o : Outcome) → Gives code c t o → (fault : Option Term) →
    start_fault (next_pid t) o t ≡ fault → ChildStarts code c t
child_by code c t o gives None is = inl (o, record { gives = gives; faultless = is })
child_by code c t o gives (Some reason) is = inr (reason, record { outcome = o; gives = gives; faulty = is })

pub child_starts : (code : List Instance) (c : ChildSpec) (t : Table) → ChildStarts code c t
child_starts code c t =
    let e = evaluated (record { code = map instance code; pid = next_pid t; mode = start_mode }) c.name c.function c.arguments
    in
    child_by code c t e.0 e.1 (start_fault (next_pid t) e.0 t) refl

-- Several, in order

abbrev pub ChildrenStart : List Instance → List ChildSpec → Table → Type 0
ChildrenStart code cs t =
    ((pids : List ℕ) × (after : Table) × (told : List Reply) × AllStart code cs t pids after told) ⊎
    ((c : ChildSpec) × (reason : Term) × FirstFails code cs t c reason)

children_behind : (code : List Instance) (c : ChildSpec) (cs : List ChildSpec) (t : Table) (o : Outcome) → StartsChild code c t o →
    ChildrenStart code cs (after_start code o t) → ChildrenStart code (c ∷ cs) t
children_behind code c cs t o starts (inl (pids, after, told, all)) =
    inl (next_pid t ∷ pids, after, start_told code o t ++ told, (refl, (o, told, starts, all, refl)))
children_behind code c cs t o starts (inr (d, reason, fails)) = inr (d, reason, inr (o, starts, fails))

children_by : (code : List Instance) (c : ChildSpec) (cs : List ChildSpec) (t : Table) → ChildStarts code c t →
    ((u : Table) → ChildrenStart code cs u) → ChildrenStart code (c ∷ cs) t
children_by code c cs t (inl (o, starts)) others = children_behind code c cs t o starts (others (after_start code o t))
children_by code c cs t (inr (reason, fails)) others = inr (c, reason, inl (refl, fails))

pub children_start : (code : List Instance) (cs : List ChildSpec) (t : Table) → ChildrenStart code cs t
children_start code [] t = inl ([], t, [], (refl, refl))
children_start code (c ∷ cs) t = children_by code c cs t (child_starts code c t) (λ u. children_start code cs u)

-- An application

abbrev AppIsRun : List Instance → StartModule → Table → Type 0
AppIsRun code m t =
    ((children : List Child) × (after : Table) × (told : List Reply) × AppStarts code m t children after told) ⊎
    ((e : AppError) × AppFails code m t e)

app_with : (code : List Instance) (m : StartModule) (t : Table) (o : Outcome) → InitGives code m o → (specs : List ChildSpec) →
    children_in o.end ≡ Some specs → ChildrenStart code specs (initialized code o t) → AppIsRun code m t
app_with code m t o gives specs is (inl (pids, after, told, all)) = inl (
  all_running specs pids,
  after,
  begun_told None code o.acts t ++ told,
  record {
    outcome = o;
    specs = specs;
    others = told;
    gives = gives;
    supervision = is;
    all_run = (pids, all, refl);
    tells = refl;
  },
)
app_with code m t o gives specs is (inr (c, reason, fails)) =
    inr (app_error.StartFailed (record { child = c.id; reason = reason }), (o, gives, (specs, is, (c, refl, fails))))

app_by : (code : List Instance) (m : StartModule) (t : Table) (o : Outcome) → InitGives code m o →
    (specs : Option (List ChildSpec)) →
    children_in o.end ≡ specs → AppIsRun code m t
app_by code m t o gives None is = inr (app_error.BadInit (init_fault o.end), (o, gives, (is, refl)))
app_by code m t o gives (Some specs) is =
    app_with code m t o gives specs is (children_start code specs (initialized code o t))

app_runs : (code : List Instance) (m : StartModule) (t : Table) → AppIsRun code m t
app_runs code m t =
    let e = evaluated (record { code = map instance code; pid = 0; mode = plain }) m.name (codes "init")
    (more (tree m.arguments) none) in
    app_by code m t e.0 e.1 (children_in e.0.end) refl

abbrev pub IsRun : List Instance → Option StartModule → Table → Type 0
IsRun code m t = ((children : List Child) × (after : Table) × (told : List Reply) × RunsStartModule code m t children after told) ⊎
    ((e : AppError) × FailsToRun e code m t)

pub runs : (code : List Instance) (m : Option StartModule) (t : Table) → IsRun code m t
runs code None t = inl ([], t, [], (refl, refl, refl))
runs code (Some m) t = app_runs code m t

-- An application of a name starts, or is refused.

abbrev pub AppStartsOrNot : List Instance → List ℕ → List Application → Table → Type 0
AppStartsOrNot code name apps t =
    ((start_refusal name apps ≡ None) × (children : List Child) × (after : Table) × (told : List Reply) ×
    RunsStartModule code (module_of name apps) t children after told) ⊎
    ((e : AppError) × RefusesStart e code name apps t)

started_or : (code : List Instance) (name : List ℕ) (apps : List Application) (t : Table) → start_refusal name apps ≡ None →
    IsRun code (module_of name apps) t → AppStartsOrNot code name apps t
started_or code name apps t unrefused (inl (children, after, told, is)) = inl (unrefused, children, after, told, is)
started_or code name apps t unrefused (inr (e, fails)) = inr (e, inr (unrefused, fails))

app_starts_by : (code : List Instance) (name : List ℕ) (apps : List Application) (t : Table) (refusal : Option AppError) →
    start_refusal name apps ≡ refusal → AppStartsOrNot code name apps t
app_starts_by code name apps t None is = started_or code name apps t is (runs code (module_of name apps) t)
app_starts_by code name apps t (Some e) is = inr (e, inl is)

pub app_starts : (code : List Instance) (name : List ℕ) (apps : List Application) (t : Table) → AppStartsOrNot code name apps t
app_starts code name apps t = app_starts_by code name apps t (start_refusal name apps) refl

-- A node starts its applications: each starts or is passed over.

abbrev OneStarts : List Instance → List ℕ → List Application → Table → Type 0
OneStarts code name apps t = (next_apps : List Application) × (next : Table) ×
    StartsOrIsPassedOver code name apps t next_apps next

one_starts : (code : List Instance) (name : List ℕ) (apps : List Application) (t : Table) → AppStartsOrNot code name apps t →
    OneStarts code name apps t
one_starts code name apps t (inl (unrefused, children, after, told, is)) = (
  started name children apps,
  after,
  inl (record { unrefused = unrefused; children = children; told = told; runs = is; starts = refl }),
)
one_starts code name apps t (inr (e, refuses)) = (apps, t, inr (reason_of name e, (e, refuses, refl), refl, refl))

pub each_starts : (code : List Instance) (names : List (List ℕ)) (apps : List Application) (t : Table) →
    (apps_after : List Application) × (after : Table) × EachStarts code names apps t apps_after after
each_starts code [] apps t = (apps, t, (refl, refl))
each_starts code (name ∷ names) apps t =
    let one = one_starts code name apps t (app_starts code name apps t) in
    let others = each_starts code names one.0 one.1 in
    (others.0, others.1, (one.0, one.1, one.2, others.2))
