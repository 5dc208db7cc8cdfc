-- An application starts in one way, or fails to for one reason.
use Rattle.std.proofs.Common.{◌≡◌, List, ◌++◌, codes, map, None, Some, sym, ap, subst, ◌∙◌}
use Rattle.std.proofs.lemmas.Option.{none-some, same_Some}
use Rattle.sys_protocol.specs.RunningChildren.{all_running}
use Rattle.sys_protocol.specs.Laws.{ApplicationsStartOneWay}
use Rattle.sys_protocol.specs.AppStarts.{AllRun, AppFails, AppStarts, FailsFor, InitGives, children_in, initialized}
use Rattle.sys_protocol.specs.declared.app_error.AppError.{AppError}
use Rattle.sys_protocol.specs.declared.app_error.AppError.TheVariants.{NotLoaded, AlreadyStarted, BadInit, StartFailed, NotStarted, Running}
use Rattle.app_table.specs.declared.child.Child.{Child}
use Rattle.child_specs.specs.declared.child.ChildSpec.{ChildSpec}
use Rattle.callback_lang.proofs.Evaluated.{evaluates-once}
use Rattle.sys_protocol.proofs.ChildrenOneWay.{children_start_one_way}
use Rattle.sys_protocol.specs.ChildFaults.{StartFails}
use Rattle.erl_semantics.specs.State.{plain}
use Rattle.erl_semantics.specs.declared.outcome.Outcome.{Outcome}
use Rattle.erl_semantics.specs.Views.{instance}
use Rattle.erl_semantics.specs.declared.instance.Instance.{Instance}
use Rattle.erl_term.specs.Term.{tree}
use Rattle.erl_term.specs.Tree.{none, more}
use Rattle.otp_files.specs.declared.app.StartModule.{StartModule}
use Rattle.process_effects.specs.Begins.{begun_told}
use Rattle.process_effects.specs.declared.told.Reply.{Reply}
use Rattle.process_store.specs.Table.{Table}

gives-once : (code : List Instance) (m : StartModule) (o p : Outcome) → InitGives code m o → InitGives code m p → o ≡ p
gives-once code m o p first second =
    evaluates-once (record { code = map instance code; pid = 0; mode = plain }) m.name (codes "init") (more (tree m.arguments) none) o p first second

-- what runs

all_run-once : (code : List Instance) (cs : List ChildSpec) (t : Table) (children others : List Child) (after last : Table) (told said : List Reply) → AllRun code cs t children after told → AllRun code cs t others last said → (children ≡ others) × (after ≡ last) × (told ≡ said)
all_run-once code cs t children others after last told said (pids, all, is) (pids_too, each, also) =
    let same = children_start_one_way.starts code cs t after last pids pids_too told said all each in
    (is ∙ ap (all_running cs) same.0 ∙ sym also, same.1, same.2)

run_in : (code : List Instance) (t : Table) (o p : Outcome) (cs ds : List ChildSpec) (children : List Child) (after : Table) (told : List Reply) → o ≡ p → cs ≡ ds → AllRun code cs (initialized code o t) children after told → AllRun code ds (initialized code p t) children after told
run_in code t o p cs ds children after told same specs runs =
    subst (λ (x : Outcome). AllRun code ds (initialized code x t) children after told) same (subst (λ (xs : List ChildSpec). AllRun code xs (initialized code o t) children after told) specs runs)

same_specs : (o p : Outcome) (cs ds : List ChildSpec) → o ≡ p → children_in o.end ≡ Some cs → children_in p.end ≡ Some ds → cs ≡ ds
same_specs o p cs ds same first second = same_Some cs ds (sym first ∙ ap (λ (x : Outcome). children_in x.end) same ∙ second)

starts-once : (code : List Instance) (m : StartModule) (t after last : Table) (children others : List Child) (told said : List Reply) → AppStarts code m t children after told → AppStarts code m t others last said → (children ≡ others) × (after ≡ last) × (told ≡ said)
starts-once code m t after last children others told said first second =
    let same = gives-once code m first.outcome second.outcome first.gives second.gives in
    let specs = same_specs first.outcome second.outcome first.specs second.specs same first.supervision second.supervision in
    let run = all_run-once code second.specs (initialized code second.outcome t) children others after last first.others second.others (run_in code t first.outcome second.outcome first.specs second.specs children after first.others same specs first.all_run) second.all_run in
    (run.0, run.1, first.tells ∙ (λ i. begun_told None code (same i).acts t ++ run.2 i) ∙ sym second.tells)

-- why nothing does

one_error : (code : List Instance) (t : Table) (o : Outcome) (e f : AppError) → FailsFor code o t e → FailsFor code o t f → e ≡ f
one_error code t o NotLoaded f first second = absurd first
one_error code t o AlreadyStarted f first second = absurd first
one_error code t o NotStarted f first second = absurd first
one_error code t o Running f first second = absurd first
one_error code t o (BadInit reason) NotLoaded first second = absurd second
one_error code t o (BadInit reason) AlreadyStarted first second = absurd second
one_error code t o (BadInit reason) NotStarted first second = absurd second
one_error code t o (BadInit reason) Running first second = absurd second
one_error code t o (BadInit reason) (BadInit other) first second = ap BadInit (first.1 ∙ sym second.1)
one_error code t o (BadInit reason) (StartFailed failed) first second = absurd (none-some second.0 (sym first.0 ∙ second.1))
one_error code t o (StartFailed failed) NotLoaded first second = absurd second
one_error code t o (StartFailed failed) AlreadyStarted first second = absurd second
one_error code t o (StartFailed failed) NotStarted first second = absurd second
one_error code t o (StartFailed failed) Running first second = absurd second
one_error code t o (StartFailed failed) (BadInit reason) first second = absurd (none-some first.0 (sym second.0 ∙ first.1))
one_error code t o (StartFailed failed) (StartFailed other) (cs, here, fails) (ds, there, fails_too) =
    let specs = same_Some cs ds (sym here ∙ there) in
    ap StartFailed (children_start_one_way.fails code ds (initialized code o t) failed other (subst (λ (xs : List ChildSpec). StartFails failed code xs (initialized code o t)) specs fails) fails_too)

fails-once : (code : List Instance) (m : StartModule) (t : Table) (e f : AppError) → AppFails code m t e → AppFails code m t f → e ≡ f
fails-once code m t e f (o, gives, fails) (p, gives_too, fails_too) =
    one_error code t p e f (subst (λ (x : Outcome). FailsFor code x t e) (gives-once code m o p gives gives_too) fails) fails_too

-- never both

runs_or_fails : (code : List Instance) (t : Table) (o : Outcome) (cs : List ChildSpec) (children : List Child) (after : Table) (told : List Reply) (e : AppError) → children_in o.end ≡ Some cs → AllRun code cs (initialized code o t) children after told → FailsFor code o t e → ⊥
runs_or_fails code t o cs children after told NotLoaded here runs fails = fails
runs_or_fails code t o cs children after told AlreadyStarted here runs fails = fails
runs_or_fails code t o cs children after told NotStarted here runs fails = fails
runs_or_fails code t o cs children after told Running here runs fails = fails
runs_or_fails code t o cs children after told (BadInit reason) here runs fails = none-some cs (sym fails.0 ∙ here)
runs_or_fails code t o cs children after told (StartFailed failed) here (pids, all, is) (ds, there, fails) =
    let specs = same_Some ds cs (sym there ∙ here) in
    children_start_one_way.never_both code cs (initialized code o t) after pids told failed all (subst (λ (xs : List ChildSpec). StartFails failed code xs (initialized code o t)) specs fails)

never_both : (code : List Instance) (m : StartModule) (t after : Table) (children : List Child) (told : List Reply) (e : AppError) → AppStarts code m t children after told → AppFails code m t e → ⊥
never_both code m t after children told e starts (o, gives, fails) =
    runs_or_fails code t starts.outcome starts.specs children after starts.others e starts.supervision starts.all_run (subst (λ (x : Outcome). FailsFor code x t e) (gives-once code m o starts.outcome gives starts.gives) fails)

pub applications_start_one_way : ApplicationsStartOneWay
applications_start_one_way = record { gives = gives-once; starts = starts-once; fails = fails-once; never_both = never_both }
