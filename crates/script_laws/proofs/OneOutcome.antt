-- An instruction has one outcome at most.
use Rattle.std.proofs.Common.{◌≡◌, ℕ, Bool, List, None, Some, refl, sym, ap, ◌∙◌}
use Rattle.std.proofs.lemmas.Option.{none-some, same_Some}
use Rattle.app_table.specs.Applications.{Application}
use Rattle.app_table.specs.Changes.{all_run, at_spots}
use Rattle.app_table.specs.Modules.{startable}
use Rattle.app_table.specs.declared.name.ChildName.{ChildName}
use Rattle.code_changes.proofs.OneWay.{changes_one_way}
use Rattle.code_changes.specs.Changing.{Script, Upgraded}
use Rattle.code_loading.specs.Current.{current_code}
use Rattle.code_loading.specs.Loading.{downs_of_purge}
use Rattle.code_replacement.specs.Replacing.{code_loaded}
use Rattle.code_server.specs.Modules.{load_refusal, purged}
use Rattle.code_server.specs.declared.error.CodeError.TheVariants as code_error
use Rattle.erl_ir.specs.Module.{Forms}
use Rattle.erl_semantics.specs.declared.instance.Instance.{Instance}
use Rattle.erl_term.specs.declared.term.Term.{Term}
use Rattle.low_instructions.specs.declared.low.Low.{Low}
use Rattle.low_instructions.specs.declared.low.Low.TheVariants.{LoadObjectCode, PointOfNoReturn, Load, Remove, Purge, Suspend, Resume, CodeChange, Stop, Start, Apply}
use Rattle.low_instructions.specs.declared.modules.ModuleChange.{ModuleChange}
use Rattle.process_effects.specs.declared.told.Reply.{Reply}
use Rattle.process_store.specs.Table.{Table}
use Rattle.release_table.specs.declared.table.Release.{Release}
use Rattle.script_children.specs.Calls.{call_of, start_failed}
use Rattle.script_children.specs.Children.{Supervised}
use Rattle.script_laws.proofs.Applying.{applied-once, applied_or_not, not_applied-once}
use Rattle.script_laws.specs.Laws.{InstructionsHaveOneOutcome}
use Rattle.script_runner.specs.Failures.{no_object_code}
use Rattle.script_runner.specs.Instructions.{RunsInstruction, Fails, Halts, IsAtEnd, busy_of, running_of, script_of, supervised_of, with_running, with_supervised}
use Rattle.script_runner.specs.Parts.{Parts}
use Rattle.script_runner.specs.Suspending.{HaltsChange, halt_of}
use Rattle.script_runner.specs.declared.halt.Halt.{Halt}
use Rattle.script_runner.specs.declared.halt.Halt.TheVariants.{Busy, Failed, CounterEnd}
use Rattle.sys_protocol.proofs.ChildrenOneWay.{children_start_one_way}
use Rattle.sys_protocol.specs.Stopping.{StartAgain, to_start}
use Rattle.sys_protocol.specs.declared.start_failed.StartFailed.{StartFailed}

-- It does one thing.

again-once : (code : List Instance) (names : List ChildName) (modules : List (List ℕ)) (apps : List Application) (t : Table) →
    (one other : List Application) (after last : Table) (told said : List Reply) →
    StartAgain code names modules apps t one after told → StartAgain code names modules apps t other last said →
    (one ≡ other) × (after ≡ last) × (told ≡ said)
again-once code names modules apps t one other after last told said first second =
    let cs = to_start names modules apps in
    let both = children_start_one_way.starts code cs t after last first.pids second.pids told said in
    let same = both first.start second.start in
    let run = λ (pids : List ℕ). all_run (at_spots (startable names modules apps) pids) apps in
    (first.run ∙ ap run same.0 ∙ sym second.run, same.1, same.2)

abbrev with_children : List Application → Table → Parts → Parts
with_children apps t p = record p { processes = t; apps = apps }

does-once : (r : Release) (i : Low) (p q s : Parts) (told said : List Reply) → RunsInstruction r i p q told → RunsInstruction r i p s said →
    (q ≡ s) × (told ≡ said)
does-once r (LoadObjectCode app vsn ms) p q s told said first second = (first.1 ∙ sym second.1, first.2 ∙ sym second.2)
does-once r PointOfNoReturn p q s told said first second = (first.0 ∙ sym second.0, first.1 ∙ sym second.1)
does-once r (Load m pre post) p q s told said (one, at, unrefused, is, tells) (other, there, also_unrefused, also, says) =
    let same : one ≡ other = same_Some one other (sym at ∙ there) in (
      is ∙ ap (λ (x : Forms). with_running (code_loaded x (Some post) (running_of p)) p) same ∙ sym also,
      tells ∙ ap (λ (x : Forms). downs_of_purge x.name p.modules p.processes) same ∙ sym says,
    )
does-once r (Remove m pre post) p q s told said first second = (first.0 ∙ sym second.0, first.1 ∙ sym second.1)
does-once r (Purge ms) p q s told said first second = (first.0 ∙ sym second.0, first.1 ∙ sym second.1)
does-once r (Suspend ms) p q s told said first second = (first.0 ∙ sym second.0, first.1 ∙ sym second.1)
does-once r (Resume ms) p q s told said first second = (first.0 ∙ sym second.0, first.1 ∙ sym second.1)
does-once r (CodeChange direction changes) p q s told said (u, all, counted, is, tells) (v, all_too, counted_too, also, says) =
    let code = current_code p.modules in
    let same = changes_one_way.upgrades code (script_of direction p) changes p.apps p.processes u v all all_too in
    (is ∙ ap (λ (w : Upgraded). with_children w.apps w.processes p) same ∙ sym also, tells ∙ ap (λ (w : Upgraded). w.told) same ∙ sym says)
does-once r (Stop ms) p q s told said first second = (first.0 ∙ sym second.0, first.1 ∙ sym second.1)
does-once r (Start ms) p q s told said (one, after, is, start) (other, last, also, start_too) =
    let code = current_code p.modules in
    let same = again-once code p.stopped ms p.apps p.processes one other after last told said start start_too in
    (is ∙ (λ j. with_children (same.0 j) (same.1 j) p) ∙ sym also, same.2)
does-once r (Apply m f args) p q s told said (one, is, applied) (other, also, applied_too) =
    let code = current_code p.modules in
    let same = applied-once (call_of m f args) code m f args (supervised_of p) one other told said applied applied_too in
    (is ∙ ap (λ (x : Supervised). with_supervised x p) same.0 ∙ sym also, same.1)

-- It fails for one reason.

changes_halt-once : (code : List Instance) (s : Script) (ms : List ModuleChange) (apps : List Application) (t : Table) (h k : Halt) →
    HaltsChange h code s ms apps t → HaltsChange k code s ms apps t → h ≡ k
changes_halt-once code s ms apps t h k (e, refuses, is) (f, refuses_too, also) =
    is ∙ ap halt_of (changes_one_way.refuses code s ms apps t e f refuses refuses_too) ∙ sym also

failed-once : (x y : Term) → Failed x ≡ Failed y → x ≡ y
failed-once x y same = cc

failed_or_ends : (x : Term) → Failed x ≡ CounterEnd → ⊥
failed_or_ends x same = cc

fails-once : (r : Release) (i : Low) (p : Parts) (x y : Term) → Fails r i p x → Fails r i p y → x ≡ y
fails-once r (LoadObjectCode app vsn ms) p x y (m, missing, is) (n, missing_too, also) =
    is ∙ ap no_object_code (same_Some m n (sym missing ∙ missing_too)) ∙ sym also
fails-once r PointOfNoReturn p x y first second = absurd first
fails-once r (Load m pre post) p x y first second = first.1 ∙ sym second.1
fails-once r (Remove m pre post) p x y first second = absurd first
fails-once r (Purge ms) p x y first second = absurd first
fails-once r (Suspend ms) p x y first second = absurd first
fails-once r (Resume ms) p x y first second = absurd first
fails-once r (CodeChange direction changes) p x y first second =
    let code = current_code p.modules in
    failed-once x y (changes_halt-once code (script_of direction p) changes p.apps p.processes (Failed x) (Failed y) first second)
fails-once r (Stop ms) p x y first second = absurd first
fails-once r (Start ms) p x y (one, fails, is) (other, fails_too, also) =
    let code = current_code p.modules in
    let same = children_start_one_way.fails code (to_start p.stopped ms p.apps) p.processes one other fails fails_too in
    is ∙ ap (λ (failed : StartFailed). start_failed failed.child failed.reason) same ∙ sym also
fails-once r (Apply m f args) p x y first second =
    not_applied-once (call_of m f args) (current_code p.modules) m f args (supervised_of p) x y first second

-- It doesn't fail where a number is at its end.

fails_or_ends : (r : Release) (i : Low) (p : Parts) (x : Term) → Fails r i p x → IsAtEnd r i p → ⊥
fails_or_ends r (LoadObjectCode app vsn ms) p x fails ends = ends
fails_or_ends r PointOfNoReturn p x fails ends = ends
fails_or_ends r (Load m pre post) p x fails (source, at, refused) = none-some source (sym fails.0 ∙ at)
fails_or_ends r (Remove m pre post) p x fails ends = ends
fails_or_ends r (Purge ms) p x fails ends = ends
fails_or_ends r (Suspend ms) p x fails ends = ends
fails_or_ends r (Resume ms) p x fails ends = ends
fails_or_ends r (CodeChange direction changes) p x fails ends =
    let code = current_code p.modules in
    failed_or_ends x (changes_halt-once code (script_of direction p) changes p.apps p.processes (Failed x) CounterEnd fails ends)
fails_or_ends r (Stop ms) p x fails ends = ends
fails_or_ends r (Start ms) p x fails ends = ends
fails_or_ends r (Apply m f args) p x fails ends = ends

-- It is halted for one reason.
halts-once : (r : Release) (give_up : Bool) (i : Low) (p : Parts) (h k : Halt) → Halts h r give_up i p → Halts k r give_up i p →
    h ≡ k
halts-once r give_up i p (Busy pid) (Busy other) first second = ap Busy (same_Some pid other (sym first ∙ second))
halts-once r give_up i p (Busy pid) (Failed y) first second = absurd (none-some pid (sym second.0 ∙ first))
halts-once r give_up i p (Busy pid) CounterEnd first second = absurd (none-some pid (sym second.0 ∙ first))
halts-once r give_up i p (Failed x) (Busy other) first second = absurd (none-some other (sym first.0 ∙ second))
halts-once r give_up i p (Failed x) (Failed y) first second = ap Failed (fails-once r i p x y first.1 second.1)
halts-once r give_up i p (Failed x) CounterEnd first second = absurd (fails_or_ends r i p x first.1 second.1)
halts-once r give_up i p CounterEnd (Busy other) first second = absurd (none-some other (sym first.0 ∙ second))
halts-once r give_up i p CounterEnd (Failed y) first second = absurd (fails_or_ends r i p y second.1 first.1)
halts-once r give_up i p CounterEnd CounterEnd first second = refl

-- It doesn't do what it fails to do, and what it does has its numbers.

does_or_fails : (r : Release) (i : Low) (p q : Parts) (told : List Reply) (x : Term) → RunsInstruction r i p q told → Fails r i p x → ⊥
does_or_fails r (LoadObjectCode app vsn ms) p q told x does (m, missing, is) = none-some m (sym does.0 ∙ missing)
does_or_fails r PointOfNoReturn p q told x does fails = fails
does_or_fails r (Load m pre post) p q told x (source, at, unrefused, is, tells) fails = none-some source (sym fails.0 ∙ at)
does_or_fails r (Remove m pre post) p q told x does fails = fails
does_or_fails r (Purge ms) p q told x does fails = fails
does_or_fails r (Suspend ms) p q told x does fails = fails
does_or_fails r (Resume ms) p q told x does fails = fails
does_or_fails r (CodeChange direction changes) p q told x (u, all, counted, is, tells) (e, refuses, because) =
    let code = current_code p.modules in
    changes_one_way.never_both code (script_of direction p) changes p.apps p.processes u e all counted refuses
does_or_fails r (Stop ms) p q told x does fails = fails
does_or_fails r (Start ms) p q told x (apps, after, is, start) (failed, fails, because) =
    let code = current_code p.modules in
    let cs = to_start p.stopped ms p.apps in
    children_start_one_way.never_both code cs p.processes after start.pids told failed start.start fails
does_or_fails r (Apply m f args) p q told x (s, is, applied) fails =
    applied_or_not (call_of m f args) (current_code p.modules) m f args (supervised_of p) s told x applied fails

does_or_ends : (r : Release) (i : Low) (p q : Parts) (told : List Reply) → RunsInstruction r i p q told → IsAtEnd r i p → ⊥
does_or_ends r (LoadObjectCode app vsn ms) p q told does ends = ends
does_or_ends r PointOfNoReturn p q told does ends = ends
does_or_ends r (Load m pre post) p q told (one, at, unrefused, is, tells) (other, there, refused) =
    let same : one ≡ other = same_Some one other (sym at ∙ there) in
    let again = ap (λ (x : Forms). load_refusal x.name (purged x.name p.modules)) same in
    none-some code_error.CounterEnd (sym unrefused ∙ again ∙ refused)
does_or_ends r (Remove m pre post) p q told does ends = ends
does_or_ends r (Purge ms) p q told does ends = ends
does_or_ends r (Suspend ms) p q told does ends = ends
does_or_ends r (Resume ms) p q told does ends = ends
does_or_ends r (CodeChange direction changes) p q told (u, all, counted, is, tells) (e, refuses, because) =
    let code = current_code p.modules in
    changes_one_way.never_both code (script_of direction p) changes p.apps p.processes u e all counted refuses
does_or_ends r (Stop ms) p q told does ends = ends
does_or_ends r (Start ms) p q told does ends = ends
does_or_ends r (Apply m f args) p q told does ends = ends

does_or_halts : (r : Release) (give_up : Bool) (i : Low) (p q : Parts) (told : List Reply) (h : Halt) →
    busy_of give_up i p ≡ None → RunsInstruction r i p q told → Halts h r give_up i p → ⊥
does_or_halts r give_up i p q told (Busy pid) waits does halts = none-some pid (sym waits ∙ halts)
does_or_halts r give_up i p q told (Failed x) waits does halts = does_or_fails r i p q told x does halts.1
does_or_halts r give_up i p q told CounterEnd waits does halts = does_or_ends r i p q told does halts.1

pub instructions_have_one_outcome : InstructionsHaveOneOutcome
instructions_have_one_outcome = record { does = does-once; halts = halts-once; never_both = does_or_halts }
