-- Events of processes and of children have one outcome: a process takes its next message, what a job has done is done, and a
-- child starts again.
use Rattle.std.proofs.Common.{◌≡◌, ℕ, true, false, List, [], ◌∷◌, map, Option, None, Some, Ok, Err, refl, sym, ap, subst, ◌∙◌}
use Rattle.std.proofs.lemmas.Bool.{true≢false}
use Rattle.std.proofs.lemmas.Option.{none-some, same_Some}
use Rattle.app_table.specs.Applications.{Application, child_of}
use Rattle.app_table.specs.Children.{is_due}
use Rattle.app_table.specs.declared.child.Child.{Child}
use Rattle.code_loading.specs.Current.{current_code}
use Rattle.code_server.specs.Modules.{Table as Loaded}
use Rattle.erl_ir.specs.Module.{Forms}
use Rattle.erl_semantics.specs.Views.{instance}
use Rattle.erl_semantics.specs.declared.instance.Instance.{Instance}
use Rattle.erl_semantics.specs.declared.jobs.Done.{Done}
use Rattle.erl_semantics.specs.declared.jobs.Job.{Job}
use Rattle.erl_term.specs.declared.term.Term.{Term}
use Rattle.node_rules.specs.Node.{NodeState}
use Rattle.node_rules.specs.Scripts.{Outcome, reporting}
use Rattle.node_rules.specs.Step.{Commits, IsRevived, Revives, Takes, revived_as, run_taken}
use Rattle.node_types.specs.Note.{Note}
use Rattle.node_types.specs.declared.event.Answer.{Answer}
use Rattle.node_types.specs.declared.event.Answer.TheVariants as answer
use Rattle.node_types.specs.declared.event.Refusal.TheVariants.{OfApps, OfProcesses}
use Rattle.process.proofs.JobCode.{IsJobCode-one}
use Rattle.process.specs.Ended.{held}
use Rattle.process_effects.specs.Commits.{IsRunning, job_at}
use Rattle.process_effects.specs.declared.told.Reply.{Reply}
use Rattle.process_store.specs.Changes.{CanTurnAt}
use Rattle.process_store.specs.Table.{Table, living}
use Rattle.process_store.specs.declared.living.ProcessEntry.{ProcessEntry}
use Rattle.process_table.specs.Commit.{RefusesCommit}
use Rattle.process_table.specs.Steps.{IsCode, IsCodeOf, entered, taken}
use Rattle.process_table.specs.declared.error.ProcError.{ProcError}
use Rattle.process_table.specs.declared.error.ProcError.TheVariants as proc
use Rattle.sys_protocol.proofs.ChildrenOneWay.{fails-once, gives-once, never_starts}
use Rattle.sys_protocol.specs.ChildStarts.{Fails, Restarts, StartsChild, after_start, start_told}
use Rattle.sys_protocol.specs.Refusals.{RefusesRevive}
use Rattle.sys_protocol.specs.declared.error.SysError.{SysError}
use Rattle.sys_protocol.specs.declared.error.SysError.TheVariants as sys
use Rattle.undo_journal.specs.Reversible.{Accepted}

-- Take: a job has one code, and so a process takes one job.

held_all : (code : List Instance) → map held (map instance code) ≡ code
held_all [] = refl
held_all (i ∷ code) = ap (λ is. i ∷ is) (held_all code)

same_code : (code other : List Instance) → map instance code ≡ map instance other → code ≡ other
same_code code other same = sym (held_all code) ∙ ap (map held) same ∙ held_all other

one_code : (m : Loaded Forms) (o : Option Instance) (s z : ℕ) (c d : List Instance) → IsCode m o s c → IsCode m o z d →
    (s ≡ z) × (c ≡ d)
one_code m None s z c d first second = (first.0 ∙ sym second.0, first.1 ∙ sym second.1)
one_code m (Some i) s z c d first second =
    let same = IsJobCode-one m (instance i) (map instance c) (map instance d) first.1 second.1 in
    (first.0 ∙ sym second.0, same_code c d same)

one_code_of : (m : Loaded Forms) (o : Option ProcessEntry) (j k : Job) → IsCodeOf m o j → IsCodeOf m o k →
    (j.entry_serial ≡ k.entry_serial) × (j.code ≡ k.code)
one_code_of m None j k first second = absurd first
one_code_of m (Some l) j k first second =
    let here = entered m l.process.place l.process.rests_in in
    one_code m here j.entry_serial k.entry_serial j.code k.code first second

one_job : (pid : ℕ) (n : NodeState) (j k : Job) →
    IsCodeOf n.modules (living pid n.processes) j → IsCodeOf n.modules (living pid n.processes) k →
    job_at (living pid (run_taken pid j n).processes) ≡ Some j →
    job_at (living pid (run_taken pid k n).processes) ≡ Some k → j ≡ k
one_job pid n j k first second here there =
    let code = one_code_of n.modules (living pid n.processes) j k first second in
    let same : taken pid j.entry_serial j.code n.processes ≡ taken pid k.entry_serial k.code n.processes =
    (λ i. taken pid (code.0 i) (code.1 i) n.processes) in
    same_Some j k (sym here ∙ ap (λ t. job_at (living pid t)) same ∙ there)

abbrev taken_as : ℕ → Job → NodeState → Accepted NodeState Answer Note
taken_as pid job n = record { node = run_taken pid job n; answer = answer.Job job; note = reporting [] }

pub one_take : (pid : ℕ) (n : NodeState) (r s : Outcome) → Takes pid n r → Takes pid n s → r ≡ s
one_take pid n (Err e) (Err f) first second =
    ap Err (first.2 ∙ ap OfProcesses (same_Some first.0 second.0 (sym first.1 ∙ second.1)) ∙ sym second.2)
one_take pid n (Err e) (Ok b) first second = absurd (none-some first.0 (sym second.1 ∙ first.1))
one_take pid n (Ok a) (Err f) first second = absurd (none-some second.0 (sym first.1 ∙ second.1))
one_take pid n (Ok a) (Ok b) first second =
    let same = one_job pid n first.0 second.0 first.2 second.2 first.3 second.3 in
    ap Ok (first.4 ∙ ap (λ j. taken_as pid j n) same ∙ sym second.4)

-- Commit

data IsRefusal (job : Job) (t : Table) : ProcError → Type 0 where
  stale : (IsRunning job t → ⊥) → IsRefusal job t proc.Stale
  at_end : IsRunning job t → (CanTurnAt job.pid t → ⊥) → IsRefusal job t proc.CounterEnd

refusal_is : (e : ProcError) (job : Job) (t : Table) → RefusesCommit e job t → IsRefusal job t e
refusal_is proc.NoProc job t refuses = absurd refuses
refusal_is proc.Suspended job t refuses = absurd refuses
refusal_is proc.Idle job t refuses = absurd refuses
refusal_is proc.Running job t refuses = absurd refuses
refusal_is proc.NotRunning job t refuses = absurd refuses
refusal_is proc.Stale job t refuses = stale refuses
refusal_is proc.NameTaken job t refuses = absurd refuses
refusal_is proc.DuplicateCall job t refuses = absurd refuses
refusal_is proc.CounterEnd job t refuses = at_end refuses.0 refuses.1

one_refusal : (job : Job) (t : Table) (e f : ProcError) → IsRefusal job t e → IsRefusal job t f → e ≡ f
one_refusal job t _ _ (stale never) (stale other) = refl
one_refusal job t _ _ (stale never) (at_end runs no_turn) = absurd (never runs)
one_refusal job t _ _ (at_end runs no_turn) (stale never) = absurd (never runs)
one_refusal job t _ _ (at_end runs no_turn) (at_end also other) = refl

never_both : (job : Job) (t : Table) (e : ProcError) → IsRefusal job t e → IsRunning job t → CanTurnAt job.pid t → ⊥
never_both job t _ (stale never) runs turns = never runs
never_both job t _ (at_end also no_turn) runs turns = no_turn turns

pub one_commit : (done : Done) (n : NodeState) (r s : Outcome) → Commits done n r → Commits done n s → r ≡ s
one_commit done n (Err e) (Err f) (one, refuses, is) (other, refuses_too, also) =
    let t = n.processes in
    let here = refusal_is one done.job t refuses in
    let there = refusal_is other done.job t refuses_too in
    ap Err (is ∙ ap OfProcesses (one_refusal done.job t one other here there) ∙ sym also)
one_commit done n (Err e) (Ok b) (one, refuses, is) second =
    absurd (never_both done.job n.processes one (refusal_is one done.job n.processes refuses) second.0.0 second.0.1)
one_commit done n (Ok a) (Err f) first (other, refuses, is) =
    absurd (never_both done.job n.processes other (refusal_is other done.job n.processes refuses) first.0.0 first.0.1)
one_commit done n (Ok a) (Ok b) first second = ap Ok (first.1 ∙ sym second.1)

-- Revive

data IsUnrevived (code : List Instance) (name : List ℕ) (id : Term) (apps : List Application) (t : Table) :
    SysError → Type 0 where
  no_child : child_of name id apps ≡ None → IsUnrevived code name id apps t sys.NoChild
  not_due : (c : Child) → child_of name id apps ≡ Some c → is_due c ≡ false → IsUnrevived code name id apps t sys.NotDue
  failed : (c : Child) (reason : Term) → child_of name id apps ≡ Some c → is_due c ≡ true → Fails code c.spec t reason →
      IsUnrevived code name id apps t (sys.StartFailed (record { child = c.spec.id; reason = reason }))

unrevived_is : (code : List Instance) (name : List ℕ) (id : Term) (apps : List Application) (t : Table) (e : SysError) →
    RefusesRevive e code name id apps t → IsUnrevived code name id apps t e
unrevived_is code name id apps t (sys.StartFailed it) refuses =
    let is = failed refuses.0 it.reason refuses.1 refuses.2 refuses.3.1 in
    subst (λ c. IsUnrevived code name id apps t (sys.StartFailed (record { child = c; reason = it.reason }))) (sym refuses.3.0) is
unrevived_is code name id apps t sys.NoChild refuses = no_child refuses
unrevived_is code name id apps t sys.NotDue refuses = not_due refuses.0 refuses.1 refuses.2

one_child : (o : Option Child) (c d : Child) → o ≡ Some c → o ≡ Some d → c ≡ d
one_child o c d first second = same_Some c d (sym first ∙ second)

due_or_not : (o : Option Child) (c d : Child) → o ≡ Some c → o ≡ Some d → is_due c ≡ true → is_due d ≡ false → ⊥
due_or_not o c d first second due undue = true≢false (sym due ∙ ap is_due (one_child o c d first second) ∙ undue)

one_failure : (code : List Instance) (c d : Child) (t : Table) (r s : Term) → c ≡ d →
    Fails code c.spec t r → Fails code d.spec t s →
    sys.StartFailed (record { child = c.spec.id; reason = r }) ≡ sys.StartFailed (record { child = d.spec.id; reason = s })
one_failure code c d t r s same first second =
    let reason = fails-once code d.spec t r s (subst (λ x. Fails code x.spec t r) same first) second in
    (λ i. sys.StartFailed (record { child = (same i).spec.id; reason = reason i }))

one_unrevived : (code : List Instance) (name : List ℕ) (id : Term) (apps : List Application) (t : Table) (e f : SysError) →
    IsUnrevived code name id apps t e → IsUnrevived code name id apps t f → e ≡ f
one_unrevived code name id apps t _ _ (no_child none) (no_child other) = refl
one_unrevived code name id apps t _ _ (no_child none) (not_due d there not) = absurd (none-some d (sym none ∙ there))
one_unrevived code name id apps t _ _ (no_child none) (failed d reason there due fails) =
    absurd (none-some d (sym none ∙ there))
one_unrevived code name id apps t _ _ (not_due c here not) (no_child none) = absurd (none-some c (sym none ∙ here))
one_unrevived code name id apps t _ _ (not_due c here not) (not_due d there other) = refl
one_unrevived code name id apps t _ _ (not_due c here not) (failed d reason there due fails) =
    absurd (due_or_not (child_of name id apps) d c there here due not)
one_unrevived code name id apps t _ _ (failed c reason here due fails) (no_child none) =
    absurd (none-some c (sym none ∙ here))
one_unrevived code name id apps t _ _ (failed c reason here due fails) (not_due d there not) =
    absurd (due_or_not (child_of name id apps) c d here there due not)
one_unrevived code name id apps t _ _ (failed c reason here due fails) (failed d other there also fails_too) =
    one_failure code c d t reason other (one_child (child_of name id apps) c d here there) fails fails_too

starts_or_fails : (code : List Instance) (c d : Child) (t after : Table) (pid : ℕ) (told : List Reply) (reason : Term) → c ≡ d →
    Restarts code c.spec t pid after told → Fails code d.spec t reason → ⊥
starts_or_fails code c d t after pid told reason same restarts fails =
    let starts = subst (λ x. StartsChild code x.spec t restarts.1.0) same restarts.1.1 in
    never_starts code d.spec t restarts.1.0 reason starts fails

never_revived : (app : List ℕ) (id : Term) (n : NodeState) (a : Accepted NodeState Answer Note) (e : SysError) →
    IsRevived app id n a → IsUnrevived (current_code n.modules) app id n.apps n.processes e → ⊥
never_revived app id n a _ it (no_child none) = none-some it.child (sym none ∙ it.found)
never_revived app id n a _ it (not_due d there not) =
    due_or_not (child_of app id n.apps) it.child d it.found there it.due not
never_revived app id n a _ it (failed d reason there due fails) =
    let same = one_child (child_of app id n.apps) it.child d it.found there in
    let code = current_code n.modules in
    starts_or_fails code it.child d n.processes it.after it.pid it.told reason same it.restarts fails

one_restart : (code : List Instance) (c d : Child) (t u v : Table) (p q : ℕ) (told other : List Reply) → c ≡ d →
    Restarts code c.spec t p u told → Restarts code d.spec t q v other → (p ≡ q) × (u ≡ v) × (told ≡ other)
one_restart code c d t u v p q told other same first second =
    let starts = subst (λ x. StartsChild code x.spec t first.1.0) same first.1.1 in
    let o = gives-once code d.spec t first.1.0 second.1.0 starts.gives second.1.1.gives in (
      first.0 ∙ sym second.0,
      first.1.2 ∙ ap (λ x. after_start code x t) o ∙ sym second.1.2,
      first.1.3 ∙ ap (λ x. start_told code x t) o ∙ sym second.1.3,
    )

one_revival : (app : List ℕ) (id : Term) (n : NodeState) (a b : Accepted NodeState Answer Note) →
    IsRevived app id n a → IsRevived app id n b → a ≡ b
one_revival app id n a b first second =
    let child = one_child (child_of app id n.apps) first.child second.child first.found second.found in
    let restart = one_restart (current_code n.modules) first.child second.child n.processes first.after second.after in
    let it = restart first.pid second.pid first.told second.told child first.restarts second.restarts in
    first.is ∙ (λ i. revived_as app id (it.0 i) (it.1 i) (it.2 i) n) ∙ sym second.is

pub one_revive : (app : List ℕ) (id : Term) (n : NodeState) (r s : Outcome) → Revives app id n r → Revives app id n s → r ≡ s
one_revive app id n (Err e) (Err f) (one, refuses, is) (other, refuses_too, also) =
    let code = current_code n.modules in
    let here = unrevived_is code app id n.apps n.processes one refuses in
    let there = unrevived_is code app id n.apps n.processes other refuses_too in
    ap Err (is ∙ ap OfApps (one_unrevived code app id n.apps n.processes one other here there) ∙ sym also)
one_revive app id n (Err e) (Ok b) (one, refuses, is) second =
    let here = unrevived_is (current_code n.modules) app id n.apps n.processes one refuses in
    absurd (never_revived app id n b one second here)
one_revive app id n (Ok a) (Err f) first (other, refuses, is) =
    let there = unrevived_is (current_code n.modules) app id n.apps n.processes other refuses in
    absurd (never_revived app id n a other first there)
one_revive app id n (Ok a) (Ok b) first second = ap Ok (one_revival app id n a b first second)
