-- A process takes a message, or is refused it: the code that a job reaches is some code.
use Rattle.std.specs.Prelude.{◌≡◌, ◌⊎◌, ℕ, List, [], ◌∷◌, map, Option, None, Some, option_map, slice_get, Ok, Err, refl}
use Rattle.std.proofs.Common.{inl, inr, ap, sym, subst, ◌∙◌}
use Rattle.std.proofs.lemmas.List.Quantifiers.{position-Some}
use Rattle.std.proofs.lemmas.Option.{none-some, slice_get-get_or}
use Rattle.std.specs.List.{slice_index_or}
use Rattle.code_server.specs.Modules.{Entry, Table as Loaded}
use Rattle.code_server.specs.declared.modules.Instance as loaded
use Rattle.erl_ir.specs.Module.{Forms}
use Rattle.erl_semantics.specs.State as state
use Rattle.erl_semantics.specs.Views.{instance}
use Rattle.erl_semantics.specs.declared.instance.Instance.{Instance}
use Rattle.erl_semantics.specs.declared.jobs.Job.{Job}
use Rattle.erl_term.specs.Term.{term_of}
use Rattle.erl_term.specs.Tree.{atom}
use Rattle.erl_term.specs.declared.term.Term.{Term}
use Rattle.node_laws.proofs.Reaching.{reached_or_not}
use Rattle.node_rules.specs.Node.{NodeState}
use Rattle.node_rules.specs.Scripts.{Outcome, reporting}
use Rattle.node_rules.specs.Step.{Takes, run_taken}
use Rattle.node_types.specs.Note.{Note}
use Rattle.node_types.specs.declared.event.Answer.{Answer}
use Rattle.node_types.specs.declared.event.Answer.TheVariants as answer
use Rattle.node_types.specs.declared.event.Refusal.TheVariants.{OfProcesses}
use Rattle.process.specs.JobCode.{AreReached, IsJobCode, IsReached, instance_of, job_code, none, not_reached, reached, without_code}
use Rattle.process.specs.Process.{next_message, next_message_by, first_taken, takes_at}
use Rattle.process.specs.declared.activity.Activity.{Activity}
use Rattle.process.specs.declared.activity.Activity.TheVariants as activity
use Rattle.process_store.proofs.Slots.{living_changed}
use Rattle.process_store.specs.Living.{run}
use Rattle.process_store.specs.Table.{changed, living}
use Rattle.process_store.specs.declared.living.ProcessEntry.{ProcessEntry}
use Rattle.process_table.proofs.Jobs.{job_is, taken_is}
use Rattle.process_table.specs.Steps.{IsCode, IsCodeOf, entered, resting_refusal, take_refusal, take_refusal_of, taken}
use Rattle.process_table.specs.declared.error.ProcError.{ProcError}
use Rattle.process_table.specs.declared.error.ProcError.TheVariants.{Idle, NoProc, Running, Suspended}
use Rattle.undo_journal.specs.Reversible.{Accepted}

-- The code that is reached

abbrev Reached : Loaded Forms → Forms → List (Entry Forms) → Type 0
Reached t from entries = (code : List state.Instance) × AreReached t from entries code

one_reached : (t : Loaded Forms) (from : Forms) (entry : Entry Forms) (entries : List (Entry Forms)) →
    IsReached t from entry.0 ⊎ (IsReached t from entry.0 → ⊥) → (current : Option (loaded.Instance Forms)) →
    entry.1.current ≡ current →
    Reached t from entries → Reached t from (entry ∷ entries)
one_reached t from entry entries (inl is) None at others = (others.0, without_code at others.1)
one_reached t from entry entries (inl is) (Some i) at others = (instance_of entry.0 i ∷ others.0, reached is at others.1)
one_reached t from entry entries (inr never) current at others = (others.0, not_reached never others.1)

all_reached : (t : Loaded Forms) (from : Forms) (entries : List (Entry Forms)) → Reached t from entries
all_reached t from [] = ([], none)
all_reached t from (entry ∷ entries) =
    one_reached t from entry entries (reached_or_not t from entry.0) entry.1.current refl (all_reached t from entries)

-- as the code sees it

instance_there : state.Instance → Instance
instance_there i = record { name = i.name; serial = i.serial; «module» = i.forms }

instances_back : (code : List state.Instance) → map instance (map instance_there code) ≡ code
unfolding instance_there
instances_back [] = refl
instances_back (i ∷ code) = ap (λ is. i ∷ is) (instances_back code)

abbrev Code : Loaded Forms → Option Instance → Type 0
Code t at = (serial : ℕ) × (code : List Instance) × IsCode t at serial code

code_for : (t : Loaded Forms) (i : Instance) → Reached t i.«module» t.entries → Code t (Some i)
code_for t i are = (
  i.serial,
  i ∷ map instance_there are.0,
  (refl, subst (λ code. IsJobCode t (instance i) (instance i ∷ code)) (sym (instances_back are.0)) (job_code are.1)),
)

code_of : (t : Loaded Forms) (at : Option Instance) → Code t at
code_of t None = (0, [], (refl, refl))
code_of t (Some i) = code_for t i (all_reached t i.«module» t.entries)

-- The message that is next stands in the mailbox.

taken_first : (a : Activity) (first : Option ℕ) (index : ℕ) → next_message_by a first ≡ Some index → first ≡ Some index
taken_first activity.Idle first index is = is
taken_first activity.Suspended first index is = absurd (none-some index is)
taken_first (activity.Runs r) first index is = absurd (none-some index is)

resting_takes : (a : Activity) (first : Option ℕ) → resting_refusal a first ≡ None → (index : ℕ) × (first ≡ Some index)
resting_takes activity.Suspended first unrefused = absurd (none-some Suspended (sym unrefused))
resting_takes (activity.Runs r) first unrefused = absurd (none-some Running (sym unrefused))
resting_takes activity.Idle None unrefused = absurd (none-some Idle (sym unrefused))
resting_takes activity.Idle (Some index) unrefused = (index, refl)

message_there : (l : ProcessEntry) (index : ℕ) → next_message l.process ≡ Some index → (m : Term) ×
    (slice_get l.process.mailbox index ≡ Some m)
message_there l index takes =
    let p = l.process in
    let first = taken_first p.activity (first_taken p.pid p.place p.rests_in p.mailbox) index takes in
    let some = term_of (atom []) in
    let within = position-Some (takes_at p.pid p.place p.rests_in) p.mailbox index some first in
    (slice_index_or p.mailbox index some, slice_get-get_or p.mailbox index some within.0)

-- The job

abbrev Taken : ℕ → NodeState → Type 0
Taken pid n = (r : Outcome) × Takes pid n r

taken_by : (pid : ℕ) (n : NodeState) (l : ProcessEntry) (index : ℕ) (message : Term) → living pid n.processes ≡ Some l →
    take_refusal_of (Some l) ≡ None → next_message l.process ≡ Some index → slice_get l.process.mailbox index ≡ Some message →
    Code n.modules (entered n.modules l.process.place l.process.rests_in) → Taken pid n
taken_by pid n l index message lives unrefused takes at (serial, code, is) =
    let job : Job = record {
      pid = l.process.pid;
      turn = l.process.turn;
      place = l.process.place;
      entry_serial = serial;
      message = message;
      code = code;
    } in
    let t = n.processes in
    let changed_to = changed (run index serial code) pid t in
    let same = taken_is t changed_to (Some l) pid index serial code lives takes refl in
    let now = ap (living pid) (sym same) ∙ living_changed (run index serial code) t.slots pid ∙
    ap (option_map (run index serial code)) lives in
    let runs = job_is (living pid (taken pid serial code t)) l index job now at refl refl refl in
    let made : Accepted NodeState Answer Note = record
    { node = run_taken pid job n; answer = answer.Job job; note = reporting [] } in (
      Ok made,
      (
        job,
        ap take_refusal_of lives ∙ unrefused,
        subst (λ o. IsCodeOf n.modules o job) (sym lives) is,
        runs,
        refl,
      ),
    )

take_unrefused : (pid : ℕ) (n : NodeState) (l : ProcessEntry) → living pid n.processes ≡ Some l → take_refusal_of (Some l) ≡ None →
    Taken pid n
take_unrefused pid n l lives unrefused =
    let first = resting_takes l.process.activity (next_message l.process) unrefused in
    let message = message_there l first.0 first.1 in
    taken_by pid n l first.0 message.0 lives unrefused first.1 message.1
    (code_of n.modules (entered n.modules l.process.place l.process.rests_in))

take_refused : (pid : ℕ) (n : NodeState) (e : ProcError) → take_refusal pid n.processes ≡ Some e → Taken pid n
take_refused pid n e is = (Err (OfProcesses e), (e, is, refl))

take_living : (pid : ℕ) (n : NodeState) (l : ProcessEntry) (refusal : Option ProcError) → living pid n.processes ≡ Some l →
    take_refusal_of (Some l) ≡ refusal → Taken pid n
take_living pid n l None lives is = take_unrefused pid n l lives is
take_living pid n l (Some e) lives is = take_refused pid n e (ap take_refusal_of lives ∙ is)

take_at : (pid : ℕ) (n : NodeState) (o : Option ProcessEntry) → living pid n.processes ≡ o → Taken pid n
take_at pid n None is = take_refused pid n NoProc (ap take_refusal_of is)
take_at pid n (Some l) is = take_living pid n l (take_refusal_of (Some l)) is refl

pub takes : (pid : ℕ) (n : NodeState) → (r : Outcome) × Takes pid n r
takes pid n = take_at pid n (living pid n.processes) refl
