-- What performed events cause.
use Rattle.std.proofs.Common.{◌≡◌, ◌∙◌, ℕ, ◌+◌, true, false, [], ◌∷◌, Option, None, Some, is_some, Result, Ok, Err, OnOk, refl, sym, ap, subst}
use Rattle.erl_semantics.specs.declared.jobs.Done.{Done}
use Rattle.erl_semantics.specs.declared.jobs.Job.{Job}
use Rattle.node_core.specs.Node.{NodeState}
use Rattle.node_types.specs.declared.event.Answer.{Answer}
use Rattle.node_types.specs.declared.event.Answer.TheVariants as answer
use Rattle.node_types.specs.declared.event.Event.{Event}
use Rattle.node_types.specs.declared.event.Event.TheVariants.{Commit, Take}
use Rattle.node_types.specs.declared.event.Refusal.{Refusal}
use Rattle.process.specs.declared.activity.Activity.{Activity}
use Rattle.process.specs.declared.activity.Activity.TheVariants.{Idle, Suspended, Runs as Running}
use Rattle.process.specs.Process.{first_taken, next_message_by}
use Rattle.process_store.specs.Living.{is_runnable}
use Rattle.process_store.specs.Table.{living}
use Rattle.process_store.specs.declared.living.ProcessEntry.{ProcessEntry}
use Rattle.process_table.specs.Steps.{IsNextRunnable, resting_refusal, take_refusal_of}
use Rattle.rehearsals.specs.declared.station.Outcome.{Outcome}
use Rattle.undo_journal.specs.Timeline.{here}
use Rattle.upgrade_rehearsal.proofs.Going.{at_new, goes_by, stays}
use Rattle.upgrade_rehearsal.proofs.Leading.{leads_as, leads_then, on_ok}
use Rattle.upgrade_rehearsal.specs.Going.{Extends}
use Rattle.upgrade_rehearsal.specs.Happenings.{accepted, refused}
use Rattle.upgrade_rehearsal.specs.Players.{Leads, Performed, stage_of}
use Rattle.upgrade_rehearsal.specs.Seen.{ComesTo, advance_outcome}
use Rattle.upgrade_rehearsal.specs.Stages.{Comes, Happens, IsNext, IsServed, Occurs, Undergoes, Runs, Scene, event_of, job_by, job_in}
use Rattle.upgrade_rehearsal.specs.Sequences.{Then}
use Rattle.upgrade_rehearsal.specs.declared.arrival.Arrival.{Arrival}
use Rattle.upgrade_rehearsal.specs.declared.player.Player.{Player}

-- the player continues by the event
pub performed_occurs : (old new : Player) (e : Event) (done : Result Answer Refusal) → Performed old e done new →
    Leads (Occurs e done) old new
performed_occurs old new e (Ok told) w = record {
  journal = subst (λ j. Extends old.journal j) (sym w.3) (goes_by old.journal w.0.node w.0.note);
  sent = accepted e w.0.note.replies ∷ [];
  scene = record {
    happens = (w.0, w.1, w.2, ap (λ j. (here j).node) w.3 ∙ at_new old.journal w.0.node w.0.note, refl);
    arrivals = w.5;
  };
  kept = w.4;
}
performed_occurs old new e (Err why) w = record {
  journal = subst (λ j. Extends old.journal j) (sym w.1) (stays old.journal);
  sent = refused e ∷ [];
  scene = record { happens = (w.0, ap (λ j. (here j).node) w.1, refl); arrivals = w.3 };
  kept = w.2;
}

-- with any result
pub performed_on : (old new : Player) (e : Event) (done : Result Answer Refusal) → Performed old e done new →
    Leads (Undergoes e) old new
performed_on old new e done w =
    leads_as (Occurs e done) (Undergoes e) old new (λ sent occurs. (done, occurs)) (performed_occurs old new e done w)

-- and with which outcome
pub performed_comes : (old new : Player) (e : Event) (done : Result Answer Refusal) (told : Outcome) → told ≡ advance_outcome done →
    Performed old e done new → Leads (ComesTo e told) old new
performed_comes old new e done told tells w = leads_as (Occurs e done) (ComesTo e told) old new
    (λ sent occurs. record { answer = done; occurs = occurs; tells = tells }) (performed_occurs old new e done w)

-- A process that can take a message takes one.

rests : (a : Activity) (first : Option ℕ) → is_some (next_message_by a first) ≡ true →
    resting_refusal a (next_message_by a first) ≡ None
rests Idle None runs = let clash : false ≡ true = runs in cc
rests Idle (Some position) runs = refl
rests Suspended first runs = let clash : false ≡ true = runs in cc
rests (Running r) first runs = let clash : false ≡ true = runs in cc

runnable_takes : (o : Option ProcessEntry) → is_runnable o ≡ true → take_refusal_of o ≡ None
runnable_takes None runs = let clash : false ≡ true = runs in cc
runnable_takes (Some l) runs =
    rests l.process.activity (first_taken l.process.pid l.process.place l.process.rests_in l.process.mailbox) runs

pub takes_job : (old new : Player) (pid : ℕ) (done : Result Answer Refusal) →
    is_runnable (living pid (here old.journal).node.processes) ≡ true → Performed old (Take pid) done new → job_in done ≡ None → ⊥
takes_job old new pid (Ok told) runs w none =
    let clash : Some w.1.0 ≡ None = sym (ap job_by (w.2 ∙ ap (λ a. a.answer) w.1.4)) ∙ none in cc
takes_job old new pid (Err why) runs w none =
    let clash : Some w.0.0 ≡ None = sym w.0.1 ∙ runnable_takes (living pid (here old.journal).node.processes) runs in cc

-- The job of an answer is the answer.

gives_by : (told : Answer) (job : Job) → job_by told ≡ Some job → told ≡ answer.Job job
gives_by (answer.Job it) job is = let same : it ≡ job = cc in ap answer.Job same
gives_by (answer.Revived pid) job is = let clash : None ≡ Some job = is in cc
gives_by (answer.Killed killed) job is = let clash : None ≡ Some job = is in cc
gives_by (answer.Installing vsn instructions) job is = let clash : None ≡ Some job = is in cc
gives_by (answer.Ran instruction) job is = let clash : None ≡ Some job = is in cc
gives_by (answer.Finished vsn description) job is = let clash : None ≡ Some job = is in cc
gives_by (answer.Recovered reason) job is = let clash : None ≡ Some job = is in cc
gives_by (answer.Restarted reason) job is = let clash : None ≡ Some job = is in cc
gives_by (answer.Swept modules) job is = let clash : None ≡ Some job = is in cc
gives_by answer.Unit job is = let clash : None ≡ Some job = is in cc

pub gives_job : (done : Result Answer Refusal) (job : Job) → job_in done ≡ Some job → done ≡ Ok (answer.Job job)
gives_job (Ok told) job is = ap Ok (gives_by told job is)
gives_job (Err why) job is = let clash : None ≡ Some job = is in cc

-- A client's message is sent.
pub comes_by : (a : Arrival) (old between : Player) (number : ℕ) (e : Event) → e ≡ event_of a number →
    number ≡ old.arrivals + 1 → Leads (Undergoes e) old between → Leads (Comes a) old (record between { arrivals = number })
comes_by a old between number e is next l = record {
  journal = l.journal;
  sent = l.sent;
  scene = record {
    told = l.scene.0;
    happens =
        subst (λ it. Happens (stage_of old).node it l.scene.0 l.sent (stage_of between).node) is l.scene.1.happens;
    arrivals = next;
  };
  kept = l.kept;
}

-- A process has taken a message, and the result of running it is committed.

pub runs_by : {T E : Type 0} (r : Result T E) (job : Job) (done : Done) (old new : Player) → done.job ≡ job →
    OnOk r (Leads (Undergoes (Commit done)) old new) → OnOk r (Leads (Runs job) old new)
runs_by r job done old new is on = on_ok r (Leads (Undergoes (Commit done)) old new) (Leads (Runs job) old new)
    (λ l. leads_as (Undergoes (Commit done)) (Runs job) old new (λ sent w. (done, is, w)) l) on

pub served_by : {T E : Type 0} (r : Result T E) (pid : ℕ) (job : Job) (done : Result Answer Refusal)
    (old between new : Player) → job_in done ≡ Some job → Performed old (Take pid) done between →
    OnOk r (Leads (Runs job) between new) → OnOk r (Leads (IsServed pid) old new)
served_by r pid job done old between new gives w on =
    let Takes : Scene = Occurs (Take pid) (Ok (answer.Job job)) in
    let takes : Performed old (Take pid) (Ok (answer.Job job)) between =
    subst (λ d. Performed old (Take pid) d between) (gives_job done job gives) w in
    on_ok r (Leads (Runs job) between new) (Leads (IsServed pid) old new) (λ l.
    leads_as (Then Takes (Runs job)) (IsServed pid) old new (λ sent both. record { job = job; serves = both })
    (leads_then Takes (Runs job) old between new (performed_occurs old between (Take pid) (Ok (answer.Job job)) takes) l)) on

-- The next process is that of the node in the player's present state.
pub is_next : (p : Player) (n : NodeState) (o : Option ℕ) (pid : ℕ) → n ≡ (here p.journal).node →
    IsNextRunnable 0 o n.processes → o ≡ Some pid → IsNext pid (stage_of p)
is_next p n o pid at told is =
    subst (λ m. IsNextRunnable 0 (Some pid) m.processes) at (subst (λ q. IsNextRunnable 0 q n.processes) is told)
