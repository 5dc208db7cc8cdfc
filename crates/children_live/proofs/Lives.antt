-- Who lives on when something is done to the processes, and who lives no more.
use Rattle.std.proofs.Common.{◌≡◌, ◌≤◌, ◌<◌, ◌+◌, ◌∙◌, ℕ, zero, suc, All, Bool, true, false, cond, if◌then◌else◌, List, [], ◌∷◌}
use Rattle.std.proofs.Common.{map, Option, None, Some, is_some, option_map, refl, sym, ap, subst, arith, inl, inr}
use Rattle.std.proofs.lemmas.Bool.{cases_lt, true≢false}
use Rattle.std.proofs.lemmas.List.Elements.{All-head, All-tail}
use Rattle.std.proofs.lemmas.Option.{none-some}
use Rattle.std.specs.Prelude.{IsSome}
use Rattle.std.specs.List.{filter, range_with_len}
use Rattle.code_loading.specs.Loading.{lingering, lingering_in, spared, spared_by}
use Rattle.code_server.specs.Modules.{Table as Loaded, old_of}
use Rattle.code_server.specs.declared.modules.Instance as loaded
use Rattle.erl_ir.specs.Module.{Forms}
use Rattle.erl_semantics.specs.declared.acts.Act.{Act}
use Rattle.erl_semantics.specs.declared.acts.Act.TheVariants as act
use Rattle.erl_semantics.specs.declared.acts.Place.{Place}
use Rattle.erl_semantics.specs.declared.instance.Instance.{Instance}
use Rattle.erl_semantics.specs.declared.jobs.Job.{Job}
use Rattle.erl_semantics.specs.declared.outcome.End.{End}
use Rattle.erl_semantics.specs.declared.outcome.End.TheVariants.{Rest, Value, Exit}
use Rattle.erl_term.specs.Tree.{Trees}
use Rattle.erl_term.specs.declared.term.Term.{Term}
use Rattle.process_effects.specs.Acts.{act_done, acts_done, answered, closed_at, receiver_of, sent}
use Rattle.process_effects.specs.Begins.{act_begun, acts_begun, name_left}
use Rattle.process_effects.specs.Commits.{rested_after, rests_in}
use Rattle.process_effects.specs.Ends.{all_vacated}
use Rattle.process_effects.specs.Exits.{exited}
use Rattle.process_effects.specs.Kills.{unless_uses, without_users}
use Rattle.process_effects.specs.Uses.{users, uses}
use Rattle.process_effects.specs.declared.told.Reply.{Reply}
use Rattle.values.proofs.Edits.{length-changed_at}
use Rattle.process_store.proofs.Slots.{kept, living_before, living_last, living_past}
use Rattle.process_store.proofs.Vacating.{other_slot}
use Rattle.process_store.specs.Changes.{closed_living, owner_of, rest_living, restate_living, resume_living, suspend_living}
use Rattle.process_store.specs.Changes.{suspended_as}
use Rattle.process_store.specs.Living.{arrived, run, takes_next}
use Rattle.process_store.specs.Table.{Table, added, changed, living, living_at, next_pid, pid_of}
use Rattle.process_store.specs.declared.living.ProcessEntry.{ProcessEntry}
use Rattle.process_table.specs.Messages.{message_of}
use Rattle.process_table.specs.States.{all_resumed, all_suspended, all_unresumed}
use Rattle.process_table.specs.Steps.{after_arrival, arrived_at, call_of, taken, taken_at}
use Rattle.process_table.specs.declared.body.ClientMessage.{ClientMessage}
use Rattle.process_table.specs.declared.states.Resumed.{Resumed}
use Rattle.sys_protocol.specs.StartResults.{end_fault, first_of, starts}
use Rattle.upgrade_calls.specs.Applying.{Applies}
use Rattle.upgrade_calls.specs.Changing.{AllChange, after_change, with_state}
use Rattle.upgrade_calls.specs.declared.changing.CodeChangeCall.{CodeChangeCall}

-- who lives by the one table lives by the other
abbrev pub LiveOn : Table → Table → Type 0
LiveOn t u = (pid : ℕ) → IsSome (living pid t) → IsSome (living pid u)

-- a pid of which a process lives was given
pub given : (pid : ℕ) (t : Table) → IsSome (living pid t) → pid < next_pid t
given pid t lives =
    elim (cases_lt pid (next_pid t)) [
      | inl below ↦ below
      | inr past ↦ absurd (true≢false (sym lives ∙ ap is_some (living_past t.slots pid past)))
    ]

-- A process is changed: a message comes to it, it takes one, a call of it is closed.

changed_on : (f : ProcessEntry → ProcessEntry) (pid : ℕ) (t : Table) → LiveOn t (changed f pid t)
changed_on f pid t q lives = kept (λ o. is_some o) f (λ l. refl) t.slots pid q ∙ lives

sent_on : (message : Term) (o : Option ℕ) (t : Table) → LiveOn t (sent message o t)
sent_on message None t q lives = lives
sent_on message (Some pid) t q lives = changed_on (arrived message None) pid t q lives

closed_on : (number : ℕ) (t : Table) → LiveOn t (answered number t)
closed_on number t =
    elim (owner_of number t) as (λ o. LiveOn t (closed_at o t)) [
      | None ↦ λ q lives. lives
      | Some it ↦ changed_on (closed_living it.1) it.0 t
    ]

pub arrival_on : (client : ℕ) (name : List ℕ) (body : ClientMessage) (t : Table) → LiveOn t (after_arrival client name body t)
arrival_on client name body t =
    elim (pid_of name t) as (λ o. LiveOn t (arrived_at o (message_of body) (call_of client body) t)) [
      | None ↦ λ q lives. lives
      | Some pid ↦ elim (message_of body) as (λ o. LiveOn t (arrived_at (Some pid) o (call_of client body) t)) [
        | None ↦ λ q lives. lives
        | Some message ↦ changed_on (arrived message (call_of client body)) pid t
      ]
    ]

taken_at_on : (o : Option ℕ) (pid entry_serial : ℕ) (code : List Instance) (t : Table) →
    LiveOn t (taken_at o pid entry_serial code t)
taken_at_on None pid entry_serial code t q lives = lives
taken_at_on (Some position) pid entry_serial code t q lives = changed_on (run position entry_serial code) pid t q lives

pub taken_on : (pid entry_serial : ℕ) (code : List Instance) (t : Table) → LiveOn t (taken pid entry_serial code t)
taken_on pid entry_serial code t = taken_at_on (takes_next (living pid t)) pid entry_serial code t

-- The acts of a job are done. Then its process rests, or lives no more.

act_on : (a : Act) (t : Table) → LiveOn t (act_done a t)
act_on (act.Send to message) t = sent_on message (receiver_of to t) t
act_on (act.Reply number reply) t = closed_on number t
act_on (act.Start place) t = λ q lives. lives
act_on (act.Name name by_register) t = λ q lives. lives

acts_on : (acts : List Act) (t : Table) → LiveOn t (acts_done acts t)
acts_on [] t q lives = lives
acts_on (a ∷ others) t q lives = acts_on others (act_done a t) q (act_on a t q lives)

pub rested_on : (job : Job) (at : Place) (acts : List Act) (t : Table) → LiveOn t (rested_after job at acts t)
rested_on job at acts t q lives =
    changed_on (rest_living at (rests_in at job.code)) job.pid (acts_done acts t) q (acts_on acts t q lives)

pub others_on : (pid : ℕ) (acts : List Act) (t : Table) (q : ℕ) → (q ≡ pid → ⊥) → IsSome (living q t) →
    IsSome (living q (exited pid acts t))
others_on pid acts t q differs lives =
    ap is_some (other_slot (λ o. None) (acts_done acts t).slots pid q (λ same. differs (sym same))) ∙ acts_on acts t q lives

-- What evaluating has done is done: where a process was started, it lives, as do all who lived.

added_on : (name : Option (List ℕ)) (at : Place) (rests : Option Instance) (t : Table) → LiveOn t (added name at rests t)
added_on name at rests t q lives =
    let below = given q t lives in
    ap is_some (living_before t.slots _ q (λ same. absurd (omega (arith, below, same)))) ∙ lives

act_begun_on : (name : Option (List ℕ)) (code : List Instance) (a : Act) (t : Table) → LiveOn t (act_begun name code a t)
act_begun_on name code (act.Send to message) t = sent_on message (receiver_of to t) t
act_begun_on name code (act.Reply number reply) t = closed_on number t
act_begun_on name code (act.Start place) t = added_on name place (rests_in place code) t
act_begun_on name code (act.Name n by_register) t = λ q lives. lives

pub begun_on : (name : Option (List ℕ)) (code : List Instance) (acts : List Act) (t : Table) →
    LiveOn t (acts_begun name code acts t)
begun_on name code [] t q lives = lives
begun_on name code (a ∷ others) t q lives =
    begun_on (name_left name a) code others (act_begun name code a t) q (act_begun_on name code a t q lives)

sent_next : (message : Term) (o : Option ℕ) (t : Table) → next_pid (sent message o t) ≡ next_pid t
sent_next message None t = refl
sent_next message (Some pid) t = length-changed_at (option_map (arrived message None)) t.slots pid

closed_next : (number : ℕ) (t : Table) → next_pid (answered number t) ≡ next_pid t
closed_next number t =
    elim (owner_of number t) as (λ o. next_pid (closed_at o t) ≡ next_pid t) [
      | None ↦ refl
      | Some it ↦ length-changed_at (option_map (closed_living it.1)) t.slots it.0
    ]

pub begun_lives : (name : Option (List ℕ)) (code : List Instance) (acts : List Act) (t : Table) → starts acts ≡ true →
    IsSome (living (next_pid t) (acts_begun name code acts t))
begun_lives name code [] t does = absurd (true≢false (sym does))
begun_lives name code (act.Send to message ∷ others) t does =
    let next = sent message (receiver_of to t) t in
    subst (λ pid. IsSome (living pid (acts_begun name code others next))) (sent_next message (receiver_of to t) t)
    (begun_lives name code others next does)
begun_lives name code (act.Reply number reply ∷ others) t does =
    let next = answered number t in
    subst (λ pid. IsSome (living pid (acts_begun name code others next))) (closed_next number t)
    (begun_lives name code others next does)
begun_lives name code (act.Start place ∷ others) t does =
    begun_on None code others (added name place (rests_in place code) t) (next_pid t) (ap is_some (living_last t.slots _))
begun_lives name code (act.Name n by_register ∷ others) t does = begun_lives name code others t does

-- a start without a fault has started a process
pub faultless_starts : (pid : ℕ) (started : Bool) (end : End) (second : Option Term) →
    first_of (end_fault pid started end) second ≡ None → started ≡ true
faultless_starts pid true end second none = refl
faultless_starts pid false (Rest place) second none = absurd (none-some _ (sym none))
faultless_starts pid false (Value v) second none = absurd (none-some _ (sym none))
faultless_starts pid false (Exit reason) second none = absurd (none-some _ (sym none))

-- Processes are suspended, resumed, or suspended again as they were.

pub suspended_on : (pids : List ℕ) (t : Table) → LiveOn t (all_suspended pids t)
suspended_on [] t q lives = lives
suspended_on (pid ∷ pids) t q lives =
    suspended_on pids (changed suspend_living pid t) q (changed_on suspend_living pid t q lives)

pub resumed_on : (pids : List ℕ) (t : Table) → LiveOn t (all_resumed pids t)
resumed_on [] t q lives = lives
resumed_on (pid ∷ pids) t q lives =
    resumed_on pids (changed resume_living pid t) q (changed_on resume_living pid t q lives)

pub unresumed_on : (rs : List Resumed) (t : Table) → LiveOn t (all_unresumed rs t)
unresumed_on [] t q lives = lives
unresumed_on (r ∷ rs) t q lives =
    changed_on (suspended_as r.was_suspended) r.pid (all_unresumed rs t) q (unresumed_on rs t q lives)

-- Processes change their states, and a function is applied.

pub all_change_on : (code : List Instance) (cs : List CodeChangeCall) (t after : Table) (told : List Reply) →
    AllChange code cs t after told → LiveOn t after
all_change_on code [] t after told all q lives = subst (λ (u : Table). IsSome (living q u)) (sym all.0) lives
all_change_on code (c ∷ cs) t after told (o, state, others, does, rest, tells) q lives =
    let first = changed_on (restate_living state 1) c.pid t q lives in
    all_change_on code cs (after_change code c o state t) after others rest q
    (begun_on None code o.acts (with_state c state t) q first)

pub applied_on : (code : List Instance) (m f : List ℕ) (args : Trees) (t after : Table) (told : List Reply) →
    Applies code m f args t after told → LiveOn t after
applied_on code m f args t after told does q lives =
    subst (λ (u : Table). IsSome (living q u)) (sym does.done) (begun_on None code does.outcome.acts t q lives)

-- Processes leave, and the others live on.
pub vacated_on : (pids : List ℕ) (t : Table) (p : ℕ) → All (λ q. p ≡ q → ⊥) pids → IsSome (living p t) →
    IsSome (living p (all_vacated pids t))
vacated_on [] t p others lives = lives
vacated_on (pid ∷ pids) t p others lives =
    let differs : p ≡ pid → ⊥ = All-head (λ q. p ≡ q → ⊥) pid pids others in
    let first = vacated_on pids t p (All-tail (λ q. p ≡ q → ⊥) pid pids others) lives in
    ap is_some (other_slot (λ o. None) (all_vacated pids t).slots pid p (λ same. differs (sym same))) ∙ first

-- Those who linger are killed, and the others live on.

living_unless : (serial : ℕ) (slots : List (Option ProcessEntry)) (pid : ℕ) →
    living_at (map (unless_uses serial) slots) pid ≡ unless_uses serial (living_at slots pid)
living_unless serial [] pid = refl
living_unless serial (s ∷ ss) zero = refl
living_unless serial (s ∷ ss) (suc pid) = living_unless serial ss pid

no_first : (test : ℕ → Bool) (p a : ℕ) (rest : List ℕ) (b : Bool) → test a ≡ b → All (λ q. p ≡ q → ⊥) (cond b (a ∷ rest) rest) →
    p ≡ a → test p ≡ false
no_first test p a rest true is none same = absurd (All-head (λ q. p ≡ q → ⊥) a rest none same)
no_first test p a rest false is none same = ap test same ∙ is

no_other : (p a : ℕ) (rest : List ℕ) (b : Bool) → All (λ q. p ≡ q → ⊥) (cond b (a ∷ rest) rest) → All (λ q. p ≡ q → ⊥) rest
no_other p a rest true none = All-tail (λ q. p ≡ q → ⊥) a rest none
no_other p a rest false none = none

unlisted : (test : ℕ → Bool) (p a n : ℕ) → All (λ q. p ≡ q → ⊥) (filter test (range_with_len a n)) → a ≤ p → p < a + n →
    test p ≡ false
unlisted test p a zero none from below = absurd (omega (arith, from, below))
unlisted test p a (suc n) none from below =
    let rest = filter test (range_with_len (a + 1) n) in
    elim (cases_lt a p) [
      | inl above ↦ unlisted test p (a + 1) n (no_other p a rest (test a) none) (omega (arith, above)) (omega (arith, below))
      | inr past ↦ no_first test p a rest (test a) refl none (omega (arith, from, past))
    ]

unused_on : (serial : ℕ) (t : Table) (p : ℕ) → All (λ q. p ≡ q → ⊥) (users serial t) → IsSome (living p t) →
    IsSome (living p (without_users serial t))
unused_on serial t p none lives =
    let below = given p t lives in
    let no_use = unlisted (λ q. uses serial (living q t)) p 0 (next_pid t) none (omega arith) (omega (arith, below)) in
    ap is_some (living_unless serial t.slots p ∙ ap (λ b. if b then None else living p t) no_use) ∙ lives

spared_by_on : (o : Option (loaded.Instance Forms)) (t : Table) (p : ℕ) → All (λ q. p ≡ q → ⊥) (lingering_in o t) →
    IsSome (living p t) → IsSome (living p (spared_by o t))
spared_by_on None t p none lives = lives
spared_by_on (Some i) t p none lives = unused_on i.serial t p none lives

pub spared_on : (name : List ℕ) (modules : Loaded Forms) (t : Table) (p : ℕ) → All (λ q. p ≡ q → ⊥) (lingering name modules t) →
    IsSome (living p t) → IsSome (living p (spared name modules t))
spared_on name modules t p none lives = spared_by_on (old_of name modules) t p none lives
