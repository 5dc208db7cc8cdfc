-- A process takes a message, or takes it no more: it keeps its name and its calls, and what it took comes back.
use Rattle.std.proofs.Common.{◌≡◌, ℕ, ◌<◌, ◌≤◌, List, length, Option, None, Some, option_map, slice_get, refl, sym, ap, subst, ◌∙◌, arith}
use Rattle.std.proofs.lemmas.Option.{none-some}
use Rattle.std.proofs.lemmas.List.Quantifiers.{position-Some}
use Rattle.std.proofs.lemmas.List.Edits.{length-remove}
use Rattle.values.proofs.Edits.{insert-remove}
use Rattle.erl_term.specs.declared.term.Term.{Term}
use Rattle.erl_term.specs.declared.term.Term.TheVariants.{Pid}
use Rattle.erl_semantics.specs.declared.instance.Instance.{Instance}
use Rattle.process.specs.declared.activity.Activity.{Activity}
use Rattle.process.specs.declared.activity.Activity.TheVariants.{Idle, Suspended, Runs}
use Rattle.process.specs.Process.{ProcessState, awaited, awaited_by, next_message, next_message_by, first_taken, run_at, run_by, takes_at, untaken, untaken_by}
use Rattle.process_index.specs.Index.{Names}
use Rattle.process_index.specs.Numbers.{Owners}
use Rattle.process_store.specs.declared.living.ProcessEntry.{ProcessEntry}
use Rattle.process_store.specs.Indexed.{IsIndexed}
use Rattle.process_store.specs.Living.{run, takes_next, untook}
use Rattle.process_store.specs.Table.{Table, changed_slots, living, living_at}
use Rattle.process_store.specs.Inverses.{WasTaken}
use Rattle.process_store.proofs.Indexes.{IsIndexed-kept}
use Rattle.process_store.proofs.Slots.{slots_back}

untaken_name : (position : ℕ) (a : Activity) (p : ProcessState) → (untaken_by position a p).name ≡ p.name
untaken_name position Idle p = refl
untaken_name position Suspended p = refl
untaken_name position (Runs r) p = refl

run_name : (message : Option Term) (position entry_serial : ℕ) (code : List Instance) (p : ProcessState) → (run_by message position entry_serial code p).name ≡ p.name
run_name None position entry_serial code p = refl
run_name (Some message) position entry_serial code p = refl

untaken_pid : (position : ℕ) (a : Activity) (p : ProcessState) → (untaken_by position a p).pid ≡ p.pid
untaken_pid position Idle p = refl
untaken_pid position Suspended p = refl
untaken_pid position (Runs r) p = refl

run_pid : (message : Option Term) (position entry_serial : ℕ) (code : List Instance) (p : ProcessState) → (run_by message position entry_serial code p).pid ≡ p.pid
run_pid None position entry_serial code p = refl
run_pid (Some message) position entry_serial code p = refl

pub untook_indexed : (position : ℕ) (names : Names) (open_calls : Owners) (slots now : List (Option ProcessEntry)) (pid : ℕ) → IsIndexed names open_calls slots → now ≡ changed_slots (untook position) pid slots → IsIndexed names open_calls now
untook_indexed position names open_calls slots now pid indexed is =
    subst (IsIndexed names open_calls) (sym is) (IsIndexed-kept (untook position) (λ l. untaken_name position l.process.activity l.process) (λ l. untaken_pid position l.process.activity l.process) (λ l. refl) names open_calls slots pid indexed)

pub run_indexed : (position entry_serial : ℕ) (code : List Instance) (names : Names) (open_calls : Owners) (slots now : List (Option ProcessEntry)) (pid : ℕ) → IsIndexed names open_calls slots → now ≡ changed_slots (run position entry_serial code) pid slots → IsIndexed names open_calls now
run_indexed position entry_serial code names open_calls slots now pid indexed is =
    subst (IsIndexed names open_calls) (sym is) (IsIndexed-kept (run position entry_serial code) (λ l. run_name (slice_get l.process.mailbox position) position entry_serial code l.process) (λ l. run_pid (slice_get l.process.mailbox position) position entry_serial code l.process) (λ l. refl) names open_calls slots pid indexed)

-- a process that takes a message is idle, and the message is the first that it takes
idle_of : (a : Activity) (first : Option ℕ) (position : ℕ) → next_message_by a first ≡ Some position → (a ≡ Idle) × (awaited_by a first ≡ Some position)
idle_of Idle first position e = (refl, e)
idle_of Suspended first position e = absurd (none-some position e)
idle_of (Runs r) first position e = absurd (none-some position e)

-- the message that was taken comes back
untaken_run : (p : ProcessState) (message : Term) (position entry_serial : ℕ) (code : List Instance) → next_message p ≡ Some position → slice_get p.mailbox position ≡ Some message → untaken position (run_at position entry_serial code p) ≡ p
untaken_run p message position entry_serial code takes at =
    let idle = (idle_of p.activity (first_taken p.pid p.place p.rests_in p.mailbox) position takes).0 in
    let back = insert-remove p.mailbox position message at in
    ap (λ m. untaken position (run_by m position entry_serial code p)) at ∙ (λ i. record p { activity = sym idle i; mailbox = back i })

-- where it has no message at the position it is as it was
untaken_idle : (position : ℕ) (p : ProcessState) → p.activity ≡ Idle → untaken position p ≡ p
untaken_idle position p idle = ap (λ a. untaken_by position a p) idle

untaken_some : (p : ProcessState) (position entry_serial : ℕ) (code : List Instance) → next_message p ≡ Some position → untaken position (run_at position entry_serial code p) ≡ p
untaken_some p position entry_serial code takes =
    elim (slice_get p.mailbox position) as (λ o. slice_get p.mailbox position ≡ o → untaken position (run_at position entry_serial code p) ≡ p) [
      | None ↦ λ at. ap (λ m. untaken position (run_by m position entry_serial code p)) at ∙ untaken_idle position p (idle_of p.activity (first_taken p.pid p.place p.rests_in p.mailbox) position takes).0
      | Some message ↦ λ at. untaken_run p message position entry_serial code takes at
    ] refl

-- what was not taken is as long as it was, but for one
taken_length : (message : Option Term) (position entry_serial : ℕ) (code : List Instance) (p : ProcessState) → position < length p.mailbox → position ≤ length (run_by message position entry_serial code p).mailbox
taken_length None position entry_serial code p within = omega (arith, within)
taken_length (Some message) position entry_serial code p within =
    let count = length-remove p.mailbox position within in
    omega (arith, within, count)

took : (l : ProcessEntry) (position entry_serial : ℕ) (code : List Instance) → next_message l.process ≡ Some position → WasTaken position (Some (run position entry_serial code l))
took l position entry_serial code takes =
    let p = l.process in
    let first = (idle_of p.activity (first_taken p.pid p.place p.rests_in p.mailbox) position takes) in
    let within = (position-Some (takes_at p.pid p.place p.rests_in) p.mailbox position (Pid 0) (sym (ap (λ a. awaited_by a (first_taken p.pid p.place p.rests_in p.mailbox)) first.0) ∙ first.1)).0 in (
      taken_length (slice_get p.mailbox position) position entry_serial code p within,
      ap awaited (untaken_some p position entry_serial code takes) ∙ first.1,
    )

-- of the process of a pid
pub run_fits : (o : Option ProcessEntry) (position entry_serial : ℕ) (code : List Instance) → takes_next o ≡ Some position → WasTaken position (option_map (run position entry_serial code) o)
run_fits None position entry_serial code takes = absurd (none-some position takes)
run_fits (Some l) position entry_serial code takes = took l position entry_serial code takes

pub run_back : (slots now : List (Option ProcessEntry)) (t : Table) (pid position entry_serial : ℕ) (code : List Instance) → record { slots = slots } ≡ t → takes_next (living pid t) ≡ Some position → now ≡ changed_slots (run position entry_serial code) pid slots → ◌≡◌ {A = Table} (record { slots = changed_slots (untook position) pid now }) t
run_back slots now t pid position entry_serial code was takes is =
    let here : takes_next (living_at slots pid) ≡ Some position = ap (λ x. takes_next (living pid x)) was ∙ takes in
    let back = slots_back (run position entry_serial code) (untook position) slots pid (λ l there. λ i. record l { process = untaken_some l.process position entry_serial code (sym (ap takes_next there) ∙ here) i }) in
    ap (λ x. record { slots = x }) (ap (changed_slots (untook position) pid) is ∙ back) ∙ was
