-- A message arrives, and the arrival is taken back.
use Rattle.std.proofs.Common.{◌≡◌, ℕ, ◌-◌, false, ◌||◌, List, [], ◌∷◌, ◌++◌, length, take, Option, None, Some, IfSome, IsSome, is_some, option_map, refl, sym, ap, subst, ◌∙◌, arith}
use Rattle.std.proofs.lemmas.Grind.{common_steps}
use Rattle.std.specs.FinMap.{get}
use Rattle.values.proofs.Edits.{last_index, take-end}
use Rattle.erl_term.specs.declared.term.Term.{Term}
use Rattle.process.specs.Process.{ProcessState, delivered, undelivered}
use Rattle.process_index.proofs.OpenCalls.{has-with_call, same_itself, without-with_call}
use Rattle.process_index.specs.Calls.{has}
use Rattle.process_index.specs.Index.{Names}
use Rattle.process_index.specs.Numbers.{Owners}
use Rattle.process_index.specs.declared.calls.Call.{Call}
use Rattle.process_store.specs.declared.living.ProcessEntry.{ProcessEntry}
use Rattle.process_store.specs.Indexed.{IsIndexed, answered, asked_of}
use Rattle.process_store.specs.Living.{arrived, unarrived}
use Rattle.process_store.specs.Table.{Table, changed_slots, is_open, living_at}
use Rattle.process_store.specs.Inverses.{WasCalled}
use Rattle.process_store.proofs.Indexes.{IsIndexed-closed, IsIndexed-kept, IsIndexed-opened, asked_by_index, unasked_now}
use Rattle.process_store.proofs.Slots.{living_changed, slots_back}

nobody_lives : IsSome {T = ProcessEntry} None → ⊥
nobody_lives e = grind (arith, common_steps, e)

none_from_test : {A : Type 0} (o : Option A) → is_some o ≡ false → o ≡ None
none_from_test None e = refl
none_from_test (Some x) e = absurd (grind (arith, common_steps, e))

-- a number that is not open, in the index and among the calls of a process

pub free_number : (names : Names) (open_calls : Owners) (slots : List (Option ProcessEntry)) (t : Table) (number : ℕ) → IsIndexed names open_calls slots → record { slots = slots } ≡ t → is_open number t ≡ false → get open_calls number ≡ None
free_number names open_calls slots t number indexed is shut = none_from_test (get open_calls number) (asked_by_index names open_calls slots t number indexed is ∙ shut)

pub uncalled : (names : Names) (open_calls : Owners) (slots : List (Option ProcessEntry)) (t : Table) (c : Call) (pid : ℕ) → IsIndexed names open_calls slots → record { slots = slots } ≡ t → is_open c.number t ≡ false → IfSome (living_at slots pid) (λ l. has c l.calls ≡ false)
uncalled names open_calls slots t c pid indexed is shut =
    elim (living_at slots pid) as (λ o. living_at slots pid ≡ o → IfSome o (λ l. has c l.calls ≡ false)) [
      | None ↦ λ e. tt
      | Some l ↦ λ e. unasked_now c pid (get open_calls c.number) (free_number names open_calls slots t c.number indexed is shut) (living_at slots pid) l (indexed.asked c.number c.client pid) e
    ] refl

-- what has come goes again

delivered_back : (message : Term) (p : ProcessState) → undelivered (delivered message p) ≡ p
delivered_back message p =
    let e : take (length (p.mailbox ++ message ∷ []) - 1) (p.mailbox ++ message ∷ []) ≡ p.mailbox = ap (λ n. take n (p.mailbox ++ message ∷ [])) (last_index p.mailbox message) ∙ take-end p.mailbox message in
    λ i. record p { mailbox = e i }

pub arrived_back : (message : Term) (call : Option Call) (l : ProcessEntry) → IfSome call (λ c. has c l.calls ≡ false) → unarrived call (arrived message call l) ≡ l
arrived_back message None l free = λ i. record l { process = delivered_back message l.process i }
arrived_back message (Some c) l free = λ i. record { process = delivered_back message l.process i; calls = without-with_call c l.calls free i }

asked_first : (call : Option Call) (o : Option ProcessEntry) (l : ProcessEntry) → IfSome call (λ c. IfSome o (λ x. has c x.calls ≡ false)) → o ≡ Some l → IfSome call (λ c. has c l.calls ≡ false)
asked_first None o l free is = tt
asked_first (Some c) o l free is = subst (λ x. IfSome x (λ y. has c y.calls ≡ false)) is free

pub slots_arrived_back : (message : Term) (call : Option Call) (slots : List (Option ProcessEntry)) (pid : ℕ) → IfSome call (λ c. IfSome (living_at slots pid) (λ x. has c x.calls ≡ false)) → changed_slots (unarrived call) pid (changed_slots (arrived message call) pid slots) ≡ slots
slots_arrived_back message call slots pid free = slots_back (arrived message call) (unarrived call) slots pid (λ l is. arrived_back message call l (asked_first call (living_at slots pid) l free is))

pub table_arrived_back : (message : Term) (call : Option Call) (slots now : List (Option ProcessEntry)) (pid : ℕ) (t : Table) → now ≡ changed_slots (arrived message call) pid slots → IfSome call (λ c. IfSome (living_at slots pid) (λ x. has c x.calls ≡ false)) → record { slots = slots } ≡ t → ◌≡◌ {A = Table} (record { slots = changed_slots (unarrived call) pid now }) t
table_arrived_back message call slots now pid t is free was =
    ap (λ x. record { slots = x }) (ap (changed_slots (unarrived call) pid) is ∙ slots_arrived_back message call slots pid free) ∙ was

-- what the undo of an arrival needs

called_of : (message : Term) (call : Option Call) (o : Option ProcessEntry) → IsSome o → WasCalled call (option_map (arrived message call) o)
called_of message call None lives = absurd (nobody_lives lives)
called_of message None (Some l) lives = tt
called_of message (Some c) (Some l) lives = has-with_call c c l.calls ∙ ap (λ b. b || has c l.calls) (same_itself c)

pub arrived_fits : (message : Term) (call : Option Call) (slots now : List (Option ProcessEntry)) (pid : ℕ) → now ≡ changed_slots (arrived message call) pid slots → IsSome (living_at slots pid) → WasCalled call (living_at now pid)
arrived_fits message call slots now pid is lives =
    subst (WasCalled call) (sym (ap (λ x. living_at x pid) is ∙ living_changed (arrived message call) slots pid)) (called_of message call (living_at slots pid) lives)

-- the indexes

pub arrived_indexed : (message : Term) (names : Names) (open_calls after : Owners) (slots now : List (Option ProcessEntry)) (call : Option Call) (pid : ℕ) → IsIndexed names open_calls slots → IsSome (living_at slots pid) → IfSome call (λ c. get open_calls c.number ≡ None) → after ≡ asked_of pid call open_calls → now ≡ changed_slots (arrived message call) pid slots → IsIndexed names after now
arrived_indexed message names open_calls after slots now None pid indexed lives free was is =
    subst (λ o. IsIndexed names o now) (sym was) (subst (IsIndexed names open_calls) (sym is) (IsIndexed-kept (arrived message None) (λ l. refl) (λ l. refl) (λ l. refl) names open_calls slots pid indexed))
arrived_indexed message names open_calls after slots now (Some c) pid indexed lives free was is =
    elim (living_at slots pid) as (λ o. living_at slots pid ≡ o → IsSome o → IsIndexed names after now) [
      | None ↦ λ e none. absurd (nobody_lives none)
      | Some l ↦ λ e some. subst (λ o. IsIndexed names o now) (sym was) (subst (IsIndexed names (asked_of pid (Some c) open_calls)) (sym is) (IsIndexed-opened (arrived message (Some c)) c (λ x. refl) (λ x. refl) (λ x. refl) names open_calls slots pid l indexed e free))
    ] refl lives

pub unarrived_indexed : (names : Names) (open_calls after : Owners) (slots now : List (Option ProcessEntry)) (call : Option Call) (pid : ℕ) → IsIndexed names open_calls slots → WasCalled call (living_at slots pid) → after ≡ answered call open_calls → now ≡ changed_slots (unarrived call) pid slots → IsIndexed names after now
unarrived_indexed names open_calls after slots now None pid indexed called was is =
    subst (λ o. IsIndexed names o now) (sym was) (subst (IsIndexed names open_calls) (sym is) (IsIndexed-kept (unarrived None) (λ l. refl) (λ l. refl) (λ l. refl) names open_calls slots pid indexed))
unarrived_indexed names open_calls after slots now (Some c) pid indexed called was is =
    elim (living_at slots pid) as (λ o. living_at slots pid ≡ o → WasCalled (Some c) o → IsIndexed names after now) [
      | None ↦ λ e none. absurd none
      | Some l ↦ λ e asked. subst (λ o. IsIndexed names o now) (sym was) (subst (IsIndexed names (answered (Some c) open_calls)) (sym is) (IsIndexed-closed (unarrived (Some c)) c (λ x. refl) (λ x. refl) (λ x. refl) names open_calls slots pid l indexed e asked))
    ] refl called
