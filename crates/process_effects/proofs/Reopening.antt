-- Whether calls can be open again depends on who lives and on the open calls alone, and on nothing else of the processes.
use Rattle.std.proofs.Common.{◌≡◌, ℕ, zero, suc, ◌+◌, Bool, false, cond, not, nat_lt, List, [], ◌∷◌, map, position, slice_get, Option, None, Some, IsSome, is_some, option_and_then, option_map, refl, sym, ap, subst, ◌∙◌}
use Rattle.std.proofs.lemmas.List.{length-map}
use Rattle.std.proofs.lemmas.Bool.{true≢false}
use Rattle.std.proofs.lemmas.Option.{none-some}
use Rattle.std.specs.List.{position_or_len}
use Rattle.values.specs.Edits.{changed_at}
use Rattle.erl_ir.specs.Module.{Forms}
use Rattle.code_server.specs.Modules.{Table as Loaded}
use Rattle.process.specs.declared.named.CodeRef.{CodeRef}
use Rattle.process.specs.Ended.{ended_with, lives}
use Rattle.process_effects.proofs.OwnMessages.{calls_at}
use Rattle.process_effects.specs.Parted.{AllReopen, all_reopened}
use Rattle.process_effects.specs.declared.answers.Closed.{Closed}
use Rattle.process_effects.specs.Ends.{Lives, ended_as, returned, with_returned}
use Rattle.process_index.specs.Calls.{with_call}
use Rattle.process_index.specs.declared.calls.Call.{Call}
use Rattle.process_store.specs.Changes.{reopened, reopened_living}
use Rattle.process_store.specs.Table.{Table, changed_slots, has_number, is_asked, is_open, living, living_at}
use Rattle.process_store.specs.Vacating.{occupied, occupied_slots}
use Rattle.process_store.specs.declared.living.ProcessEntry.{ProcessEntry}

-- Two tables in which the same pids live, with the same open calls.
abbrev SameCalls : Table → Table → Type 0
SameCalls t u = map calls_at t.slots ≡ map calls_at u.slots

calls_found : (slots : List (Option ProcessEntry)) (pid : ℕ) → calls_at (living_at slots pid) ≡ option_and_then (λ (o : Option (List Call)). o) (slice_get (map calls_at slots) pid)
calls_found [] pid = refl
calls_found (s ∷ ss) zero = refl
calls_found (s ∷ ss) (suc pid) = calls_found ss pid

some_calls : (o p : Option ProcessEntry) → calls_at o ≡ calls_at p → IsSome o → IsSome p
some_calls None p same some = absurd (true≢false (sym some))
some_calls (Some l) None same some = absurd (none-some l.calls (sym same))
some_calls (Some l) (Some k) same some = refl

same_lives : (t u : Table) (pid : ℕ) → SameCalls t u → IsSome (living pid t) → IsSome (living pid u)
same_lives t u pid same some =
    let here = calls_found t.slots pid ∙ ap (λ xs. option_and_then (λ (o : Option (List Call)). o) (slice_get xs pid)) same ∙ sym (calls_found u.slots pid) in
    some_calls (living pid t) (living pid u) here some

abbrev asks : ℕ → Option (List Call) → Bool
asks number None = false
asks number (Some cs) = has_number number cs

asked_by_calls : (number : ℕ) (o : Option ProcessEntry) → is_asked number o ≡ asks number (calls_at o)
asked_by_calls number None = refl
asked_by_calls number (Some l) = refl

before_by_calls : (number : ℕ) (slots : List (Option ProcessEntry)) → position_or_len (is_asked number) slots ≡ position_or_len (asks number) (map calls_at slots)
before_by_calls number [] = refl
before_by_calls number (s ∷ ss) =
    ap (λ b. cond (not b) (1 + position_or_len (is_asked number) ss) 0) (asked_by_calls number s) ∙ ap (λ n. cond (not (asks number (calls_at s))) (1 + n) 0) (before_by_calls number ss)

open_by_calls : (number : ℕ) (t : Table) → is_open number t ≡ is_some (position (asks number) (map calls_at t.slots))
open_by_calls number t =
    let before = before_by_calls number t.slots in
    let long = sym (length-map t.slots calls_at) in
    λ i. is_some (cond (nat_lt (before i) (long i)) (Some (before i)) None)

same_open : (t u : Table) (number : ℕ) → SameCalls t u → is_open number t ≡ is_open number u
same_open t u number same =
    open_by_calls number t ∙ ap (λ xs. is_some (position (asks number) xs)) same ∙ sym (open_by_calls number u)

reopened_calls : (c : Call) (slots : List (Option ProcessEntry)) (pid : ℕ) → map calls_at (changed_slots (reopened_living c) pid slots) ≡ changed_at (option_map (with_call c)) (map calls_at slots) pid
reopened_calls c [] pid = refl
reopened_calls c (None ∷ ss) zero = refl
reopened_calls c (Some l ∷ ss) zero = refl
reopened_calls c (s ∷ ss) (suc pid) = ap (λ xs. calls_at s ∷ xs) (reopened_calls c ss pid)

reopened_same : (c : Call) (t u : Table) (pid : ℕ) → SameCalls t u → SameCalls (reopened pid c t) (reopened pid c u)
reopened_same c t u pid same =
    reopened_calls c t.slots pid ∙ ap (λ xs. changed_at (option_map (with_call c)) xs pid) same ∙ sym (reopened_calls c u.slots pid)

all_reopened_same : (cs : List Closed) (t u : Table) → SameCalls t u → SameCalls (all_reopened cs t) (all_reopened cs u)
all_reopened_same [] t u same = same
all_reopened_same (c ∷ cs) t u same =
    reopened_same c.call (all_reopened cs t) (all_reopened cs u) c.pid (all_reopened_same cs t u same)

pub reopens_same : (cs : List Closed) (t u : Table) → SameCalls t u → AllReopen cs t → AllReopen cs u
reopens_same [] t u same all = tt
reopens_same (c ∷ cs) t u same all =
    let then_same = all_reopened_same cs t u same in (
      reopens_same cs t u same all.0,
      (same_lives (all_reopened cs t) (all_reopened cs u) c.pid then_same all.1.0, sym (same_open (all_reopened cs t) (all_reopened cs u) c.call.number then_same) ∙ all.1.1),
    )

occupied_calls : (k l : ProcessEntry) → k.calls ≡ l.calls → (slots : List (Option ProcessEntry)) (pid : ℕ) → map calls_at (occupied_slots pid k slots) ≡ map calls_at (occupied_slots pid l slots)
occupied_calls k l same [] pid = refl
occupied_calls k l same (s ∷ ss) zero = ap (λ cs. Some cs ∷ map calls_at ss) same
occupied_calls k l same (s ∷ ss) (suc pid) = ap (λ xs. calls_at s ∷ xs) (occupied_calls k l same ss pid)

-- a process that lives again, over whatever table of modules, has the calls that it had
pub returned_reopens : (modules : Loaded Forms) (pid : ℕ) (rests_in : Option CodeRef) (code : List CodeRef) (l : ProcessEntry) (after mid : Table) (closed : List Closed) → occupied pid l after ≡ mid → AllReopen closed mid → Lives modules (ended_as pid rests_in code l) → AllReopen closed (returned modules (ended_as pid rests_in code l) after)
returned_reopens modules pid rests_in code l after mid closed back fits alive =
    elim (lives modules (ended_with rests_in code l.process)) as (λ o. IsSome o → AllReopen closed (with_returned o pid l.calls after)) [
      | None ↦ λ some. absurd (true≢false (sym some))
      | Some p ↦ λ some. reopens_same closed (occupied pid l after) (occupied pid (record { process = p; calls = l.calls }) after) (occupied_calls l (record { process = p; calls = l.calls }) refl after.slots pid) (subst (AllReopen closed) (sym back) fits)
    ] alive
