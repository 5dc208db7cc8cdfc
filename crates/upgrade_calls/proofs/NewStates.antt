-- The states that processes are to get: what the map gives, and what becomes of the processes.
use Rattle.std.proofs.Common.{◌≡◌, inl, inr, ℕ, zero, suc, ◌+◌, ◌<◌, ◌≤◌, true, false, cond, List, [], ◌∷◌, map, Option, None, Some, option_map, refl, sym, ap, subst, ◌∙◌, arith}
use Rattle.std.proofs.lemmas.Bool.{cases_eq}
use Rattle.std.proofs.lemmas.Bool.Decides.{nat_tests}
use Rattle.std.proofs.lemmas.List.Elements.{All-from_recursion}
use Rattle.std.specs.BTreeMap.{insert_entry, is_at}
use Rattle.std.specs.Cmp.{ranks}
use Rattle.std.specs.List.{AllByRecursion}
use Rattle.std.specs.Map.{lookup}
use Rattle.std.specs.Ordering.{MatchOrdering, is_eq, match_ordering, nat_cmp}
use Rattle.std.specs.Prelude.{nat_eq}
use Rattle.std.specs.declared.cmp.Ordering.TheVariants.{Less, Equal, Greater}
use Rattle.erl_term.specs.declared.term.Term.{Term}
use Rattle.process_effects.proofs.Commuting.{changes_apart}
use Rattle.process_store.proofs.Slots.{living_changed, living_elsewhere}
use Rattle.process_store.specs.Changes.{restate_living}
use Rattle.erl_semantics.specs.declared.acts.Place.{Place}
use Rattle.erl_semantics.specs.declared.acts.Place.TheVariants.{Server, Loop}
use Rattle.process.specs.Process.{with_state}
use Rattle.process_store.specs.Table.{Table, changed, changed_slots, living}
use Rattle.process_store.specs.declared.living.ProcessEntry.{ProcessEntry}
use Rattle.process_table.specs.States.{AreApart, all_restated}
use Rattle.process_table.specs.declared.states.StateChange.{StateChange}
use Rattle.upgrade_calls.specs.NewStates.{AreAbove, AreByPid, AreRising, AreWithin, change_of, change_to, turns_in, turns_of, with_new}

-- numbers

same_at : (p q : ℕ) → is_eq (nat_cmp p q) ≡ nat_eq q p
same_at p q = grind (arith, nat_tests)

eq_itself : (p : ℕ) → nat_eq p p ≡ true
eq_itself p = grind (arith, nat_tests)

not_eq : (p q : ℕ) → (p ≡ q → ⊥) → nat_eq p q ≡ false
not_eq p q apart = grind (arith, nat_tests)

-- What is found under a pid.

abbrev changes_in : List (ℕ × StateChange) → List StateChange
changes_in es = map (λ e. e.1) es

pub found : (pid : ℕ) (es : List (ℕ × StateChange)) → AreByPid es → lookup (is_at (nat_cmp pid)) es ≡ change_of pid (changes_in es)
found pid [] by_pid = refl
found pid (e ∷ es) by_pid =
    (λ i. cond (same_at pid e.0 i) (Some e.1) (found pid es by_pid.1 i)) ∙ ap (λ k. cond (nat_eq k pid) (Some e.1) (change_of pid (changes_in es))) (sym by_pid.0)

not_above : (pid : ℕ) (cs : List StateChange) → AreAbove pid cs → change_of pid cs ≡ None
not_above pid [] above = refl
not_above pid (c ∷ cs) above =
    ap (λ b. cond b (Some c) (change_of pid cs)) (not_eq c.pid pid (λ e. absurd (omega (arith, e, above.0)))) ∙ not_above pid cs above.1

above_later : (p q : ℕ) (cs : List StateChange) → p < q → AreAbove q cs → AreAbove p cs
above_later p q [] below above = tt
above_later p q (c ∷ cs) below above = (omega (arith, below, above.0), above_later p q cs below above.1)

-- One more is put.

above_put : (p pid : ℕ) (state : Term) (cs : List StateChange) → p < pid → AreAbove p cs → AreAbove p (with_new pid state cs)
above_put p pid state [] below above = (below, tt)
above_put p pid state (c ∷ cs) below above =
    elim (nat_cmp pid c.pid) as (λ o. AreAbove p (match_ordering o (change_to pid state 1 ∷ c ∷ cs) (change_to pid state (c.turns + 1) ∷ cs) (c ∷ with_new pid state cs))) [
      | Less ↦ (below, above)
      | Equal ↦ (below, above.1)
      | Greater ↦ (above.0, above_put p pid state cs below above.1)
    ]

pub rising_put : (pid : ℕ) (state : Term) (cs : List StateChange) → AreRising cs → AreRising (with_new pid state cs)
rising_put pid state [] rising = (tt, tt)
rising_put pid state (c ∷ cs) rising =
    elim (nat_cmp pid c.pid) as (λ o. MatchOrdering o (pid < c.pid) (pid ≡ c.pid) (c.pid < pid) → AreRising (match_ordering o (change_to pid state 1 ∷ c ∷ cs) (change_to pid state (c.turns + 1) ∷ cs) (c ∷ with_new pid state cs))) [
      | Less ↦ λ below. ((below, above_later pid c.pid cs below rising.0), rising)
      | Equal ↦ λ same. (subst (λ k. AreAbove k cs) (sym same) rising.0, rising.1)
      | Greater ↦ λ above. (above_put c.pid pid state cs above rising.0, rising_put pid state cs rising.1)
    ] (ranks pid c.pid)

within_more : (most : ℕ) (cs : List StateChange) → AreWithin most cs → AreWithin (most + 1) cs
within_more most [] within = tt
within_more most (c ∷ cs) within = (omega (arith, within.0), within_more most cs within.1)

pub within_put : (pid : ℕ) (state : Term) (most : ℕ) (cs : List StateChange) → AreWithin most cs → AreWithin (most + 1) (with_new pid state cs)
within_put pid state most [] within = (omega arith, tt)
within_put pid state most (c ∷ cs) within =
    elim (nat_cmp pid c.pid) as (λ o. AreWithin (most + 1) (match_ordering o (change_to pid state 1 ∷ c ∷ cs) (change_to pid state (c.turns + 1) ∷ cs) (c ∷ with_new pid state cs))) [
      | Less ↦ (omega arith, within_more most (c ∷ cs) within)
      | Equal ↦ (omega (arith, within.0), within_more most cs within.1)
      | Greater ↦ (omega (arith, within.0), within_put pid state most cs within.1)
    ]

pub turns_within : (pid most : ℕ) (cs : List StateChange) → AreWithin most cs → turns_of pid cs ≤ most
turns_within pid most [] within = omega arith
turns_within pid most (c ∷ cs) within =
    elim (nat_eq c.pid pid) as (λ b. turns_in (cond b (Some c) (change_of pid cs)) ≤ most) [ true ↦ within.0 | false ↦ turns_within pid most cs within.1 ]

pub by_pid_put : (pid turns : ℕ) (state : Term) (es : List (ℕ × StateChange)) → AreByPid es → AreByPid (insert_entry nat_cmp es pid (change_to pid state turns))
by_pid_put pid turns state [] by_pid = (refl, tt)
by_pid_put pid turns state (e ∷ es) by_pid =
    elim (nat_cmp pid e.0) as (λ o. MatchOrdering o (pid < e.0) (pid ≡ e.0) (e.0 < pid) → AreByPid (match_ordering o ((pid, change_to pid state turns) ∷ e ∷ es) ((e.0, change_to pid state turns) ∷ es) (e ∷ insert_entry nat_cmp es pid (change_to pid state turns)))) [
      | Less ↦ λ below. (refl, by_pid)
      | Equal ↦ λ same. (same, by_pid.1)
      | Greater ↦ λ above. (by_pid.0, by_pid_put pid turns state es by_pid.1)
    ] (ranks pid e.0)

pub put : (pid turns : ℕ) (state : Term) (es : List (ℕ × StateChange)) → AreByPid es → AreRising (changes_in es) → turns ≡ turns_of pid (changes_in es) + 1 → changes_in (insert_entry nat_cmp es pid (change_to pid state turns)) ≡ with_new pid state (changes_in es)
put pid turns state [] by_pid rising is = ap (λ n. change_to pid state n ∷ []) is
put pid turns state (e ∷ es) by_pid rising is =
    let new = change_to pid state turns in
    let cs = changes_in es in
    subst (λ k. changes_in (insert_entry nat_cmp (e ∷ es) pid new) ≡ match_ordering (nat_cmp pid k) (change_to pid state 1 ∷ e.1 ∷ cs) (change_to pid state (e.1.turns + 1) ∷ cs) (e.1 ∷ with_new pid state cs)) (sym by_pid.0)
    (elim (nat_cmp pid e.0) as (λ o. MatchOrdering o (pid < e.0) (pid ≡ e.0) (e.0 < pid) → changes_in (match_ordering o ((pid, new) ∷ e ∷ es) ((e.0, new) ∷ es) (e ∷ insert_entry nat_cmp es pid new)) ≡ match_ordering o (change_to pid state 1 ∷ e.1 ∷ cs) (change_to pid state (e.1.turns + 1) ∷ cs) (e.1 ∷ with_new pid state cs)) [
      | Less ↦ λ below.
          let none = not_above pid (e.1 ∷ cs) (omega (arith, below, by_pid.0), above_later pid e.1.pid cs (omega (arith, below, by_pid.0)) rising.0) in
          ap (λ n. change_to pid state n ∷ e.1 ∷ cs) (is ∙ ap (λ o. turns_in o + 1) none)
      | Equal ↦ λ same.
          let here : nat_eq e.1.pid pid ≡ true = ap (λ k. nat_eq k pid) (by_pid.0 ∙ sym same) ∙ eq_itself pid in
          ap (λ n. change_to pid state n ∷ cs) (is ∙ ap (λ b. turns_in (cond b (Some e.1) (change_of pid cs)) + 1) here)
      | Greater ↦ λ above.
          let elsewhere : nat_eq e.1.pid pid ≡ false = not_eq e.1.pid pid (λ s. absurd (omega (arith, s, above, by_pid.0))) in
          ap (λ xs. e.1 ∷ xs) (put pid turns state es by_pid.1 rising.1 (is ∙ ap (λ b. turns_in (cond b (Some e.1) (change_of pid cs)) + 1) elsewhere))
    ] (ranks pid e.0))

-- No two are of one process.

apart_above : (pid : ℕ) (cs : List StateChange) → AreAbove pid cs → AllByRecursion (λ (d : StateChange). pid ≡ d.pid → ⊥) cs
apart_above pid [] above = tt
apart_above pid (c ∷ cs) above = ((λ e. absurd (omega (arith, e, above.0))), apart_above pid cs above.1)

pub apart : (cs : List StateChange) → AreRising cs → AreApart cs
apart [] rising = tt
apart (c ∷ cs) rising = (All-from_recursion (λ (d : StateChange). c.pid ≡ d.pid → ⊥) cs (apart_above c.pid cs rising.0), apart cs rising.1)

-- What becomes of the processes.

-- a state of a process goes before those of others, or behind them
state_later : (pid turns : ℕ) (state : Term) (cs : List StateChange) (t : Table) → AreAbove pid cs → all_restated cs (changed (restate_living state turns) pid t) ≡ changed (restate_living state turns) pid (all_restated cs t)
state_later pid turns state [] t above = refl
state_later pid turns state (c ∷ cs) t above =
    ap (all_restated cs) (changes_apart (restate_living c.state c.turns) (restate_living state turns) t c.pid pid (λ e. absurd (omega (arith, e, above.0))))
    ∙ state_later pid turns state cs (changed (restate_living c.state c.turns) c.pid t) above.1

with_state_twice : (s r : Term) (at : Place) → with_state r (with_state s at) ≡ with_state r at
with_state_twice s r (Server m state) = refl
with_state_twice s r (Loop m serial f args) = refl

-- two states of one process are the last of them, with the turns of both
restated_twice : (s r : Term) (a b : ℕ) (l : ProcessEntry) → restate_living r b (restate_living s a l) ≡ restate_living r (a + b) l
restated_twice s r a b l =
    let turn : l.process.turn + a + b ≡ l.process.turn + (a + b) = omega arith in
    λ i. record l { process = record l.process { place = with_state_twice s r l.process.place i; turn = turn i } }

slots_twice : (f g h : ProcessEntry → ProcessEntry) → ((l : ProcessEntry) → g (f l) ≡ h l) → (slots : List (Option ProcessEntry)) (p : ℕ) → changed_slots g p (changed_slots f p slots) ≡ changed_slots h p slots
slots_twice f g h both [] p = refl
slots_twice f g h both (None ∷ ss) zero = refl
slots_twice f g h both (Some l ∷ ss) zero = ap (λ x. Some x ∷ ss) (both l)
slots_twice f g h both (s ∷ ss) (suc p) = ap (λ xs. s ∷ xs) (slots_twice f g h both ss p)

twice : (s r : Term) (a b pid : ℕ) (t : Table) → changed (restate_living r b) pid (changed (restate_living s a) pid t) ≡ changed (restate_living r (a + b)) pid t
twice s r a b pid t = ap (λ x. record { slots = x }) (slots_twice (restate_living s a) (restate_living r b) (restate_living r (a + b)) (restated_twice s r a b) t.slots pid)

-- To put one more state is to give it behind the others.
pub put_restated : (pid : ℕ) (state : Term) (cs : List StateChange) (t : Table) → AreRising cs → all_restated (with_new pid state cs) t ≡ changed (restate_living state 1) pid (all_restated cs t)
put_restated pid state [] t rising = refl
put_restated pid state (c ∷ cs) t rising =
    let before = changed (restate_living c.state c.turns) c.pid t in
    elim (nat_cmp pid c.pid) as (λ o. MatchOrdering o (pid < c.pid) (pid ≡ c.pid) (c.pid < pid) → all_restated (match_ordering o (change_to pid state 1 ∷ c ∷ cs) (change_to pid state (c.turns + 1) ∷ cs) (c ∷ with_new pid state cs)) t ≡ changed (restate_living state 1) pid (all_restated (c ∷ cs) t)) [
      | Less ↦ λ below. state_later pid 1 state (c ∷ cs) t (below, above_later pid c.pid cs below rising.0)
      | Equal ↦ λ same.
          ap (all_restated cs) (sym (twice c.state state c.turns 1 pid t) ∙ ap (λ k. changed (restate_living state 1) pid (changed (restate_living c.state c.turns) k t)) same)
          ∙ state_later pid 1 state cs before (subst (λ k. AreAbove k cs) (sym same) rising.0)
      | Greater ↦ λ above. put_restated pid state cs before rising.1
    ] (ranks pid c.pid)

-- Each process has the state that it was to get.

abbrev pub restated_by : Option StateChange → ProcessEntry → ProcessEntry
restated_by None l = l
restated_by (Some c) l = restate_living c.state c.turns l

map_same : (o : Option ProcessEntry) → o ≡ option_map (restated_by None) o
map_same None = refl
map_same (Some l) = refl

pub restated : (p : ℕ) (cs : List StateChange) (t : Table) → AreRising cs → living p (all_restated cs t) ≡ option_map (restated_by (change_of p cs)) (living p t)
restated p [] t rising = map_same (living p t)
restated p (c ∷ cs) t rising =
    let f = restate_living c.state c.turns in
    restated p cs (changed f c.pid t) rising.1
    ∙ elim (cases_eq c.pid p) [
      | inl same ↦
          let none = not_above p cs (subst (λ k. AreAbove k cs) same rising.0) in
          let here = ap (λ k. nat_eq k p) same ∙ eq_itself p in
          ap (λ o. option_map (restated_by o) (living p (changed f c.pid t))) none
          ∙ sym (map_same (living p (changed f c.pid t)))
          ∙ ap (λ k. living p (changed f k t)) same
          ∙ living_changed f t.slots p
          ∙ ap (λ b. option_map (restated_by (cond b (Some c) (change_of p cs))) (living p t)) (sym here)
      | inr other ↦
          ap (option_map (restated_by (change_of p cs))) (living_elsewhere f t.slots c.pid p other)
          ∙ ap (λ b. option_map (restated_by (cond b (Some c) (change_of p cs))) (living p t)) (sym (not_eq c.pid p other))
    ]

-- each state is found

abbrev pub AllFound : List StateChange → List StateChange → Type 0
AllFound cs ds = AllByRecursion (λ (d : StateChange). change_of d.pid cs ≡ Some d) ds

later_found : (c : StateChange) (cs ds : List StateChange) → AreAbove c.pid ds → AllFound cs ds → AllFound (c ∷ cs) ds
later_found c cs [] above all = tt
later_found c cs (d ∷ ds) above all =
    (ap (λ b. cond b (Some c) (change_of d.pid cs)) (not_eq c.pid d.pid (λ e. absurd (omega (arith, e, above.0)))) ∙ all.0, later_found c cs ds above.1 all.1)

pub all_found : (cs : List StateChange) → AreRising cs → AllFound cs cs
all_found [] rising = tt
all_found (c ∷ cs) rising =
    (ap (λ b. cond b (Some c) (change_of c.pid cs)) (eq_itself c.pid), later_found c cs cs rising.0 (all_found cs rising.1))
