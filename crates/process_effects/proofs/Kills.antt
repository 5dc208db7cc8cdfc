-- The processes without the users of an instance are those from which each user has left.
use Rattle.std.proofs.Common.{◌≡◌, ℕ, zero, suc, ◌+◌, Bool, true, false, cond, List, [], ◌∷◌, length, map, Option, None, refl, ap, ◌∙◌, arith}
use Rattle.std.specs.List.{filter, range_with_len}
use Rattle.process_effects.specs.Ends.{all_vacated}
use Rattle.process_effects.specs.Kills.{unless_uses, without_users}
use Rattle.process_effects.specs.Uses.{users, uses}
use Rattle.process_store.specs.declared.living.ProcessEntry.{ProcessEntry}
use Rattle.process_store.specs.Table.{Table, living_at}
use Rattle.process_store.specs.Vacating.{vacated}

-- the pids behind the first

range_suc : (a n : ℕ) → range_with_len (a + 1) n ≡ map suc (range_with_len a n)
range_suc a zero = refl
range_suc a (suc n) =
    let e : a + 1 ≡ suc a = omega arith in
    (λ i. e i ∷ range_suc (a + 1) n i)

filter_suc : (test : ℕ → Bool) (xs : List ℕ) → filter test (map suc xs) ≡ map suc (filter (λ x. test (suc x)) xs)
filter_suc test [] = refl
filter_suc test (x ∷ xs) =
    elim (test (suc x)) as (λ b. cond b (suc x ∷ filter test (map suc xs)) (filter test (map suc xs)) ≡ map suc (cond b (x ∷ filter (λ y. test (suc y)) xs) (filter (λ y. test (suc y)) xs))) [
      | true ↦ ap (λ ys. suc x ∷ ys) (filter_suc test xs)
      | false ↦ filter_suc test xs
    ]

vacated_behind : (pids : List ℕ) (s : Option ProcessEntry) (ss : List (Option ProcessEntry)) → all_vacated (map suc pids) (record { slots = s ∷ ss }) ≡ record { slots = s ∷ (all_vacated pids (record { slots = ss })).slots }
vacated_behind [] s ss = refl
vacated_behind (pid ∷ pids) s ss = ap (vacated (suc pid)) (vacated_behind pids s ss)

first_killed : (b : Bool) (pids : List ℕ) (s : Option ProcessEntry) (ss rest : List (Option ProcessEntry)) → all_vacated pids (record { slots = s ∷ ss }) ≡ record { slots = s ∷ rest } → all_vacated (cond b (0 ∷ pids) pids) (record { slots = s ∷ ss }) ≡ record { slots = cond b None s ∷ rest }
first_killed true pids s ss rest is = ap (vacated 0) is
first_killed false pids s ss rest is = is

users_leave_slots : (serial : ℕ) (slots : List (Option ProcessEntry)) → all_vacated (filter (λ pid. uses serial (living_at slots pid)) (range_with_len 0 (length slots))) (record { slots = slots }) ≡ record { slots = map (unless_uses serial) slots }
users_leave_slots serial [] = refl
users_leave_slots serial (s ∷ ss) =
    let left = filter (λ pid. uses serial (living_at ss pid)) (range_with_len 0 (length ss)) in
    let behind : filter (λ pid. uses serial (living_at (s ∷ ss) pid)) (range_with_len (0 + 1) (length ss)) ≡ map suc left = ap (filter (λ pid. uses serial (living_at (s ∷ ss) pid))) (range_suc 0 (length ss)) ∙ filter_suc (λ pid. uses serial (living_at (s ∷ ss) pid)) (range_with_len 0 (length ss)) in
    first_killed (uses serial s) (filter (λ pid. uses serial (living_at (s ∷ ss) pid)) (range_with_len (0 + 1) (length ss))) s ss (map (unless_uses serial) ss)
    (ap (λ pids. all_vacated pids (record { slots = s ∷ ss })) behind ∙ vacated_behind left s ss ∙ ap (λ (t : Table). record { slots = s ∷ t.slots }) (users_leave_slots serial ss))

pub users_leave : (serial : ℕ) (t : Table) → all_vacated (users serial t) t ≡ without_users serial t
users_leave serial t = users_leave_slots serial t.slots
