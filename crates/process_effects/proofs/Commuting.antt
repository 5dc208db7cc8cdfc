-- Changes of processes that touch different things can be made in either order.
use Rattle.std.proofs.Common.{◌≡◌, ℕ, zero, suc, ◌+◌, Bool, cond, not, nat_lt, List, [], ◌∷◌, position, Option, None, Some, option_map, refl, ap, ◌∙◌}
use Rattle.std.specs.List.{position_or_len}
use Rattle.values.proofs.Edits.{length-changed_at}
use Rattle.process_index.specs.declared.calls.Call.{Call}
use Rattle.process_store.specs.Changes.{call_at, numbered, owner_at, owner_of}
use Rattle.process_store.specs.Vacating.{vacated, vacated_slots}
use Rattle.process_store.specs.declared.living.ProcessEntry.{ProcessEntry}
use Rattle.process_store.specs.Table.{Table, changed, changed_slots, has_number, is_asked, is_name, is_named, living_at, pid_of}

-- two changes of the same process that touch different things of it
pub slots_commute : (f g : ProcessEntry → ProcessEntry) → ((l : ProcessEntry) → f (g l) ≡ g (f l)) → (slots : List (Option ProcessEntry)) (p q : ℕ) → changed_slots f p (changed_slots g q slots) ≡ changed_slots g q (changed_slots f p slots)
slots_commute f g same [] p q = refl
slots_commute f g same (None ∷ ss) zero zero = refl
slots_commute f g same (Some l ∷ ss) zero zero = ap (λ x. Some x ∷ ss) (same l)
slots_commute f g same (s ∷ ss) zero (suc q) = refl
slots_commute f g same (s ∷ ss) (suc p) zero = refl
slots_commute f g same (s ∷ ss) (suc p) (suc q) = ap (λ xs. s ∷ xs) (slots_commute f g same ss p q)

pub changes_commute : (f g : ProcessEntry → ProcessEntry) → ((l : ProcessEntry) → f (g l) ≡ g (f l)) → (t : Table) (p q : ℕ) → changed f p (changed g q t) ≡ changed g q (changed f p t)
changes_commute f g same t p q = ap (λ x. record { slots = x }) (slots_commute f g same t.slots p q)

-- two changes of different processes
slots_apart : (f g : ProcessEntry → ProcessEntry) (slots : List (Option ProcessEntry)) (p q : ℕ) → (p ≡ q → ⊥) → changed_slots f p (changed_slots g q slots) ≡ changed_slots g q (changed_slots f p slots)
slots_apart f g [] p q apart = refl
slots_apart f g (s ∷ ss) zero zero apart = absurd (apart refl)
slots_apart f g (s ∷ ss) zero (suc q) apart = refl
slots_apart f g (s ∷ ss) (suc p) zero apart = refl
slots_apart f g (s ∷ ss) (suc p) (suc q) apart = ap (λ xs. s ∷ xs) (slots_apart f g ss p q (λ e. apart (ap suc e)))

pub changes_apart : (f g : ProcessEntry → ProcessEntry) (t : Table) (p q : ℕ) → (p ≡ q → ⊥) → changed f p (changed g q t) ≡ changed g q (changed f p t)
changes_apart f g t p q apart = ap (λ x. record { slots = x }) (slots_apart f g t.slots p q apart)

-- who is found by a test that a change leaves alone

before_kept : (test : Option ProcessEntry → Bool) (f : ProcessEntry → ProcessEntry) → ((l : ProcessEntry) → test (Some (f l)) ≡ test (Some l)) → (slots : List (Option ProcessEntry)) (p : ℕ) → position_or_len test (changed_slots f p slots) ≡ position_or_len test slots
before_kept test f same [] p = refl
before_kept test f same (None ∷ ss) zero = refl
before_kept test f same (Some l ∷ ss) zero = ap (λ b. cond (not b) (1 + position_or_len test ss) 0) (same l)
before_kept test f same (s ∷ ss) (suc p) = ap (λ n. cond (not (test s)) (1 + n) 0) (before_kept test f same ss p)

position_kept : (test : Option ProcessEntry → Bool) (f : ProcessEntry → ProcessEntry) → ((l : ProcessEntry) → test (Some (f l)) ≡ test (Some l)) → (slots : List (Option ProcessEntry)) (p : ℕ) → position test (changed_slots f p slots) ≡ position test slots
position_kept test f same slots p =
    let before = before_kept test f same slots p in
    let long = length-changed_at (option_map f) slots p in
    λ i. cond (nat_lt (before i) (long i)) (Some (before i)) None

-- what is read of a process, where a change leaves it alone
pub read_kept : {B : Type 0} (read : Option ProcessEntry → B) (f : ProcessEntry → ProcessEntry) → ((l : ProcessEntry) → read (Some (f l)) ≡ read (Some l)) → (slots : List (Option ProcessEntry)) (p q : ℕ) → read (living_at (changed_slots f p slots) q) ≡ read (living_at slots q)
read_kept read f same [] p q = refl
read_kept read f same (None ∷ ss) zero zero = refl
read_kept read f same (Some l ∷ ss) zero zero = same l
read_kept read f same (s ∷ ss) zero (suc q) = refl
read_kept read f same (s ∷ ss) (suc p) zero = refl
read_kept read f same (s ∷ ss) (suc p) (suc q) = read_kept read f same ss p q

-- a change that leaves names alone
pub names_kept : (f : ProcessEntry → ProcessEntry) → ((l : ProcessEntry) → (f l).process.name ≡ l.process.name) → (name : List ℕ) (t : Table) (p : ℕ) → pid_of name (changed f p t) ≡ pid_of name t
names_kept f same name t p = position_kept (is_named name) f (λ l. ap (is_name name) (same l)) t.slots p

-- a change that leaves open calls alone
owner_here : (f : ProcessEntry → ProcessEntry) → ((l : ProcessEntry) → (f l).calls ≡ l.calls) → (number : ℕ) (t : Table) (p : ℕ) (o : Option ℕ) → owner_at number o (changed f p t) ≡ owner_at number o t
owner_here f same number t p None = refl
owner_here f same number t p (Some q) =
    ap (option_map (λ (c : Call). (q, c))) (read_kept (call_at number) f (λ l. ap (numbered number) (same l)) t.slots p q)

pub owners_kept : (f : ProcessEntry → ProcessEntry) → ((l : ProcessEntry) → (f l).calls ≡ l.calls) → (number : ℕ) (t : Table) (p : ℕ) → owner_of number (changed f p t) ≡ owner_of number t
owners_kept f same number t p =
    let who = position_kept (is_asked number) f (λ l. ap (has_number number) (same l)) t.slots p in
    ap (λ o. owner_at number o (changed f p t)) who ∙ owner_here f same number t p (position (is_asked number) t.slots)

-- the process of the pid that is taken out
vacated_slots_changed : (f : ProcessEntry → ProcessEntry) (slots : List (Option ProcessEntry)) (p : ℕ) → vacated_slots p (changed_slots f p slots) ≡ vacated_slots p slots
vacated_slots_changed f [] p = refl
vacated_slots_changed f (s ∷ ss) zero = refl
vacated_slots_changed f (s ∷ ss) (suc p) = ap (λ xs. s ∷ xs) (vacated_slots_changed f ss p)

pub vacated_changed : (f : ProcessEntry → ProcessEntry) (t : Table) (p : ℕ) → vacated p (changed f p t) ≡ vacated p t
vacated_changed f t p = ap (λ x. record { slots = x }) (vacated_slots_changed f t.slots p)
