-- A process is taken out of the table, with its name and its open calls, and put back into its slot.
use Rattle.std.proofs.Common.{◌≡◌, ℕ, zero, suc, ◌<◌, Bool, true, false, cond, inl, inr, nat_eq, List, [], ◌∷◌, length, slice_get, Option, None, Some, IfSome, is_some, option_and_then, refl, sym, ap, subst, ◌∙◌, arith, ◌||◌, ◌&&◌}
use Rattle.std.proofs.lemmas.Bool.{eqb-true, false_from_ne_true, or_left, or_right, true≢false}
use Rattle.std.proofs.lemmas.Bool.Decides.{eqb_tells, nat_tests}
use Rattle.std.proofs.lemmas.Grind.{common_steps}
use Rattle.std.proofs.lemmas.Option.{none-some, same_Some}
use Rattle.std.specs.FinMap.{get}
use Rattle.values.specs.Edits.{changed_at}
use Rattle.process_index.proofs.Index.{names_here, names_kept, names_later, names_read, numbers_apart, numbers_read, same_index}
use Rattle.process_index.proofs.OpenCalls.{same_call, same_itself}
use Rattle.process_index.specs.Calls.{AreInOrder, has, is_same}
use Rattle.process_index.specs.declared.calls.Call.{Call}
use Rattle.process_index.specs.Index.{Names, put}
use Rattle.process_index.specs.Numbers.{Owners}
use Rattle.process_index.specs.declared.numbers.Owner.{Owner}
use Rattle.process_store.specs.declared.living.ProcessEntry.{ProcessEntry}
use Rattle.process_store.specs.Indexed.{HasPid, IsIndexed, is_asked_by, is_owner, is_pid, registered, unregistered}
use Rattle.process_store.specs.Table.{Table, has_number, is_name, is_named, living_at, pid_of}
use Rattle.process_store.specs.Vacating.{AreFreeNumbers, AreOfOwnNumbers, CanReturn, HasFreeCalls, HasFreeName, IsFreeName, IsSameElsewhere, all_answered, all_asked, occupied_slots, vacated_slots}
use Rattle.process_store.proofs.Arriving.{free_number}
use Rattle.process_store.proofs.Indexes.{asked_by_index, asked_calls, named_by_index, other_pid, owner_told, same_name}

-- Slots

-- where nobody lives, nothing changes
pub vacated_nobody : (slots : List (Option ProcessEntry)) (pid : ℕ) → living_at slots pid ≡ None → vacated_slots pid slots ≡ slots
vacated_nobody [] pid is = refl
vacated_nobody (s ∷ ss) zero is = ap (λ o. o ∷ ss) (sym is)
vacated_nobody (s ∷ ss) (suc pid) is = ap (λ xs. s ∷ xs) (vacated_nobody ss pid is)

-- who lives there then, and elsewhere

pub living_vacated : (slots : List (Option ProcessEntry)) (pid : ℕ) → living_at (vacated_slots pid slots) pid ≡ None
living_vacated [] pid = refl
living_vacated (s ∷ ss) zero = refl
living_vacated (s ∷ ss) (suc pid) = living_vacated ss pid

pub vacant_within : (slots : List (Option ProcessEntry)) (pid : ℕ) → slice_get slots pid ≡ Some None → pid < length slots
vacant_within [] pid vacant = absurd (none-some None vacant)
vacant_within (s ∷ ss) zero vacant = omega arith
vacant_within (s ∷ ss) (suc pid) vacant = let below = vacant_within ss pid vacant in omega (arith, below)

pub living_occupied : (l : ProcessEntry) (slots : List (Option ProcessEntry)) (pid : ℕ) → slice_get slots pid ≡ Some None → living_at (occupied_slots pid l slots) pid ≡ Some l
living_occupied l [] pid vacant = absurd (none-some None vacant)
living_occupied l (s ∷ ss) zero vacant = refl
living_occupied l (s ∷ ss) (suc pid) vacant = living_occupied l ss pid vacant

pub other_slot : (f : Option ProcessEntry → Option ProcessEntry) (slots : List (Option ProcessEntry)) (pid q : ℕ) → (pid ≡ q → ⊥) → living_at (changed_at f slots pid) q ≡ living_at slots q
other_slot f [] pid q apart = refl
other_slot f (s ∷ ss) zero zero apart = absurd (apart refl)
other_slot f (s ∷ ss) zero (suc q) apart = refl
other_slot f (s ∷ ss) (suc pid) zero apart = refl
other_slot f (s ∷ ss) (suc pid) (suc q) apart = other_slot f ss pid q (λ e. apart (ap suc e))

-- one takes the other back

vacated_slot : (slots : List (Option ProcessEntry)) (pid : ℕ) (l : ProcessEntry) → living_at slots pid ≡ Some l → slice_get (vacated_slots pid slots) pid ≡ Some None
vacated_slot [] pid l is = absurd (none-some l is)
vacated_slot (s ∷ ss) zero l is = refl
vacated_slot (s ∷ ss) (suc pid) l is = vacated_slot ss pid l is

pub vacated_back : (slots : List (Option ProcessEntry)) (pid : ℕ) (l : ProcessEntry) → living_at slots pid ≡ Some l → occupied_slots pid l (vacated_slots pid slots) ≡ slots
vacated_back [] pid l is = refl
vacated_back (s ∷ ss) zero l is = ap (λ o. o ∷ ss) (sym is)
vacated_back (s ∷ ss) (suc pid) l is = ap (λ xs. s ∷ xs) (vacated_back ss pid l is)

pub occupied_back : (l : ProcessEntry) (slots : List (Option ProcessEntry)) (pid : ℕ) → slice_get slots pid ≡ Some None → vacated_slots pid (occupied_slots pid l slots) ≡ slots
occupied_back l [] pid vacant = refl
occupied_back l (s ∷ ss) zero vacant = ap (λ o. o ∷ ss) (sym (same_Some s None vacant))
occupied_back l (s ∷ ss) (suc pid) vacant = ap (λ xs. s ∷ xs) (occupied_back l ss pid vacant)

-- nobody has pid 0

nobody_vacated : (slots : List (Option ProcessEntry)) (pid : ℕ) → slice_get slots 0 ≡ Some None → slice_get (vacated_slots pid slots) 0 ≡ Some None
nobody_vacated [] pid is = is
nobody_vacated (s ∷ ss) zero is = refl
nobody_vacated (s ∷ ss) (suc pid) is = is

nobody_occupied : (l : ProcessEntry) (slots : List (Option ProcessEntry)) (pid : ℕ) → 0 < pid → slice_get slots 0 ≡ Some None → slice_get (occupied_slots pid l slots) 0 ≡ Some None
nobody_occupied l [] pid late is = is
nobody_occupied l (s ∷ ss) zero late is = absurd (omega (arith, late))
nobody_occupied l (s ∷ ss) (suc pid) late is = is

somebody_late : (slots : List (Option ProcessEntry)) (pid : ℕ) (l : ProcessEntry) → slice_get slots 0 ≡ Some None → living_at slots pid ≡ Some l → 0 < pid
somebody_late [] pid l nobody is = absurd (none-some l is)
somebody_late (s ∷ ss) zero l nobody is = absurd (none-some l (sym (same_Some s None nobody) ∙ is))
somebody_late (s ∷ ss) (suc pid) l nobody is = omega arith

-- Indexes

tested : {A : Type 0} (f : A → Bool) (b : Bool) (x y : A) (z : Bool) → (b ≡ true → f x ≡ z) → (b ≡ false → f y ≡ z) → f (cond b x y) ≡ z
tested f true x y z first second = first refl
tested f false x y z first second = second refl

read_unregistered : (name : Option (List ℕ)) (names : Names) (n : List ℕ) → get (unregistered name names) n ≡ cond (is_name n name) None (get names n)
read_unregistered None names n = refl
read_unregistered (Some m) names n = names_read names m None n

read_registered : (name : Option (List ℕ)) (pid : ℕ) (names : Names) (n : List ℕ) → get (registered name pid names) n ≡ cond (is_name n name) (Some pid) (get names n)
read_registered None pid names n = refl
read_registered (Some m) pid names n = names_read names m (Some pid) n

free_name : (name : Option (List ℕ)) (names : Names) (n : List ℕ) → IsFreeName name names → is_name n name ≡ true → get names n ≡ None
free_name None names n free is = absurd (true≢false (sym is))
free_name (Some m) names n free is = ap (get names) (sym (same_name m n is)) ∙ free

either_number : (a b : Bool) (there : Option Owner) → cond a None (cond b None there) ≡ cond (cond b true a) None there
either_number true true there = refl
either_number true false there = refl
either_number false b there = elim b as (λ x. cond x None there ≡ cond (cond x true false) None there) [ true ↦ refl | false ↦ refl ]

read_answered : (cs : List Call) (owners : Owners) (number : ℕ) → get (all_answered cs owners) number ≡ cond (has_number number cs) None (get owners number)
read_answered [] owners number = refl
read_answered (c ∷ cs) owners number =
    read_answered cs (put c.number None owners) number ∙ ap (cond (has_number number cs) None) (numbers_read owners c.number None number) ∙ either_number (has_number number cs) (nat_eq c.number number) (get owners number)

-- a number of calls is one of a client's call, and of no client's call where it is none of them

asker : (cs : List Call) (number : ℕ) → has_number number cs ≡ true → (client : ℕ) × (has (record { client = client; number = number }) cs ≡ true)
asker [] number is = absurd (true≢false (sym is))
asker (c ∷ cs) number is =
    elim (nat_eq c.number number) as (λ b. nat_eq c.number number ≡ b → cond b true (has_number number cs) ≡ true → (client : ℕ) × (has (record { client = client; number = number }) (c ∷ cs) ≡ true)) [
      | true ↦ λ e _. (c.client, let same : is_same (record { client = c.client; number = number }) c ≡ true = grind (arith, nat_tests, e) in or_left _ _ same)
      | false ↦ λ e later. let (client, there) = asker cs number later in (client, or_right _ _ there)
    ] refl is

unasked_number : (cs : List Call) (number client : ℕ) → has_number number cs ≡ false → has (record { client = client; number = number }) cs ≡ false
unasked_number cs number client none =
    false_from_ne_true (has (record { client = client; number = number }) cs) (λ e. true≢false (sym (asked_calls cs number client e) ∙ none))

-- A process is taken out.

pub IsIndexed-vacated : (names : Names) (open_calls : Owners) (slots : List (Option ProcessEntry)) (pid : ℕ) (l : ProcessEntry) → IsIndexed names open_calls slots → living_at slots pid ≡ Some l → IsIndexed (unregistered l.process.name names) (all_answered l.calls open_calls) (vacated_slots pid slots)
IsIndexed-vacated names open_calls slots pid l indexed lives = record {
  named = λ n q. ap (is_pid q) (read_unregistered l.process.name names n) ∙ elim (eqb_tells pid q) [
    | inl here ↦
        let at : living_at slots q ≡ Some l = ap (living_at slots) (sym here.1) ∙ lives in
        let gone : is_named n (living_at (vacated_slots pid slots) q) ≡ false = ap (λ k. is_named n (living_at (vacated_slots pid slots) k)) (sym here.1) ∙ ap (is_named n) (living_vacated slots pid) in
        tested (is_pid q) (is_name n l.process.name) None (get names n) _ (λ e. sym gone) (λ e. indexed.named n q ∙ ap (is_named n) at ∙ e ∙ sym gone)
    | inr apart ↦
        let same : is_named n (living_at (vacated_slots pid slots) q) ≡ is_pid q (get names n) = ap (is_named n) (other_slot (λ o. None) slots pid q apart.1) ∙ sym (indexed.named n q) in
        tested (is_pid q) (is_name n l.process.name) None (get names n) _ (λ e. sym (same ∙ other_pid (get names n) pid q (indexed.named n pid ∙ ap (is_named n) lives ∙ e) apart.0)) (λ e. sym same)
  ];
  asked = λ number client q.
      let d : Call = record { client = client; number = number } in
      ap (is_owner q client) (read_answered l.calls open_calls number) ∙ elim (eqb_tells pid q) [
        | inl here ↦
            let at : living_at slots q ≡ Some l = ap (living_at slots) (sym here.1) ∙ lives in
            let gone : is_asked_by d (living_at (vacated_slots pid slots) q) ≡ false = ap (λ k. is_asked_by d (living_at (vacated_slots pid slots) k)) (sym here.1) ∙ ap (is_asked_by d) (living_vacated slots pid) in
            tested (is_owner q client) (has_number number l.calls) None (get open_calls number) _ (λ e. sym gone) (λ e. indexed.asked number client q ∙ ap (is_asked_by d) at ∙ unasked_number l.calls number client e ∙ sym gone)
        | inr apart ↦
            let same : is_asked_by d (living_at (vacated_slots pid slots) q) ≡ is_owner q client (get open_calls number) = ap (is_asked_by d) (other_slot (λ o. None) slots pid q apart.1) ∙ sym (indexed.asked number client q) in
            tested (is_owner q client) (has_number number l.calls) None (get open_calls number) _
            (λ e. let (other, there) = asker l.calls number e in
            sym (same ∙ owner_told (get open_calls number) pid q other client (indexed.asked number other pid ∙ ap (is_asked_by (record { client = other; number = number })) lives ∙ there) ∙ ap (λ b. b && nat_eq other client) apart.0))
            (λ e. sym same)
      ];
  ordered = λ q. elim (eqb_tells pid q) [
    | inl here ↦ subst (λ o. IfSome o (λ x. AreInOrder x.calls)) (sym (ap (living_at (vacated_slots pid slots)) (sym here.1) ∙ living_vacated slots pid)) tt
    | inr apart ↦ subst (λ o. IfSome o (λ x. AreInOrder x.calls)) (sym (other_slot (λ o. None) slots pid q apart.1)) (indexed.ordered q)
  ];
  owned = λ q. elim (eqb_tells pid q) [
    | inl here ↦ subst (λ o. IfSome o (HasPid q)) (sym (ap (living_at (vacated_slots pid slots)) (sym here.1) ∙ living_vacated slots pid)) tt
    | inr apart ↦ subst (λ o. IfSome o (HasPid q)) (sym (other_slot (λ o. None) slots pid q apart.1)) (indexed.owned q)
  ];
  nobody = nobody_vacated slots pid indexed.nobody;
}

pub vacated_indexed : (names after : Names) (open_calls left : Owners) (slots now : List (Option ProcessEntry)) (pid : ℕ) (l : ProcessEntry) → IsIndexed names open_calls slots → living_at slots pid ≡ Some l → after ≡ unregistered l.process.name names → left ≡ all_answered l.calls open_calls → now ≡ vacated_slots pid slots → IsIndexed after left now
vacated_indexed names after open_calls left slots now pid l indexed lives unnamed answered is =
    subst (λ n. IsIndexed n left now) (sym unnamed) (subst (λ o. IsIndexed (unregistered l.process.name names) o now) (sym answered)
    (subst (IsIndexed (unregistered l.process.name names) (all_answered l.calls open_calls)) (sym is) (IsIndexed-vacated names open_calls slots pid l indexed lives)))

-- It can come back.

name_gone : (name : Option (List ℕ)) (names : Names) → IsFreeName name (unregistered name names)
name_gone None names = tt
name_gone (Some m) names = names_here names m None

name_returns : (names : Names) (open_calls : Owners) (slots : List (Option ProcessEntry)) (name : Option (List ℕ)) (t : Table) → IsIndexed names open_calls slots → record { slots = slots } ≡ t → IsFreeName name names → IfSome name (λ n. pid_of n t ≡ None)
name_returns names open_calls slots None t indexed is free = tt
name_returns names open_calls slots (Some n) t indexed is free = sym (named_by_index names open_calls slots t n indexed is) ∙ free

own_numbers : (names : Names) (open_calls : Owners) (slots : List (Option ProcessEntry)) (pid : ℕ) (l : ProcessEntry) → IsIndexed names open_calls slots → living_at slots pid ≡ Some l → AreOfOwnNumbers l.calls
own_numbers names open_calls slots pid l indexed lives c d has_c has_d same =
    let one : is_owner pid c.client (get open_calls c.number) ≡ true = indexed.asked c.number c.client pid ∙ ap (is_asked_by c) lives ∙ has_c in
    let other : is_owner pid d.client (get open_calls c.number) ≡ true = ap (λ n. is_owner pid d.client (get open_calls n)) same ∙ indexed.asked d.number d.client pid ∙ ap (is_asked_by d) lives ∙ has_d in
    let told : (nat_eq pid pid && nat_eq c.client d.client) ≡ true = sym (owner_told (get open_calls c.number) pid pid c.client d.client one) ∙ other in
    grind (arith, nat_tests, told)

pub vacated_returns : (names : Names) (open_calls : Owners) (slots : List (Option ProcessEntry)) (pid : ℕ) (l : ProcessEntry) (t : Table) → IsIndexed names open_calls slots → living_at slots pid ≡ Some l → record { slots = vacated_slots pid slots } ≡ t → CanReturn pid l t
vacated_returns names open_calls slots pid l t indexed lives is =
    let after = IsIndexed-vacated names open_calls slots pid l indexed lives in
    let left = all_answered l.calls open_calls in (
      (somebody_late slots pid l indexed.nobody lives, subst (λ x. slice_get x.slots pid ≡ Some None) is (vacated_slot slots pid l lives)),
      name_returns (unregistered l.process.name names) left (vacated_slots pid slots) l.process.name t after is (name_gone l.process.name names),
      ((λ c there. sym (asked_by_index (unregistered l.process.name names) left (vacated_slots pid slots) t c.number after is) ∙ ap is_some (read_answered l.calls open_calls c.number ∙ ap (λ b. cond b None (get open_calls c.number)) (asked_calls l.calls c.number c.client there))), own_numbers names open_calls slots pid l indexed lives),
      subst (λ o. IfSome o (HasPid pid)) lives (indexed.owned pid),
    )

-- A process is put back.

vacant_living : (slots : List (Option ProcessEntry)) (pid : ℕ) → slice_get slots pid ≡ Some None → living_at slots pid ≡ None
vacant_living slots pid is = ap (option_and_then (λ l. l)) is

spread : {A : Type 0} (f : A → Bool) (b : Bool) (x y : A) → f (cond b x y) ≡ cond b (f x) (f y)
spread f true x y = refl
spread f false x y = refl

-- one more call of a process: `a` and `h` are whether those behind it are of the number and are the call that is asked for, `b` and
-- `s` whether it is, `k` whether it is of the client, `p` whether the process is the one, and `w` what was told before
one_more : (a b h s k p w : Bool) → (a ≡ true → b ≡ true → s ≡ true → h ≡ true) → (a ≡ false → h ≡ false) → (b ≡ false → s ≡ false) → (b ≡ true → s ≡ k) → cond a (p && h) (cond b (p && k) w) ≡ cond (cond b true a) (p && (s || h)) w
one_more true true h true k p w own none apart is = ap (λ x. p && x) (own refl refl refl)
one_more true true h false k p w own none apart is = refl
one_more true false h true k p w own none apart is = absurd (true≢false (apart refl))
one_more true false h false k p w own none apart is = refl
one_more false true h true k p w own none apart is = ap (λ x. p && x) (sym (is refl))
one_more false true h false k p w own none apart is = ap (λ x. p && x) (sym (is refl) ∙ sym (none refl))
one_more false false h s k p w own none apart is = refl

read_asked : (pid : ℕ) (cs : List Call) (owners : Owners) (number client q : ℕ) → AreOfOwnNumbers cs → is_owner q client (get (all_asked pid cs owners) number) ≡ cond (has_number number cs) (nat_eq pid q && has (record { client = client; number = number }) cs) (is_owner q client (get owners number))
read_asked pid [] owners number client q own = refl
read_asked pid (c ∷ cs) owners number client q own =
    let d : Call = record { client = client; number = number } in
    let o : Owner = record { pid = pid; client = c.client } in
    let rest = read_asked pid cs (put c.number (Some o) owners) number client q (λ x y has_x has_y same. own x y (or_right _ _ has_x) (or_right _ _ has_y) same) in
    let told : is_owner q client (get (put c.number (Some o) owners) number) ≡ cond (nat_eq c.number number) (nat_eq pid q && nat_eq c.client client) (is_owner q client (get owners number)) = ap (is_owner q client) (numbers_read owners c.number (Some o) number) ∙ spread (is_owner q client) (nat_eq c.number number) (Some o) (get owners number) in
    rest ∙ ap (cond (has_number number cs) (nat_eq pid q && has d cs)) told
    ∙ one_more (has_number number cs) (nat_eq c.number number) (has d cs) (is_same d c) (nat_eq c.client client) (nat_eq pid q) (is_owner q client (get owners number))
    (λ later here same.
    let (other, there) = asker cs number later in
    let one : c.client ≡ other = own c (record { client = other; number = number }) (or_left _ _ (same_itself c)) (or_right _ _ there) (eqb-true c.number number here) in
    let client_is : client ≡ other = ap (λ x. x.client) (same_call d c same) ∙ one in
    subst (λ k. has (record { client = k; number = number }) cs ≡ true) (sym client_is) there)
    (λ none. unasked_number cs number client none)
    (λ e. let apart : is_same d c ≡ false = grind (arith, nat_tests, e) in apart)
    (λ e. let is : is_same d c ≡ nat_eq c.client client = grind (arith, nat_tests, e) in is)

pub IsIndexed-occupied : (names : Names) (open_calls : Owners) (slots : List (Option ProcessEntry)) (pid : ℕ) (l : ProcessEntry) → IsIndexed names open_calls slots → 0 < pid → slice_get slots pid ≡ Some None → IsFreeName l.process.name names → AreFreeNumbers l.calls open_calls → AreOfOwnNumbers l.calls → AreInOrder l.calls → HasPid pid l → IsIndexed (registered l.process.name pid names) (all_asked pid l.calls open_calls) (occupied_slots pid l slots)
IsIndexed-occupied names open_calls slots pid l indexed late vacant free unasked own in_order has_pid = record {
  named = λ n q. ap (is_pid q) (read_registered l.process.name pid names n) ∙ elim (eqb_tells pid q) [
    | inl here ↦
        let before : living_at slots q ≡ None = ap (living_at slots) (sym here.1) ∙ vacant_living slots pid vacant in
        let now : is_named n (living_at (occupied_slots pid l slots) q) ≡ is_name n l.process.name = ap (λ k. is_named n (living_at (occupied_slots pid l slots) k)) (sym here.1) ∙ ap (is_named n) (living_occupied l slots pid vacant) in
        tested (is_pid q) (is_name n l.process.name) (Some pid) (get names n) _ (λ e. here.0 ∙ sym (now ∙ e)) (λ e. indexed.named n q ∙ ap (is_named n) before ∙ sym (now ∙ e))
    | inr apart ↦
        let same : is_named n (living_at (occupied_slots pid l slots) q) ≡ is_pid q (get names n) = ap (is_named n) (other_slot (λ o. Some l) slots pid q apart.1) ∙ sym (indexed.named n q) in
        tested (is_pid q) (is_name n l.process.name) (Some pid) (get names n) _ (λ e. apart.0 ∙ sym (same ∙ ap (is_pid q) (free_name l.process.name names n free e))) (λ e. sym same)
  ];
  asked = λ number client q.
      let d : Call = record { client = client; number = number } in
      read_asked pid l.calls open_calls number client q own ∙ elim (eqb_tells pid q) [
        | inl here ↦
            let before : living_at slots q ≡ None = ap (living_at slots) (sym here.1) ∙ vacant_living slots pid vacant in
            let now : is_asked_by d (living_at (occupied_slots pid l slots) q) ≡ has d l.calls = ap (λ k. is_asked_by d (living_at (occupied_slots pid l slots) k)) (sym here.1) ∙ ap (is_asked_by d) (living_occupied l slots pid vacant) in
            tested (λ b. b) (has_number number l.calls) (nat_eq pid q && has d l.calls) (is_owner q client (get open_calls number)) _
            (λ e. ap (λ b. b && has d l.calls) here.0 ∙ sym now)
            (λ e. indexed.asked number client q ∙ ap (is_asked_by d) before ∙ sym (now ∙ unasked_number l.calls number client e))
        | inr apart ↦
            let same : is_asked_by d (living_at (occupied_slots pid l slots) q) ≡ is_owner q client (get open_calls number) = ap (is_asked_by d) (other_slot (λ o. Some l) slots pid q apart.1) ∙ sym (indexed.asked number client q) in
            tested (λ b. b) (has_number number l.calls) (nat_eq pid q && has d l.calls) (is_owner q client (get open_calls number)) _
            (λ e. ap (λ b. b && has d l.calls) apart.0 ∙ sym (same ∙ ap (is_owner q client) (unasked number e)))
            (λ e. sym same)
      ];
  ordered = λ q. elim (eqb_tells pid q) [
    | inl here ↦ subst (λ o. IfSome o (λ x. AreInOrder x.calls)) (sym (ap (living_at (occupied_slots pid l slots)) (sym here.1) ∙ living_occupied l slots pid vacant)) in_order
    | inr apart ↦ subst (λ o. IfSome o (λ x. AreInOrder x.calls)) (sym (other_slot (λ o. Some l) slots pid q apart.1)) (indexed.ordered q)
  ];
  owned = λ q. elim (eqb_tells pid q) [
    | inl here ↦ subst (λ k. IfSome (living_at (occupied_slots pid l slots) k) (HasPid k)) here.1 (subst (λ o. IfSome o (HasPid pid)) (sym (living_occupied l slots pid vacant)) has_pid)
    | inr apart ↦ subst (λ o. IfSome o (HasPid q)) (sym (other_slot (λ o. Some l) slots pid q apart.1)) (indexed.owned q)
  ];
  nobody = nobody_occupied l slots pid late indexed.nobody;
}

pub name_is_free : (names : Names) (open_calls : Owners) (slots : List (Option ProcessEntry)) (l : ProcessEntry) (t : Table) → IsIndexed names open_calls slots → record { slots = slots } ≡ t → HasFreeName l t → IsFreeName l.process.name names
name_is_free names open_calls slots l t indexed is free =
    elim l.process.name as (λ name. IfSome name (λ n. pid_of n t ≡ None) → IsFreeName name names) [
      | None ↦ λ _. tt
      | Some n ↦ λ nobody. named_by_index names open_calls slots t n indexed is ∙ nobody
    ] free

pub calls_are_free : (names : Names) (open_calls : Owners) (slots : List (Option ProcessEntry)) (l : ProcessEntry) (t : Table) → IsIndexed names open_calls slots → record { slots = slots } ≡ t → HasFreeCalls l t → AreFreeNumbers l.calls open_calls
calls_are_free names open_calls slots l t indexed is free number asked =
    let (client, there) = asker l.calls number asked in
    free_number names open_calls slots t number indexed is (free.0 (record { client = client; number = number }) there)

pub occupied_indexed : (names after : Names) (open_calls left : Owners) (slots now : List (Option ProcessEntry)) (pid : ℕ) (l : ProcessEntry) (t : Table) → IsIndexed names open_calls slots → record { slots = slots } ≡ t → CanReturn pid l t → AreInOrder l.calls → after ≡ registered l.process.name pid names → left ≡ all_asked pid l.calls open_calls → now ≡ occupied_slots pid l slots → IsIndexed after left now
occupied_indexed names after open_calls left slots now pid l t indexed view able in_order named asked is =
    subst (λ n. IsIndexed n left now) (sym named) (subst (λ o. IsIndexed (registered l.process.name pid names) o now) (sym asked)
    (subst (IsIndexed (registered l.process.name pid names) (all_asked pid l.calls open_calls)) (sym is)
    (IsIndexed-occupied names open_calls slots pid l indexed able.0.0 (subst (λ x. slice_get x.slots pid ≡ Some None) (sym view) able.0.1) (name_is_free names open_calls slots l t indexed view able.1) (calls_are_free names open_calls slots l t indexed view able.2) able.2.1 in_order able.3)))

-- Where memory is refused, the indexes are as they were.

pub unregistered_back : (name : Option (List ℕ)) (pid : ℕ) (names : Names) → IsFreeName name names → unregistered name (registered name pid names) ≡ names
unregistered_back None pid names free = refl
unregistered_back (Some m) pid names free = names_later names m None (Some pid) ∙ ap (λ o. put m o names) (sym free) ∙ names_kept names m

pub answered_back : (cs : List Call) (before now : Owners) → AreFreeNumbers cs before → IsSameElsewhere cs before now → all_answered cs now ≡ before
answered_back cs before now free same =
    same_index numbers_apart (all_answered cs now) before (λ n. read_answered cs now n ∙ elim (has_number n cs) as (λ b. has_number n cs ≡ b → cond b None (get now n) ≡ get before n) [
      | true ↦ λ e. sym (free n e)
      | false ↦ λ e. same n e
    ] refl)

-- the calls of a process change nothing under other numbers
asked_elsewhere : (pid : ℕ) (cs : List Call) (owners : Owners) → IsSameElsewhere cs owners (all_asked pid cs owners)
asked_elsewhere pid [] owners number none = refl
asked_elsewhere pid (c ∷ cs) owners number none =
    let o : Owner = record { pid = pid; client = c.client } in
    let here : nat_eq c.number number ≡ false = grind (arith, common_steps, none) in
    let later : has_number number cs ≡ false = grind (arith, common_steps, none) in
    asked_elsewhere pid cs (put c.number (Some o) owners) number later ∙ numbers_read owners c.number (Some o) number ∙ ap (λ b. cond b (Some o) (get owners number)) here

-- all calls of a process are asked, and answered again
pub asked_back : (pid : ℕ) (cs : List Call) (owners : Owners) → AreFreeNumbers cs owners → all_answered cs (all_asked pid cs owners) ≡ owners
asked_back pid cs owners free = answered_back cs owners (all_asked pid cs owners) free (asked_elsewhere pid cs owners)

-- where the process does not come back, its name is free and none of its calls is open, as before
pub left_again : (names entered again : Names) (open_calls asked left : Owners) (slots now : List (Option ProcessEntry)) (pid : ℕ) (l back : ProcessEntry) (t : Table) → IsIndexed names open_calls slots → record { slots = slots } ≡ t → CanReturn pid l t → entered ≡ registered l.process.name pid names → asked ≡ all_asked pid l.calls open_calls → back ≡ l → again ≡ unregistered back.process.name entered → left ≡ all_answered back.calls asked → now ≡ slots → IsIndexed again left now
left_again names entered again open_calls asked left slots now pid l back t indexed view able named opened whole unnamed closed same =
    let names_back : again ≡ names = unnamed ∙ (λ i. unregistered (whole i).process.name (named i)) ∙ unregistered_back l.process.name pid names (name_is_free names open_calls slots l t indexed view able.1) in
    let calls_back : left ≡ open_calls = closed ∙ (λ i. all_answered (whole i).calls (opened i)) ∙ asked_back pid l.calls open_calls (calls_are_free names open_calls slots l t indexed view able.2) in
    subst (λ n. IsIndexed n left now) (sym names_back) (subst (λ o. IsIndexed names o now) (sym calls_back) (subst (IsIndexed names open_calls) (sym same) indexed))

-- Calls one by one

-- of calls of which those that are left are among them
pub left_fewer : (c : Call) (cs calls : List Call) → ((number : ℕ) → has_number number (c ∷ cs) ≡ true → has_number number calls ≡ true) → (number : ℕ) → has_number number cs ≡ true → has_number number calls ≡ true
left_fewer c cs calls among number there =
    among number (elim (nat_eq c.number number) as (λ b. cond b true (has_number number cs) ≡ true) [ true ↦ refl | false ↦ there ])

pub same_elsewhere : (c : Call) (cs calls : List Call) (owner : Option Owner) (before now after : Owners) → ((number : ℕ) → has_number number (c ∷ cs) ≡ true → has_number number calls ≡ true) → after ≡ put c.number owner now → IsSameElsewhere calls before now → IsSameElsewhere calls before after
same_elsewhere c cs calls owner before now after among is same number none =
    let apart : nat_eq c.number number ≡ false = false_from_ne_true (nat_eq c.number number) (λ e.
    true≢false (sym (among number (ap (λ b. cond b true (has_number number cs)) e)) ∙ none)) in
    ap (λ o. get o number) is ∙ numbers_read now c.number owner number ∙ ap (λ b. cond b owner (get now number)) apart ∙ same number none
