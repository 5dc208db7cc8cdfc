-- The table's indexes: what they find is there, and they are kept by its steps.
use Rattle.std.proofs.Common.{◌≡◌, ℕ, zero, suc, ◌<◌, Bool, true, false, cond, inl, inr, nat_eq, List, [], ◌∷◌, ◌++◌, length, get_or, slice_get, Option, None, Some, IfSome, is_some, not, option_map, refl, sym, ap, subst, ◌∙◌, arith, ◌||◌, ◌&&◌}
use Rattle.std.proofs.lemmas.Grind.{common_steps}
use Rattle.std.proofs.lemmas.Bool.{cases_lt, eq-eqb, eqb-true}
use Rattle.std.proofs.lemmas.Bool.Decides.{eqb_tells, nat_tests}
use Rattle.std.proofs.lemmas.List.Sums.{fails_before_first}
use Rattle.std.proofs.lemmas.Slice.Eq.{bytes_eq-Decides}
use Rattle.std.specs.FinMap.{get, get-empty, empty}
use Rattle.std.specs.List.{position, position_or_len}
use Rattle.std.specs.Str.{bytes_eq}
use Rattle.std.specs.Ordering.{nat_cmp}
use Rattle.std.specs.Cmp.Lexicographic.{slice_cmp}
use Rattle.process.proofs.Indices.{position_at, position_nowhere}
use Rattle.process_index.proofs.Index.{names_read, numbers_read}
use Rattle.process_index.proofs.OpenCalls.{AreInOrder-with_call, AreInOrder-without, has-with_call, has-without}
use Rattle.process_index.specs.Calls.{AreInOrder, has, is_same, with_call, without}
use Rattle.process_index.specs.declared.calls.Call.{Call}
use Rattle.process_index.specs.Index.{Names}
use Rattle.process_index.specs.Numbers.{Owners}
use Rattle.process_index.specs.declared.numbers.Owner.{Owner}
use Rattle.process_store.specs.declared.living.ProcessEntry.{ProcessEntry}
use Rattle.process_store.specs.Indexed.{HasPid, IsIndexed, answered, asked_of, is_pid, is_owner, is_asked_by, registered, unregistered}
use Rattle.process_store.specs.Table.{Table, changed_slots, has_number, is_asked, is_name, is_named, is_open, living_at, pid_of}
use Rattle.process_store.proofs.Slots.{changed_nobody, kept, kept_all, kept_behind, living_before, living_changed, living_elsewhere, living_given, living_last, living_past, living_within, nobody_before, nobody_given}

or_false : (a b : Bool) → (a || b) ≡ false → b ≡ false
or_false a b e = grind (arith, common_steps, e)

-- a test that nobody passes, or that just the process of a pid passes

pub nobody : (test : Option ProcessEntry → Bool) → test None ≡ false → (slots : List (Option ProcessEntry)) → ((pid : ℕ) → test (living_at slots pid) ≡ false) → position test slots ≡ None
nobody test none slots fails = position_nowhere test slots (λ k d within. ap test (sym (living_within slots k d within)) ∙ fails k)

pub somebody : (test : Option ProcessEntry → Bool) → test None ≡ false → (slots : List (Option ProcessEntry)) (p : ℕ) → ((pid : ℕ) → nat_eq p pid ≡ test (living_at slots pid)) → position test slots ≡ Some p
somebody test none slots p only =
    let passes : test (living_at slots p) ≡ true = sym (only p) ∙ grind (arith, common_steps) in
    elim (living_at slots p) as (λ o. living_at slots p ≡ o → position test slots ≡ Some p) [
      | None ↦ λ is. let clash : true ≡ false = sym passes ∙ ap test is ∙ none in absurd (grind (arith, common_steps, clash))
      | Some l ↦ λ is.
          let within = living_given slots p l is in
          position_at test slots p (get_or slots p (Some l)) within (grind (arith, common_steps, within))
          (λ k d below. ap test (sym (living_within slots k d (omega (arith, below, within)))) ∙ sym (only k) ∙ grind (arith, common_steps, below))
          (ap test (sym (living_within slots p (Some l) within)) ∙ passes)
    ] refl

-- somebody passes
pub is_found : (test : Option ProcessEntry → Bool) → test None ≡ false → (slots : List (Option ProcessEntry)) (p : ℕ) → test (living_at slots p) ≡ true → is_some (position test slots) ≡ true
is_found test none slots p passes =
    elim (living_at slots p) as (λ o. living_at slots p ≡ o → is_some (position test slots) ≡ true) [
      | None ↦ λ is. let clash : true ≡ false = sym passes ∙ ap test is ∙ none in absurd (grind (arith, common_steps, clash))
      | Some l ↦ λ is.
          let within = living_given slots p l is in
          let at : test (get_or slots p (Some l)) ≡ true = ap test (sym (living_within slots p (Some l) within)) ∙ passes in
          elim (cases_lt p (position_or_len test slots)) [
            | inl below ↦ let fails = fails_before_first test slots p (Some l) below in let clash : true ≡ false = sym at ∙ fails in absurd (grind (arith, common_steps, clash))
            | inr past ↦ let before : position_or_len test slots < length slots = omega (arith, past, within) in grind (arith, common_steps, before)
          ]
    ] refl

-- a number of which no client has a call, and one of which a client has one

unasked_calls : (cs : List Call) (number : ℕ) → ((client : ℕ) → has (record { client = client; number = number }) cs ≡ false) → has_number number cs ≡ false
unasked_calls [] number never = refl
unasked_calls (c ∷ cs) number never =
    let here = never c.client in
    let rest = unasked_calls cs number (λ client. or_false (is_same (record { client = client; number = number }) c) (has (record { client = client; number = number }) cs) (never client)) in
    grind (arith, common_steps, here, rest)

pub asked_calls : (cs : List Call) (number client : ℕ) → has (record { client = client; number = number }) cs ≡ true → has_number number cs ≡ true
asked_calls [] number client is = is
asked_calls (c ∷ cs) number client is =
    elim (nat_eq c.number number) as (λ b. nat_eq c.number number ≡ b → cond b true (has_number number cs) ≡ true) [
      | true ↦ λ e. refl
      | false ↦ λ e. asked_calls cs number client (grind (arith, common_steps, is, e))
    ] refl

pub unasked : (o : Option ProcessEntry) (number : ℕ) → ((client : ℕ) → is_asked_by (record { client = client; number = number }) o ≡ false) → is_asked number o ≡ false
unasked None number never = refl
unasked (Some l) number never = unasked_calls l.calls number never

pub asked_once : (o : Option ProcessEntry) (number client : ℕ) → is_asked_by (record { client = client; number = number }) o ≡ true → is_asked number o ≡ true
asked_once None number client is = is
asked_once (Some l) number client is = asked_calls l.calls number client is

-- the index finds who has a name
pub named_by_index : (names : Names) (open_calls : Owners) (slots : List (Option ProcessEntry)) (t : Table) (name : List ℕ) → IsIndexed names open_calls slots → record { slots = slots } ≡ t → get names name ≡ pid_of name t
named_by_index names open_calls slots t name indexed is =
    elim (get names name) as (λ o. get names name ≡ o → o ≡ position (is_named name) slots) [
      | None ↦ λ at. sym (nobody (is_named name) refl slots (λ pid. sym (indexed.named name pid) ∙ ap (is_pid pid) at))
      | Some p ↦ λ at. sym (somebody (is_named name) refl slots p (λ pid. ap (is_pid pid) (sym at) ∙ indexed.named name pid))
    ] refl ∙ ap (pid_of name) is

-- and whether a call of a number is open
pub asked_by_index : (names : Names) (open_calls : Owners) (slots : List (Option ProcessEntry)) (t : Table) (number : ℕ) → IsIndexed names open_calls slots → record { slots = slots } ≡ t → is_some (get open_calls number) ≡ is_open number t
asked_by_index names open_calls slots t number indexed is =
    elim (get open_calls number) as (λ o. get open_calls number ≡ o → is_some o ≡ is_some (position (is_asked number) slots)) [
      | None ↦ λ at. sym (ap is_some (nobody (is_asked number) refl slots (λ pid.
          unasked (living_at slots pid) number (λ client. sym (indexed.asked number client pid) ∙ ap (is_owner pid client) at))))
      | Some o ↦ λ at.
          let has_it : is_asked_by (record { client = o.client; number = number }) (living_at slots o.pid) ≡ true =
          sym (indexed.asked number o.client o.pid) ∙ ap (is_owner o.pid o.client) at ∙ grind (arith, common_steps) in
          sym (is_found (is_asked number) refl slots o.pid (asked_once (living_at slots o.pid) number o.client has_it))
    ] refl ∙ ap (is_open number) is

-- nobody is there
-- where nobody lives
pub IsIndexed-nobody : (slots : List (Option ProcessEntry)) → ((pid : ℕ) → living_at slots pid ≡ None) → slice_get slots 0 ≡ Some None → IsIndexed empty empty slots
IsIndexed-nobody slots none first = record {
  named = λ name pid. ap (is_pid pid) (get-empty (slice_cmp nat_cmp) name) ∙ sym (ap (is_named name) (none pid));
  asked = λ number client pid. ap (is_owner pid client) (get-empty nat_cmp number) ∙ sym (ap (is_asked_by (record { client = client; number = number })) (none pid));
  ordered = λ pid. subst (λ o. IfSome o (λ l. AreInOrder l.calls)) (sym (none pid)) tt;
  owned = λ pid. subst (λ o. IfSome o (HasPid pid)) (sym (none pid)) tt;
  nobody = first;
}

pub IsIndexed-empty : IsIndexed empty empty (None ∷ [])
IsIndexed-empty = IsIndexed-nobody (None ∷ []) (λ pid. elim pid as (λ p. living_at (None ∷ []) p ≡ None) [ zero ↦ refl | suc p ↦ refl ]) refl

-- a change of a process that leaves its name and its calls alone
pub IsIndexed-kept : (f : ProcessEntry → ProcessEntry) → ((l : ProcessEntry) → (f l).process.name ≡ l.process.name) → ((l : ProcessEntry) → (f l).process.pid ≡ l.process.pid) → ((l : ProcessEntry) → (f l).calls ≡ l.calls) → (names : Names) (open_calls : Owners) (slots : List (Option ProcessEntry)) (pid : ℕ) → IsIndexed names open_calls slots → IsIndexed names open_calls (changed_slots f pid slots)
IsIndexed-kept f same_name same_pid same_calls names open_calls slots pid indexed = record {
  named = λ name q. indexed.named name q ∙ sym (kept (is_named name) f (λ l. ap (is_name name) (same_name l)) slots pid q);
  asked = λ number client q. indexed.asked number client q ∙ sym (kept (is_asked_by (record { client = client; number = number })) f (λ l. ap (has (record { client = client; number = number })) (same_calls l)) slots pid q);
  ordered = λ q. kept_all (λ l. AreInOrder l.calls) f (λ l in_order. subst AreInOrder (sym (same_calls l)) in_order) slots pid q (indexed.ordered q);
  owned = λ q. kept_all (HasPid q) f (λ x is. same_pid x ∙ is) slots pid q (indexed.owned q);
  nobody = changed_nobody f slots pid indexed.nobody;
}

-- one more process, without calls, under the next pid

pub same_name : (m n : List ℕ) → bytes_eq m n ≡ true → m ≡ n
same_name m n e = (bytes_eq-Decides m n).0 e

named_last : (m n : List ℕ) (p q : ℕ) (there : Option ℕ) (found last : Bool) → is_pid q there ≡ found → (nat_eq p q ≡ true → last ≡ bytes_eq m n) → (nat_eq p q ≡ false → last ≡ found) → (bytes_eq m n ≡ true → there ≡ None) → (nat_eq p q ≡ true → found ≡ false) → is_pid q (cond (bytes_eq m n) (Some p) there) ≡ last
named_last m n p q there found last is here elsewhere untaken past =
    elim (nat_eq p q) as (λ b. nat_eq p q ≡ b → is_pid q (cond (bytes_eq m n) (Some p) there) ≡ last) [
      | true ↦ λ e. elim (bytes_eq m n) as (λ b. bytes_eq m n ≡ b → is_pid q (cond b (Some p) there) ≡ last) [
        | true ↦ λ f. e ∙ sym (here e ∙ f)
        | false ↦ λ f. is ∙ past e ∙ sym (here e ∙ f)
      ] refl
      | false ↦ λ e. elim (bytes_eq m n) as (λ b. bytes_eq m n ≡ b → is_pid q (cond b (Some p) there) ≡ last) [
        | true ↦ λ f. e ∙ sym (elsewhere e ∙ sym is ∙ ap (is_pid q) (untaken f))
        | false ↦ λ f. is ∙ sym (elsewhere e)
      ] refl
    ] refl

not_within : (n q : ℕ) → nat_eq n q ≡ false → n ≡ q → ⊥
not_within n q e is = let same = eq-eqb n q is in let clash : true ≡ false = sym same ∙ e in grind (arith, common_steps, clash)

-- of a name that one process has, nobody else is told
pub other_pid : (there : Option ℕ) (p q : ℕ) → is_pid p there ≡ true → nat_eq p q ≡ false → is_pid q there ≡ false
other_pid None p q is apart = refl
other_pid (Some r) p q is apart = let same = eqb-true r p is in ap (λ k. nat_eq k q) same ∙ apart

pub IsIndexed-started : (names : Names) (open_calls : Owners) (slots : List (Option ProcessEntry)) (name : Option (List ℕ)) (l : ProcessEntry) → IsIndexed names open_calls slots → l.process.name ≡ name → l.process.pid ≡ length slots → l.calls ≡ [] → IfSome name (λ n. get names n ≡ None) → IsIndexed (registered name (length slots) names) open_calls (slots ++ Some l ∷ [])
IsIndexed-started names open_calls slots name l indexed named own uncalled untaken = record {
  named = λ n q. elim name as (λ o. l.process.name ≡ o → IfSome o (λ m. get names m ≡ None) → is_pid q (get (registered o (length slots) names) n) ≡ is_named n (living_at (slots ++ Some l ∷ []) q)) [
    | None ↦ λ e free. indexed.named n q ∙ sym (kept_behind (is_named n) refl slots (Some l) (ap (is_name n) e) q)
    | Some m ↦ λ e free. ap (is_pid q) (names_read names m (Some (length slots)) n) ∙ named_last m n (length slots) q (get names n) (is_named n (living_at slots q)) (is_named n (living_at (slots ++ Some l ∷ []) q)) (indexed.named n q)
        (λ here. ap (λ k. is_named n (living_at (slots ++ Some l ∷ []) k)) (sym (eqb-true (length slots) q here)) ∙ ap (is_named n) (living_last slots (Some l)) ∙ ap (is_name n) e)
        (λ apart. ap (is_named n) (living_before slots (Some l) q (not_within (length slots) q apart)))
        (λ same. ap (get names) (sym (same_name m n same)) ∙ free)
        (λ here. ap (is_named n) (living_past slots q (let is = eqb-true (length slots) q here in omega (arith, is))))
  ] named untaken;
  asked = λ number client q. indexed.asked number client q ∙ sym (kept_behind (is_asked_by (record { client = client; number = number })) refl slots (Some l) (ap (has (record { client = client; number = number })) uncalled) q);
  ordered = λ q. elim (eqb_tells (length slots) q) [
    | inl here ↦ subst (λ k. IfSome (living_at (slots ++ Some l ∷ []) k) (λ x. AreInOrder x.calls)) here.1 (subst (λ o. IfSome o (λ x. AreInOrder x.calls)) (sym (living_last slots (Some l))) (subst AreInOrder (sym uncalled) tt))
    | inr apart ↦ subst (λ o. IfSome o (λ x. AreInOrder x.calls)) (sym (living_before slots (Some l) q apart.1)) (indexed.ordered q)
  ];
  owned = λ q. elim (eqb_tells (length slots) q) [
    | inl here ↦ subst (λ k. IfSome (living_at (slots ++ Some l ∷ []) k) (HasPid k)) here.1 (subst (λ o. IfSome o (HasPid (length slots))) (sym (living_last slots (Some l))) own)
    | inr apart ↦ subst (λ o. IfSome o (HasPid q)) (sym (living_before slots (Some l) q apart.1)) (indexed.owned q)
  ];
  nobody = nobody_before slots (Some l) (nobody_given slots indexed.nobody) ∙ indexed.nobody;
}

-- and without the last process, which has no calls
pub IsIndexed-unstarted : (names : Names) (open_calls : Owners) (slots : List (Option ProcessEntry)) (l : ProcessEntry) → IsIndexed names open_calls (slots ++ Some l ∷ []) → l.calls ≡ [] → 0 < length slots → IsIndexed (unregistered l.process.name names) open_calls slots
IsIndexed-unstarted names open_calls slots l indexed uncalled given = record {
  named = λ n q. elim l.process.name as (λ o. l.process.name ≡ o → is_pid q (get (unregistered o names) n) ≡ is_named n (living_at slots q)) [
    | None ↦ λ e. indexed.named n q ∙ kept_behind (is_named n) refl slots (Some l) (ap (is_name n) e) q
    | Some m ↦ λ e. ap (is_pid q) (names_read names m None n) ∙ elim (bytes_eq m n) as (λ b. bytes_eq m n ≡ b → is_pid q (cond b None (get names n)) ≡ is_named n (living_at slots q)) [
      | true ↦ λ same.
          let last : is_pid (length slots) (get names n) ≡ true = indexed.named n (length slots) ∙ ap (is_named n) (living_last slots (Some l)) ∙ ap (is_name n) e ∙ same in
          elim (eqb_tells (length slots) q) [
            | inl here ↦ sym (ap (is_named n) (living_past slots q (let is = here.1 in omega (arith, is))))
            | inr apart ↦ sym (ap (is_named n) (sym (living_before slots (Some l) q apart.1)) ∙ sym (indexed.named n q) ∙ other_pid (get names n) (length slots) q last apart.0)
          ]
      | false ↦ λ other. indexed.named n q ∙ kept_behind (is_named n) refl slots (Some l) (ap (is_name n) e ∙ other) q
    ] refl
  ] refl;
  asked = λ number client q. indexed.asked number client q ∙ kept_behind (is_asked_by (record { client = client; number = number })) refl slots (Some l) (ap (has (record { client = client; number = number })) uncalled) q;
  ordered = λ q. elim (eqb_tells (length slots) q) [
    | inl here ↦ subst (λ o. IfSome o (λ x. AreInOrder x.calls)) (sym (living_past slots q (let is = here.1 in omega (arith, is)))) tt
    | inr apart ↦ subst (λ o. IfSome o (λ x. AreInOrder x.calls)) (living_before slots (Some l) q apart.1) (indexed.ordered q)
  ];
  owned = λ q. elim (eqb_tells (length slots) q) [
    | inl here ↦ subst (λ o. IfSome o (HasPid q)) (sym (living_past slots q (let is = here.1 in omega (arith, is)))) tt
    | inr apart ↦ subst (λ o. IfSome o (HasPid q)) (living_before slots (Some l) q apart.1) (indexed.owned q)
  ];
  nobody = sym (nobody_before slots (Some l) given) ∙ indexed.nobody;
}

-- who is told of a number is told of it alone
pub owner_told : (there : Option Owner) (pid q c client : ℕ) → is_owner pid c there ≡ true → is_owner q client there ≡ (nat_eq pid q && nat_eq c client)
owner_told None pid q c client is = absurd (grind (arith, common_steps, is))
owner_told (Some o) pid q c client is = grind (arith, nat_tests, is)

-- a number that is not open is none of a process's calls
pub unasked_now : (c : Call) (pid : ℕ) (there : Option Owner) → there ≡ None → (o : Option ProcessEntry) (l : ProcessEntry) → is_owner pid c.client there ≡ is_asked_by c o → o ≡ Some l → has c l.calls ≡ false
unasked_now c pid there free o l told is = ap (is_asked_by c) (sym is) ∙ sym told ∙ ap (is_owner pid c.client) free

-- A call is open, or is no more: what is told of it, and of others. `there` is who was told of the number before, and `before` and
-- `after` whether the process of q was and is asked by the call of the client and the number.

told_open : (c : Call) (number client pid q : ℕ) (there : Option Owner) (before after : Bool) → is_owner q client there ≡ before → (nat_eq pid q ≡ true → after ≡ (is_same (record { client = client; number = number }) c || before)) → (nat_eq pid q ≡ false → after ≡ before) → (nat_eq c.number number ≡ true → there ≡ None) → is_owner q client (cond (nat_eq c.number number) (Some (record { pid = pid; client = c.client })) there) ≡ after
told_open c number client pid q there before after is here elsewhere free =
    elim (nat_eq c.number number) as (λ b. nat_eq c.number number ≡ b → is_owner q client (cond b (Some (record { pid = pid; client = c.client })) there) ≡ after) [
      | true ↦ λ e.
          let none : before ≡ false = sym is ∙ ap (is_owner q client) (free e) in
          elim (nat_eq pid q) as (λ b. nat_eq pid q ≡ b → (b && nat_eq c.client client) ≡ after) [
            | true ↦ λ f. let told = here f in grind (arith, nat_tests, e, none, told)
            | false ↦ λ f. sym (elsewhere f ∙ none)
          ] refl
      | false ↦ λ e. is ∙ elim (nat_eq pid q) as (λ b. nat_eq pid q ≡ b → before ≡ after) [
        | true ↦ λ f. let told = here f in grind (arith, nat_tests, e, told)
        | false ↦ λ f. sym (elsewhere f)
      ] refl
    ] refl

told_closed : (c : Call) (number client pid q : ℕ) (there : Option Owner) (before after : Bool) → is_owner q client there ≡ before → (nat_eq pid q ≡ true → after ≡ (not (is_same (record { client = client; number = number }) c) && before)) → (nat_eq pid q ≡ false → after ≡ before) → (nat_eq c.number number ≡ true → is_owner pid c.client there ≡ true) → is_owner q client (cond (nat_eq c.number number) None there) ≡ after
told_closed c number client pid q there before after is here elsewhere owned =
    elim (nat_eq c.number number) as (λ b. nat_eq c.number number ≡ b → is_owner q client (cond b None there) ≡ after) [
      | true ↦ λ e.
          let only : before ≡ (nat_eq pid q && nat_eq c.client client) = sym is ∙ owner_told there pid q c.client client (owned e) in
          elim (nat_eq pid q) as (λ b. nat_eq pid q ≡ b → false ≡ after) [
            | true ↦ λ f. let told = here f in grind (arith, nat_tests, e, f, only, told)
            | false ↦ λ f. let told = elsewhere f in grind (arith, nat_tests, f, only, told)
          ] refl
      | false ↦ λ e. is ∙ elim (nat_eq pid q) as (λ b. nat_eq pid q ≡ b → before ≡ after) [
        | true ↦ λ f. let told = here f in grind (arith, nat_tests, e, told)
        | false ↦ λ f. sym (elsewhere f)
      ] refl
    ] refl

pub IsIndexed-opened : (f : ProcessEntry → ProcessEntry) (c : Call) → ((l : ProcessEntry) → (f l).process.name ≡ l.process.name) → ((l : ProcessEntry) → (f l).process.pid ≡ l.process.pid) → ((l : ProcessEntry) → (f l).calls ≡ with_call c l.calls) → (names : Names) (open_calls : Owners) (slots : List (Option ProcessEntry)) (pid : ℕ) (l : ProcessEntry) → IsIndexed names open_calls slots → living_at slots pid ≡ Some l → get open_calls c.number ≡ None → IsIndexed names (asked_of pid (Some c) open_calls) (changed_slots f pid slots)
IsIndexed-opened f c same_name same_pid one_more names open_calls slots pid l indexed lives free = record {
  named = λ name q. indexed.named name q ∙ sym (kept (is_named name) f (λ x. ap (is_name name) (same_name x)) slots pid q);
  asked = λ number client q.
      let d : Call = record { client = client; number = number } in
      ap (is_owner q client) (numbers_read open_calls c.number (Some (record { pid = pid; client = c.client })) number) ∙ told_open c number client pid q (get open_calls number) (is_asked_by d (living_at slots q)) (is_asked_by d (living_at (changed_slots f pid slots) q)) (indexed.asked number client q)
      (λ here. let at = eqb-true pid q here in
      ap (λ k. is_asked_by d (living_at (changed_slots f pid slots) k)) (sym at) ∙ ap (is_asked_by d) (living_changed f slots pid ∙ ap (option_map f) lives) ∙ ap (has d) (one_more l) ∙ has-with_call d c l.calls ∙ ap (λ o. is_same d c || is_asked_by d o) (sym lives ∙ ap (living_at slots) at))
      (λ apart. ap (is_asked_by d) (living_elsewhere f slots pid q (not_within pid q apart)))
      (λ same. ap (get open_calls) (sym (eqb-true c.number number same)) ∙ free);
  ordered = λ q. elim (eqb_tells pid q) [
    | inl here ↦ subst (λ k. IfSome (living_at (changed_slots f pid slots) k) (λ x. AreInOrder x.calls)) here.1 (subst (λ o. IfSome o (λ x. AreInOrder x.calls)) (sym (living_changed f slots pid ∙ ap (option_map f) lives)) (subst AreInOrder (sym (one_more l)) (AreInOrder-with_call c l.calls (subst (λ o. IfSome o (λ x. AreInOrder x.calls)) lives (indexed.ordered pid)) (unasked_now c pid (get open_calls c.number) free (living_at slots pid) l (indexed.asked c.number c.client pid) lives))))
    | inr apart ↦ subst (λ o. IfSome o (λ x. AreInOrder x.calls)) (sym (living_elsewhere f slots pid q apart.1)) (indexed.ordered q)
  ];
  owned = λ q. kept_all (HasPid q) f (λ x is. same_pid x ∙ is) slots pid q (indexed.owned q);
  nobody = changed_nobody f slots pid indexed.nobody;
}

pub IsIndexed-closed : (f : ProcessEntry → ProcessEntry) (c : Call) → ((l : ProcessEntry) → (f l).process.name ≡ l.process.name) → ((l : ProcessEntry) → (f l).process.pid ≡ l.process.pid) → ((l : ProcessEntry) → (f l).calls ≡ without c l.calls) → (names : Names) (open_calls : Owners) (slots : List (Option ProcessEntry)) (pid : ℕ) (l : ProcessEntry) → IsIndexed names open_calls slots → living_at slots pid ≡ Some l → has c l.calls ≡ true → IsIndexed names (answered (Some c) open_calls) (changed_slots f pid slots)
IsIndexed-closed f c same_name same_pid one_less names open_calls slots pid l indexed lives asked = record {
  named = λ name q. indexed.named name q ∙ sym (kept (is_named name) f (λ x. ap (is_name name) (same_name x)) slots pid q);
  asked = λ number client q.
      let d : Call = record { client = client; number = number } in
      ap (is_owner q client) (numbers_read open_calls c.number None number) ∙ told_closed c number client pid q (get open_calls number) (is_asked_by d (living_at slots q)) (is_asked_by d (living_at (changed_slots f pid slots) q)) (indexed.asked number client q)
      (λ here. let at = eqb-true pid q here in
      ap (λ k. is_asked_by d (living_at (changed_slots f pid slots) k)) (sym at) ∙ ap (is_asked_by d) (living_changed f slots pid ∙ ap (option_map f) lives) ∙ ap (has d) (one_less l) ∙ has-without d c l.calls (subst (λ o. IfSome o (λ x. AreInOrder x.calls)) lives (indexed.ordered pid)) ∙ ap (λ o. not (is_same d c) && is_asked_by d o) (sym lives ∙ ap (living_at slots) at))
      (λ apart. ap (is_asked_by d) (living_elsewhere f slots pid q (not_within pid q apart)))
      (λ same. ap (λ n. is_owner pid c.client (get open_calls n)) (sym (eqb-true c.number number same)) ∙ indexed.asked c.number c.client pid ∙ ap (is_asked_by c) lives ∙ asked);
  ordered = λ q. kept_all (λ x. AreInOrder x.calls) f (λ x in_order. subst AreInOrder (sym (one_less x)) (AreInOrder-without c x.calls in_order)) slots pid q (indexed.ordered q);
  owned = λ q. kept_all (HasPid q) f (λ x is. same_pid x ∙ is) slots pid q (indexed.owned q);
  nobody = changed_nobody f slots pid indexed.nobody;
}
