-- An open call is closed, and is open again.
use Rattle.std.proofs.Common.{◌≡◌, ℕ, true, false, cond, ◌&&◌, nat_eq, List, [], ◌∷◌, Option, None, Some, IfSome, IsSome, is_some, option_map, refl, sym, ap, subst, ◌∙◌, arith}
use Rattle.std.proofs.lemmas.Bool.{and_parts, eq-eqb, eqb-true, or_right, true≢false}
use Rattle.std.proofs.lemmas.Bool.Decides.{nat_tests}
use Rattle.std.proofs.lemmas.Grind.{common_steps}
use Rattle.std.specs.FinMap.{get}
use Rattle.process_index.proofs.Index.{numbers_read}
use Rattle.process_index.proofs.OpenCalls.{with_call-without, without-with_call}
use Rattle.process_index.specs.Calls.{AreInOrder, has}
use Rattle.process_index.specs.declared.calls.Call.{Call}
use Rattle.process_index.specs.declared.numbers.Owner.{Owner}
use Rattle.process_index.specs.Index.{Names, put}
use Rattle.process_index.specs.Numbers.{Owners}
use Rattle.process_store.specs.declared.living.ProcessEntry.{ProcessEntry}
use Rattle.process_store.specs.Changes.{CanReopen, call_at, closed_living, numbered, owner_at, owner_of, reopened_living}
use Rattle.process_store.specs.Indexed.{IsIndexed, answered, asked_of, is_asked_by, is_owner}
use Rattle.process_store.specs.Table.{Table, changed_slots, is_asked, living_at}
use Rattle.process_store.proofs.Indexes.{IsIndexed-closed, IsIndexed-opened, asked_by_index, asked_once, nobody, somebody, unasked}
use Rattle.process_store.proofs.Slots.{living_changed, slots_back}

-- of calls of which one client alone has a call of the number, the first of the number is that client's
numbered_one : (cs : List Call) (number client : ℕ) → has (record { client = client; number = number }) cs ≡ true → ((d : ℕ) → has (record { client = d; number = number }) cs ≡ true → nat_eq client d ≡ true) → numbered number cs ≡ Some (record { client = client; number = number })
numbered_one [] number client there only = absurd (true≢false (sym there))
numbered_one (c ∷ cs) number client there only =
    elim (nat_eq c.number number) as (λ b. nat_eq c.number number ≡ b → cond b (Some c) (numbered number cs) ≡ Some (record { client = client; number = number })) [
      | true ↦ λ e.
          let first : has (record { client = c.client; number = number }) (c ∷ cs) ≡ true = grind (arith, nat_tests, e) in
          let one = eqb-true client c.client (only c.client first) in
          let same = eqb-true c.number number e in
          λ i. Some (record { client = sym one i; number = same i })
      | false ↦ λ e. numbered_one cs number client (grind (arith, common_steps, there, e)) (λ d later. only d (or_right _ _ later))
    ] refl

-- The open call of a number, as the index tells it.
module _ (names : Names) (open_calls : Owners) (slots : List (Option ProcessEntry)) (number : ℕ) (o : Owner) (indexed : IsIndexed names open_calls slots) (at : get open_calls number ≡ Some o) where
  told : (client pid : ℕ) → is_asked_by (record { client = client; number = number }) (living_at slots pid) ≡ (nat_eq o.pid pid && nat_eq o.client client)
  told client pid = sym (indexed.asked number client pid) ∙ ap (is_owner pid client) at

  -- its owner was asked
  pub owner_asked : is_asked_by (record { client = o.client; number = number }) (living_at slots o.pid) ≡ true
  owner_asked = told o.client o.pid ∙ grind (arith, common_steps)

  asked_alone : (pid : ℕ) → nat_eq o.pid pid ≡ is_asked number (living_at slots pid)
  asked_alone pid =
      elim (nat_eq o.pid pid) as (λ b. nat_eq o.pid pid ≡ b → b ≡ is_asked number (living_at slots pid)) [
        | true ↦ λ e. sym (asked_once (living_at slots pid) number o.client (told o.client pid ∙ ap (λ b. b && nat_eq o.client o.client) e ∙ eq-eqb o.client o.client refl))
        | false ↦ λ e. sym (unasked (living_at slots pid) number (λ client. told client pid ∙ ap (λ b. b && nat_eq o.client client) e))
      ] refl

  owner_call : call_at number (living_at slots o.pid) ≡ Some (record { client = o.client; number = number })
  owner_call =
      elim (living_at slots o.pid) as (λ x. living_at slots o.pid ≡ x → call_at number x ≡ Some (record { client = o.client; number = number })) [
        | None ↦ λ e. absurd (true≢false (sym owner_asked ∙ ap (is_asked_by (record { client = o.client; number = number })) e))
        | Some l ↦ λ e. numbered_one l.calls number o.client (ap (is_asked_by (record { client = o.client; number = number })) (sym e) ∙ owner_asked) (λ d there.
            (and_parts _ _ (sym (told d o.pid) ∙ ap (is_asked_by (record { client = d; number = number })) e ∙ there)).1)
      ] refl

  pub owner_is : (t : Table) → record { slots = slots } ≡ t → Some (o.pid, record { client = o.client; number = number }) ≡ owner_of number t
  owner_is t is =
      let found = ap (λ p. owner_at number p (record { slots = slots })) (somebody (is_asked number) refl slots o.pid asked_alone) in
      sym (found ∙ ap (option_map (λ (c : Call). (o.pid, c))) owner_call) ∙ ap (owner_of number) is

-- a number that is not open is nobody's
pub no_owner : (names : Names) (open_calls : Owners) (slots : List (Option ProcessEntry)) (t : Table) (number : ℕ) → IsIndexed names open_calls slots → record { slots = slots } ≡ t → get open_calls number ≡ None → None ≡ owner_of number t
no_owner names open_calls slots t number indexed is at =
    let none = nobody (is_asked number) refl slots (λ pid. unasked (living_at slots pid) number (λ client. sym (indexed.asked number client pid) ∙ ap (is_owner pid client) at)) in
    sym (ap (λ p. owner_at number p (record { slots = slots })) none) ∙ ap (owner_of number) is

-- The call is closed.

asked_lives : (c : Call) (o : Option ProcessEntry) → is_asked_by c o ≡ true → (f : ProcessEntry → ProcessEntry) → IsSome (option_map f o)
asked_lives c None asked f = absurd (true≢false (sym asked))
asked_lives c (Some l) asked f = refl

pub closed_indexed : (names : Names) (open_calls after : Owners) (slots now : List (Option ProcessEntry)) (c : Call) (pid : ℕ) → IsIndexed names open_calls slots → is_asked_by c (living_at slots pid) ≡ true → after ≡ put c.number None open_calls → now ≡ changed_slots (closed_living c) pid slots → IsIndexed names after now
closed_indexed names open_calls after slots now c pid indexed asked was is =
    elim (living_at slots pid) as (λ o. living_at slots pid ≡ o → is_asked_by c o ≡ true → IsIndexed names after now) [
      | None ↦ λ e none. absurd (true≢false (sym none))
      | Some l ↦ λ e some. subst (λ o. IsIndexed names o now) (sym was) (subst (IsIndexed names (answered (Some c) open_calls)) (sym is) (IsIndexed-closed (closed_living c) c (λ x. refl) (λ x. refl) (λ x. refl) names open_calls slots pid l indexed e some))
    ] refl asked

-- it can be open again
pub closed_returns : (names : Names) (open_calls after : Owners) (slots now : List (Option ProcessEntry)) (c : Call) (pid : ℕ) → IsIndexed names open_calls slots → is_asked_by c (living_at slots pid) ≡ true → after ≡ put c.number None open_calls → now ≡ changed_slots (closed_living c) pid slots → CanReopen pid c (record { slots = now })
closed_returns names open_calls after slots now c pid indexed asked was is =
    let f = closed_living c in
    let right = closed_indexed names open_calls after slots now c pid indexed asked was is in
    let shut : get after c.number ≡ None = ap (λ m. get m c.number) was ∙ numbers_read open_calls c.number None c.number ∙ ap (λ b. cond b None (get open_calls c.number)) (eq-eqb c.number c.number refl) in (
      subst IsSome (sym (ap (λ x. living_at x pid) is ∙ living_changed f slots pid)) (asked_lives c (living_at slots pid) asked f),
      sym (asked_by_index names after now (record { slots = now }) c.number right refl) ∙ ap is_some shut,
    )

-- and is then as it was
pub closed_back : (names : Names) (open_calls : Owners) (slots now : List (Option ProcessEntry)) (t : Table) (c : Call) (pid : ℕ) → IsIndexed names open_calls slots → is_asked_by c (living_at slots pid) ≡ true → now ≡ changed_slots (closed_living c) pid slots → record { slots = slots } ≡ t → ◌≡◌ {A = Table} (record { slots = changed_slots (reopened_living c) pid now }) t
closed_back names open_calls slots now t c pid indexed asked is was =
    let back = slots_back (closed_living c) (reopened_living c) slots pid (λ l e.
    let ordered : AreInOrder l.calls = subst (λ o. IfSome o (λ x. AreInOrder x.calls)) e (indexed.ordered pid) in
    let there : has c l.calls ≡ true = ap (is_asked_by c) (sym e) ∙ asked in
    λ i. record l { calls = with_call-without c l.calls ordered there i }) in
    ap (λ x. record { slots = x }) (ap (changed_slots (reopened_living c) pid) is ∙ back) ∙ was

-- The call is open again.

pub reopened_indexed : (names : Names) (open_calls after : Owners) (slots now : List (Option ProcessEntry)) (c : Call) (pid : ℕ) → IsIndexed names open_calls slots → IsSome (living_at slots pid) → get open_calls c.number ≡ None → after ≡ asked_of pid (Some c) open_calls → now ≡ changed_slots (reopened_living c) pid slots → IsIndexed names after now
reopened_indexed names open_calls after slots now c pid indexed lives free was is =
    elim (living_at slots pid) as (λ o. living_at slots pid ≡ o → IsSome o → IsIndexed names after now) [
      | None ↦ λ e none. absurd (true≢false (sym none))
      | Some l ↦ λ e some. subst (λ o. IsIndexed names o now) (sym was) (subst (IsIndexed names (asked_of pid (Some c) open_calls)) (sym is) (IsIndexed-opened (reopened_living c) c (λ x. refl) (λ x. refl) (λ x. refl) names open_calls slots pid l indexed e free))
    ] refl lives

pub slots_reopened_back : (slots : List (Option ProcessEntry)) (c : Call) (pid : ℕ) → IfSome (living_at slots pid) (λ l. has c l.calls ≡ false) → changed_slots (closed_living c) pid (changed_slots (reopened_living c) pid slots) ≡ slots
slots_reopened_back slots c pid free = slots_back (reopened_living c) (closed_living c) slots pid (λ l e.
    let absent : has c l.calls ≡ false = subst (λ o. IfSome o (λ x. has c x.calls ≡ false)) e free in
    λ i. record l { calls = without-with_call c l.calls absent i })

-- it is its process's
pub reopened_owner : (names : Names) (open_calls after : Owners) (slots now : List (Option ProcessEntry)) (c : Call) (pid : ℕ) → IsIndexed names open_calls slots → IsSome (living_at slots pid) → get open_calls c.number ≡ None → after ≡ asked_of pid (Some c) open_calls → now ≡ changed_slots (reopened_living c) pid slots → owner_of c.number (record { slots = now }) ≡ Some (pid, c)
reopened_owner names open_calls after slots now c pid indexed lives free was is =
    let o : Owner = record { pid = pid; client = c.client } in
    let at : get after c.number ≡ Some o = ap (λ m. get m c.number) was ∙ numbers_read open_calls c.number (Some o) c.number ∙ ap (λ b. cond b (Some o) (get open_calls c.number)) (eq-eqb c.number c.number refl) in
    sym (owner_is names after now c.number o (reopened_indexed names open_calls after slots now c pid indexed lives free was is) at (record { slots = now }) refl)

-- and to close it takes that back
pub reopened_back : (slots now : List (Option ProcessEntry)) (t : Table) (c : Call) (pid : ℕ) → IfSome (living_at slots pid) (λ l. has c l.calls ≡ false) → now ≡ changed_slots (reopened_living c) pid slots → record { slots = slots } ≡ t → ◌≡◌ {A = Table} (record { slots = changed_slots (closed_living c) pid now }) t
reopened_back slots now t c pid free is was =
    ap (λ x. record { slots = x }) (ap (changed_slots (closed_living c) pid) is ∙ slots_reopened_back slots c pid free) ∙ was
