-- Lemmas on open calls in order, and the set `calls_laws` of those that a crate above wants.
use Rattle.std.proofs.Common.{◌≡◌, ℕ, zero, suc, ◌<◌, ⊎_elim, Bool, true, false, cond, not, ◌&&◌, ◌||◌, List, [], ◌∷◌, length, get_or, All, refl, sym, ap, ◌∙◌, subst, arith}
use Rattle.std.specs.declared.cmp.Ordering.{Ordering}
use Rattle.std.specs.declared.cmp.Ordering.TheVariants.{Less, Equal, Greater}
use Rattle.std.specs.Ordering.{is_eq, match_ordering, nat_cmp, ordering_then}
use Rattle.std.specs.BTreeMap.{is_at}
use Rattle.std.specs.BTreeSet.{insert_key}
use Rattle.std.specs.Set.{remove_key}
use Rattle.std.specs.Bool.{Decides}
use Rattle.std.specs.List.{Contains}
use Rattle.std.proofs.lemmas.Bool.{cond-true, cond-false, and_parts, or_cases, or_parts, or_left, or_right, or_from, and_from, and_right, eqb-true, eq-eqb, true≢false}
use Rattle.std.proofs.lemmas.Bool.Decides.{nat_tests}
use Rattle.std.proofs.lemmas.List.Elements.{All-cons, All-head, All-tail, All-nil, All-weaker}
use Rattle.process_index.specs.declared.calls.Call.{Call}
use Rattle.process_index.specs.Calls.{is_same, is_before, AreInOrder, has, with_call, without}

-- One call and another

pub same_call : (c d : Call) → is_same c d ≡ true → c ≡ d
same_call c d same =
    let parts = and_parts _ _ same in
    let client = eqb-true c.client d.client parts.0 in
    let number = eqb-true c.number d.number parts.1 in
    λ i. record { client = client i; number = number i }

pub same_itself : (c : Call) → is_same c c ≡ true
same_itself c = and_from _ _ (eq-eqb c.client c.client refl) (eq-eqb c.number c.number refl)

pub is_same-Decides : (c d : Call) → Decides (is_same c d) (c ≡ d)
is_same-Decides c d = (same_call c d, λ e. subst (λ x. is_same c x ≡ true) e (same_itself c))

pub same_turned : (c d : Call) → is_same c d ≡ is_same d c
same_turned c d = grind (arith, nat_tests)

pub before-not_same : (c d : Call) → is_before c d ≡ true → is_same d c ≡ false
before-not_same c d before = grind (arith, nat_tests)

pub behind-not_same : (c d : Call) → is_before c d ≡ true → is_same c d ≡ false
behind-not_same c d before = same_turned c d ∙ before-not_same c d before

pub before-not_behind : (c d : Call) → is_before c d ≡ true → is_before d c ≡ false
before-not_behind c d before = grind (arith, nat_tests)

pub before-trans : (c d e : Call) → is_before c d ≡ true → is_before d e ≡ true → is_before c e ≡ true
before-trans c d e one other = grind (arith, nat_tests)

-- of two calls one comes first
pub before_or_behind : (c d : Call) → is_before d c ≡ false → is_same c d ≡ false → is_before c d ≡ true
before_or_behind c d not_before other = grind (arith, nat_tests)

-- Calls in order

-- none of those that a call comes before is that call
pub none_behind : (c : Call) (cs : List Call) → All (λ d. is_before c d ≡ true) cs → has c cs ≡ false
none_behind c [] behind = refl
none_behind c (d ∷ ds) behind =
    or_from _ _ (behind-not_same c d (All-head (λ e. is_before c e ≡ true) d ds behind)) (none_behind c ds (All-tail (λ e. is_before c e ≡ true) d ds behind))

-- a call that comes before the first of them comes before all
pub before_all : (c d : Call) (ds : List Call) → is_before c d ≡ true → AreInOrder (d ∷ ds) → All (λ e. is_before c e ≡ true) (d ∷ ds)
before_all c d ds before ordered =
    All-cons (λ e. is_before c e ≡ true) d ds before (All-weaker (λ e. is_before d e ≡ true) (λ e. is_before c e ≡ true) (λ e. before-trans c d e before) ds ordered.0)

-- A call put in and taken out by the order of its client and number

abbrev pub call_cmp : Call → Call → Ordering
call_cmp c d = ordering_then (nat_cmp c.client d.client) (nat_cmp c.number d.number)

-- the order tells which call is meant, and which comes first
told : (c d : Call) → call_cmp c d ≡ cond (is_same c d) Equal (cond (is_before d c) Greater Less)
told c d = grind (arith, nat_tests)

tied : (c d : Call) → is_eq (call_cmp c d) ≡ is_same c d
tied c d = grind (arith, nat_tests)

chosen : {A : Type 0} (before : Bool) (first same behind : A) → match_ordering (cond before Greater Less) first same behind ≡ cond before behind first
chosen true first same behind = refl
chosen false first same behind = refl

pub insert_key-with_call : (c : Call) (cs : List Call) → has c cs ≡ false → insert_key call_cmp cs c ≡ with_call c cs
insert_key-with_call c [] absent = refl
insert_key-with_call c (d ∷ ds) absent =
    let parts = or_parts _ _ absent in
    let apart = told c d ∙ cond-false (is_same c d) Equal (cond (is_before d c) Greater Less) parts.0 in
    ap (λ r. match_ordering r (c ∷ d ∷ ds) (d ∷ ds) (d ∷ insert_key call_cmp ds c)) apart
    ∙ chosen (is_before d c) (c ∷ d ∷ ds) (d ∷ ds) (d ∷ insert_key call_cmp ds c)
    ∙ ap (λ es. cond (is_before d c) (d ∷ es) (c ∷ d ∷ ds)) (insert_key-with_call c ds parts.1)

pub remove_key-without : (c : Call) (cs : List Call) → remove_key (is_at (call_cmp c)) cs ≡ without c cs
remove_key-without c [] = refl
remove_key-without c (d ∷ ds) =
    ap (λ b. cond b ds (d ∷ remove_key (is_at (call_cmp c)) ds)) (tied c d) ∙ ap (λ es. cond (is_same c d) ds (d ∷ es)) (remove_key-without c ds)

-- a call that is none of them, taken out
pub without-absent : (c : Call) (cs : List Call) → has c cs ≡ false → without c cs ≡ cs
without-absent c [] absent = refl
without-absent c (d ∷ ds) absent =
    let parts = or_parts _ _ absent in
    cond-false (is_same c d) ds (d ∷ without c ds) parts.0 ∙ ap (λ es. d ∷ es) (without-absent c ds parts.1)

-- The order is kept

All-with_call : (P : Call → Type 0) (c : Call) (cs : List Call) → P c → All P cs → All P (with_call c cs)
All-with_call P c [] here all = All-cons P c [] here all
All-with_call P c (d ∷ ds) here all =
    elim (is_before d c) as (λ b. All P (cond b (d ∷ with_call c ds) (c ∷ d ∷ ds))) [
      | true ↦ All-cons P d (with_call c ds) (All-head P d ds all) (All-with_call P c ds here (All-tail P d ds all))
      | false ↦ All-cons P c (d ∷ ds) here all
    ]

All-without : (P : Call → Type 0) (c : Call) (cs : List Call) → All P cs → All P (without c cs)
All-without P c [] all = all
All-without P c (d ∷ ds) all =
    elim (is_same c d) as (λ b. All P (cond b ds (d ∷ without c ds))) [
      | true ↦ All-tail P d ds all
      | false ↦ All-cons P d (without c ds) (All-head P d ds all) (All-without P c ds (All-tail P d ds all))
    ]

pub AreInOrder-with_call : (c : Call) (cs : List Call) → AreInOrder cs → has c cs ≡ false → AreInOrder (with_call c cs)
AreInOrder-with_call c [] ordered absent = (All-nil (λ d. is_before c d ≡ true), tt)
AreInOrder-with_call c (d ∷ ds) ordered absent =
    let parts = or_parts _ _ absent in
    elim (is_before d c) as (λ b. is_before d c ≡ b → AreInOrder (cond b (d ∷ with_call c ds) (c ∷ d ∷ ds))) [
      | true ↦ λ e. (All-with_call (λ x. is_before d x ≡ true) c ds e ordered.0, AreInOrder-with_call c ds ordered.1 parts.1)
      | false ↦ λ e. (before_all c d ds (before_or_behind c d e parts.0) ordered, ordered)
    ] refl

pub AreInOrder-without : (c : Call) (cs : List Call) → AreInOrder cs → AreInOrder (without c cs)
AreInOrder-without c [] ordered = ordered
AreInOrder-without c (d ∷ ds) ordered =
    elim (is_same c d) as (λ b. AreInOrder (cond b ds (d ∷ without c ds))) [
      | true ↦ ordered.1
      | false ↦ (All-without (λ x. is_before d x ≡ true) c ds ordered.0, AreInOrder-without c ds ordered.1)
    ]

-- One takes the other back

pub without-with_call : (c : Call) (cs : List Call) → has c cs ≡ false → without c (with_call c cs) ≡ cs
without-with_call c [] absent = cond-true (is_same c c) [] (c ∷ []) (same_itself c)
without-with_call c (d ∷ ds) absent =
    let parts = or_parts _ _ absent in
    elim (is_before d c) as (λ b. without c (cond b (d ∷ with_call c ds) (c ∷ d ∷ ds)) ≡ d ∷ ds) [
      | true ↦ cond-false (is_same c d) (with_call c ds) (d ∷ without c (with_call c ds)) parts.0 ∙ ap (λ es. d ∷ es) (without-with_call c ds parts.1)
      | false ↦ cond-true (is_same c c) (d ∷ ds) (c ∷ without c (d ∷ ds)) (same_itself c)
    ]

-- a call that comes before all of them is put first
with_call-first : (c : Call) (cs : List Call) → All (λ d. is_before c d ≡ true) cs → with_call c cs ≡ c ∷ cs
with_call-first c [] before = refl
with_call-first c (d ∷ ds) before =
    cond-false (is_before d c) (d ∷ with_call c ds) (c ∷ d ∷ ds) (before-not_behind c d (All-head (λ e. is_before c e ≡ true) d ds before))

-- and one of those behind a call comes behind it
before-has : (d c : Call) (cs : List Call) → All (λ e. is_before d e ≡ true) cs → has c cs ≡ true → is_before d c ≡ true
before-has d c [] before there = absurd (true≢false (sym there))
before-has d c (e ∷ es) before there =
    ⊎_elim (λ same. subst (λ x. is_before d x ≡ true) (sym (same_call c e same)) (All-head (λ x. is_before d x ≡ true) e es before)) (λ later. before-has d c es (All-tail (λ x. is_before d x ≡ true) e es before) later) (or_cases _ _ there)

pub with_call-without : (c : Call) (cs : List Call) → AreInOrder cs → has c cs ≡ true → with_call c (without c cs) ≡ cs
with_call-without c [] ordered there = absurd (true≢false (sym there))
with_call-without c (d ∷ ds) ordered there =
    elim (is_same c d) as (λ b. is_same c d ≡ b → (b || has c ds) ≡ true → with_call c (cond b ds (d ∷ without c ds)) ≡ d ∷ ds) [
      | true ↦ λ e _. subst (λ x. with_call x ds ≡ d ∷ ds) (sym (same_call c d e)) (with_call-first d ds ordered.0)
      | false ↦ λ e later. cond-true (is_before d c) (d ∷ with_call c (without c ds)) (c ∷ d ∷ without c ds) (before-has d c ds ordered.0 later) ∙ ap (λ es. d ∷ es) (with_call-without c ds ordered.1 later)
    ] refl there

-- What is there afterwards

swapped : (a b r : Bool) → (a || (b || r)) ≡ (b || (a || r))
swapped true true r = refl
swapped true false r = refl
swapped false b r = refl

pub has-with_call : (d c : Call) (cs : List Call) → has d (with_call c cs) ≡ (is_same d c || has d cs)
has-with_call d c [] = refl
has-with_call d c (e ∷ es) =
    elim (is_before e c) as (λ b. has d (cond b (e ∷ with_call c es) (c ∷ e ∷ es)) ≡ (is_same d c || (is_same d e || has d es))) [
      | true ↦ ap (λ r. is_same d e || r) (has-with_call d c es) ∙ swapped (is_same d e) (is_same d c) (has d es)
      | false ↦ refl
    ]

-- a call is not each of two that differ
both : (d c e : Call) → is_same c e ≡ false → is_same d c ≡ true → is_same d e ≡ false
both d c e other same = subst (λ x. is_same x e ≡ false) (sym (same_call d c same)) other

kept : (a b r : Bool) → (a ≡ true → b ≡ false) → (b || (not a && r)) ≡ (not a && (b || r))
kept true b r apart = or_from b false (apart refl) refl
kept false b r apart = refl

first_gone : (d e : Call) (es : List Call) → All (λ x. is_before e x ≡ true) es → has d es ≡ (not (is_same d e) && (is_same d e || has d es))
first_gone d e es behind =
    elim (is_same d e) as (λ b. is_same d e ≡ b → has d es ≡ (not b && (b || has d es))) [
      | true ↦ λ same. subst (λ x. has x es ≡ false) (sym (same_call d e same)) (none_behind e es behind)
      | false ↦ λ _. refl
    ] refl

pub has-without : (d c : Call) (cs : List Call) → AreInOrder cs → has d (without c cs) ≡ (not (is_same d c) && has d cs)
has-without d c [] ordered = sym (and_right (not (is_same d c)) false refl)
has-without d c (e ∷ es) ordered =
    elim (is_same c e) as (λ b. is_same c e ≡ b → has d (cond b es (e ∷ without c es)) ≡ (not (is_same d c) && (is_same d e || has d es))) [
      | true ↦ λ same. subst (λ x. has d es ≡ (not (is_same d x) && (is_same d e || has d es))) (sym (same_call c e same)) (first_gone d e es ordered.0)
      | false ↦ λ other. ap (λ r. is_same d e || r) (has-without d c es ordered.1) ∙ kept (is_same d c) (is_same d e) (has d es) (both d c e other)
    ] refl

stands-has : (c : Call) (cs : List Call) (k : ℕ) → k < length cs → get_or cs k c ≡ c → has c cs ≡ true
stands-has c [] k below at = absurd (omega arith)
stands-has c (d ∷ ds) zero below at = or_left _ _ ((is_same-Decides c d).1 (sym at))
stands-has c (d ∷ ds) (suc k) below at = or_right _ _ (stands-has c ds k (omega arith) at)

-- to be one of them is to stand among them
pub has-Decides : (c : Call) (cs : List Call) → Decides (has c cs) (Contains cs c)
has-Decides c [] = (λ there. absurd (true≢false (sym there)), λ (k, below, _). absurd (omega arith))
has-Decides c (d ∷ ds) =
    let rest = has-Decides c ds in
    (λ there. ⊎_elim (λ same. (0, omega arith, sym (same_call c d same))) (λ later. let (k, below, at) = rest.0 later in (suc k, omega arith, at)) (or_cases _ _ there), λ (k, below, at). stands-has c (d ∷ ds) k below at)

-- Calls in order are told by which they are

first-has : (c : Call) (cs : List Call) → has c (c ∷ cs) ≡ true
first-has c cs = or_left _ _ (same_itself c)

-- those behind one call, where the same calls stand with it
tails : (c : Call) (cs ds : List Call) → AreInOrder (c ∷ cs) → AreInOrder (c ∷ ds) → ((x : Call) → has x (c ∷ cs) ≡ has x (c ∷ ds)) → (x : Call) → has x cs ≡ has x ds
tails c cs ds one other same x =
    elim (is_same x c) as (λ b. is_same x c ≡ b → (b || has x cs) ≡ (b || has x ds) → has x cs ≡ has x ds) [
      | true ↦ λ e _. subst (λ y. has y cs ≡ has y ds) (sym (same_call x c e)) (none_behind c cs one.0 ∙ sym (none_behind c ds other.0))
      | false ↦ λ _ rest. rest
    ] refl (same x)

-- a call that comes before the first is none of them
not_before : (c d : Call) (cs ds : List Call) → AreInOrder (d ∷ ds) → has c (c ∷ cs) ≡ has c (d ∷ ds) → is_before c d ≡ true → ⊥
not_before c d cs ds ordered same before =
    true≢false (sym (first-has c cs) ∙ same ∙ none_behind c (d ∷ ds) (before_all c d ds before ordered))

pub calls_one : (cs ds : List Call) → AreInOrder cs → AreInOrder ds → ((c : Call) → has c cs ≡ has c ds) → cs ≡ ds
calls_one [] [] one other same = refl
calls_one [] (d ∷ ds) one other same = absurd (true≢false (sym (first-has d ds) ∙ sym (same d)))
calls_one (c ∷ cs) [] one other same = absurd (true≢false (sym (first-has c cs) ∙ same c))
calls_one (c ∷ cs) (d ∷ ds) one other same =
    elim (is_same c d) as (λ b. is_same c d ≡ b → c ∷ cs ≡ d ∷ ds) [
      | true ↦ λ e.
          let as_one = same_call c d e in
          let turned = sym as_one in
          let order = subst (λ x. AreInOrder (x ∷ ds)) turned other in
          let alike = subst (λ x. (y : Call) → has y (c ∷ cs) ≡ has y (x ∷ ds)) turned same in
          ap (λ x. x ∷ cs) as_one ∙ ap (λ xs. d ∷ xs) (calls_one cs ds one.1 other.1 (tails c cs ds one order alike))
      | false ↦ λ e. elim (is_before d c) as (λ b. is_before d c ≡ b → c ∷ cs ≡ d ∷ ds) [
        | true ↦ λ before. absurd (not_before d c ds cs one (sym (same d)) before)
        | false ↦ λ behind. absurd (not_before c d cs ds other (same c) (before_or_behind c d behind e))
      ] refl
    ] refl

pub ruleset calls_laws = (without-with_call, with_call-without, without-absent, has-with_call, has-without, AreInOrder-with_call, AreInOrder-without)
