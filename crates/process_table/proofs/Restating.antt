-- Several gen_server processes get other states, and have their former ones again.
use Rattle.std.proofs.Common.{◌≡◌, ℕ, zero, suc, ◌+◌, ◌-◌, ◌<◌, ◌≤◌, All, cond, inl, inr, nat_eq, List, [], ◌∷◌, ◌++◌, length, map, get_or, set, take, drop, Option, None, Some, option_map, refl, sym, ap, subst, ◌∙◌, arith, take-append-drop}
use Rattle.std.proofs.lemmas.Bool.Decides.{eqb_tells}
use Rattle.std.proofs.lemmas.List.{drop-set-lt, drop_all, drop_more, take_all, take_more_set}
use Rattle.std.proofs.lemmas.List.Elements.{All-cons, All-head, All-nil, All-push, All-same, All-tail}
use Rattle.erl_term.specs.declared.term.Term.{Term}
use Rattle.erl_semantics.specs.declared.acts.Place.{Place}
use Rattle.process.specs.declared.activity.Activity.{Activity}
use Rattle.process.specs.declared.activity.Activity.TheVariants.{Idle, Suspended, Runs}
use Rattle.process.specs.Process.{with_state}
use Rattle.process_store.specs.declared.living.ProcessEntry.{ProcessEntry}
use Rattle.process_store.specs.Changes.{CanRestate, CanUnrestate, restate_living, unrestate_living}
use Rattle.process_store.specs.Pieces.{AreLost, HoldsLost, IsNotAmong, at_place, living_pieces, pieces_at, ran_pieces, waiting}
use Rattle.process_store.specs.Table.{Table, changed, changed_slots, living}
use Rattle.process_store.proofs.Slots.{living_changed, living_elsewhere}
use Rattle.process_table.specs.States.{AreApart, CanUnrestateAll, all_restated, all_unrestated, held_places, place_before}
use Rattle.process_table.specs.declared.states.StateChange.{StateChange}
use Rattle.process_table.proofs.Resuming.{same_mapped}

abbrev IsFrom : ℕ → StateChange → Type 0
IsFrom pid d = pid ≡ d.pid → ⊥

abbrev pids : List StateChange → List ℕ
pids cs = map (λ (c : StateChange). c.pid) cs

abbrev back_of : StateChange → ProcessEntry → ProcessEntry
back_of c l = unrestate_living c.state c.turns l

abbrev table : List (Option ProcessEntry) → Table
table slots = record { slots = slots }

-- Changes of two processes, in either order.

in_turn : (f g : ProcessEntry → ProcessEntry) (slots : List (Option ProcessEntry)) (p q : ℕ) → (p ≡ q → ⊥) → changed_slots f p (changed_slots g q slots) ≡ changed_slots g q (changed_slots f p slots)
in_turn f g [] p q apart = refl
in_turn f g (s ∷ ss) zero zero apart = absurd (apart refl)
in_turn f g (s ∷ ss) zero (suc q) apart = refl
in_turn f g (s ∷ ss) (suc p) zero apart = refl
in_turn f g (s ∷ ss) (suc p) (suc q) apart = ap (λ xs. s ∷ xs) (in_turn f g ss p q (λ e. apart (ap suc e)))

one_first : (f : ProcessEntry → ProcessEntry) (pid : ℕ) (cs : List StateChange) (t : Table) → All (IsFrom pid) cs → all_unrestated cs (changed f pid t) ≡ changed f pid (all_unrestated cs t)
one_first f pid [] t apart = refl
one_first f pid (c ∷ cs) t apart =
    ap (λ ss. all_unrestated cs (table ss)) (in_turn (back_of c) f t.slots c.pid pid (λ e. All-head (IsFrom pid) c cs apart (sym e)))
    ∙ one_first f pid cs (changed (back_of c) c.pid t) (All-tail (IsFrom pid) c cs apart)

unrestated_more : (cs : List StateChange) (c : StateChange) (t : Table) → all_unrestated (cs ++ c ∷ []) t ≡ changed (back_of c) c.pid (all_unrestated cs t)
unrestated_more [] c t = refl
unrestated_more (x ∷ cs) c t = unrestated_more cs c (changed (back_of x) x.pid t)

-- The others are as they were.

living_still : (pid : ℕ) (cs : List StateChange) (t : Table) → All (IsFrom pid) cs → living pid (all_unrestated cs t) ≡ living pid t
living_still pid [] t apart = refl
living_still pid (c ∷ cs) t apart =
    living_still pid cs (changed (back_of c) c.pid t) (All-tail (IsFrom pid) c cs apart)
    ∙ living_elsewhere (back_of c) t.slots c.pid pid (λ e. All-head (IsFrom pid) c cs apart (sym e))

can_still : (Can : ℕ → Option ProcessEntry → Type 0) (f : ProcessEntry → ProcessEntry) (pid : ℕ) (cs : List StateChange) (t : Table) → All (IsFrom pid) cs → All (λ d. Can d.turns (living d.pid t)) cs → All (λ d. Can d.turns (living d.pid (changed f pid t))) cs
can_still Can f pid cs t apart can k d within =
    let x = get_or cs k d in
    subst (Can x.turns) (sym (living_elsewhere f t.slots pid x.pid (apart k d within))) (can k d within)

-- Who is apart from whom.

middle : (P : StateChange → Type 0) (front : List StateChange) (c : StateChange) (behind : List StateChange) → All P (front ++ c ∷ behind) → P c
middle P [] c behind all = All-head P c behind all
middle P (x ∷ front) c behind all = middle P front c behind (All-tail P x (front ++ c ∷ behind) all)

apart_parts : (front : List StateChange) (c : StateChange) (behind : List StateChange) → AreApart (front ++ c ∷ behind) → All (IsFrom c.pid) front × All (IsFrom c.pid) behind
apart_parts [] c behind apart = (All-nil (IsFrom c.pid), apart.0)
apart_parts (x ∷ front) c behind apart =
    let rest = apart_parts front c behind apart.1 in
    (All-cons (IsFrom c.pid) x front (λ e. middle (IsFrom x.pid) front c behind apart.0 (sym e)) rest.0, rest.1)

from_same : (p q : ℕ) (xs ys : List StateChange) → p ≡ q → pids xs ≡ pids ys → All (IsFrom p) xs → All (IsFrom q) ys
from_same p q xs [] e same apart = All-nil (IsFrom q)
from_same p q [] (y ∷ ys) e same apart = cc
from_same p q (x ∷ xs) (y ∷ ys) e same apart =
    let first : x.pid ≡ y.pid = cc in
    let rest : pids xs ≡ pids ys = cc in
    All-cons (IsFrom q) y ys (λ is. All-head (IsFrom p) x xs apart (e ∙ is ∙ sym first)) (from_same p q xs ys e rest (All-tail (IsFrom p) x xs apart))

apart_same : (xs ys : List StateChange) → pids xs ≡ pids ys → AreApart xs → AreApart ys
apart_same xs [] same apart = tt
apart_same [] (y ∷ ys) same apart = cc
apart_same (x ∷ xs) (y ∷ ys) same apart =
    let first : x.pid ≡ y.pid = cc in
    let rest : pids xs ≡ pids ys = cc in
    (from_same x.pid y.pid xs ys first rest apart.0, apart_same xs ys rest apart.1)

-- those before an index, and those behind it, are apart from the one there
apart_at : (before cs : List StateChange) (i : ℕ) (c : StateChange) → i < length cs → c ≡ get_or cs i c → pids cs ≡ pids before → AreApart before → All (IsFrom c.pid) (take i cs) × All (IsFrom c.pid) (drop (i + 1) cs)
apart_at before cs i c within at same apart =
    let split : cs ≡ take i cs ++ c ∷ drop (i + 1) cs = sym (take-append-drop i cs) ∙ ap (λ xs. take i cs ++ xs) (drop_more cs i c within ∙ ap (λ x. x ∷ drop (i + 1) cs) (sym at)) in
    apart_parts (take i cs) c (drop (i + 1) cs) (subst AreApart split (apart_same before cs (sym same) apart))

-- Those so far have other states, and can have their former ones again.

pub record AreRestated (before : List StateChange) (first : Table) (i : ℕ) (cs : List StateChange) (t : Table) : Type 0 where
  pub pids : map (λ (c : StateChange). c.pid) cs ≡ map (λ (c : StateChange). c.pid) before
  pub turns : map (λ (c : StateChange). c.turns) cs ≡ map (λ (c : StateChange). c.turns) before
  pub restated : all_restated (drop i cs) t ≡ all_restated before first
  pub can : All (λ (c : StateChange). CanRestate c.turns (living c.pid t)) (drop i cs)
  pub done : All (λ (c : StateChange). CanUnrestate c.turns (living c.pid t)) (take i cs)
  pub back : all_unrestated (take i cs) t ≡ first

pub can_next : (before cs : List StateChange) (first t : Table) (i : ℕ) (c : StateChange) → i < length cs → c ≡ get_or cs i c → AreRestated before first i cs t → CanRestate c.turns (living c.pid t)
can_next before cs first t i c within at so_far =
    let left : drop i cs ≡ c ∷ drop (i + 1) cs = drop_more cs i c within ∙ ap (λ x. x ∷ drop (i + 1) cs) (sym at) in
    All-head (λ (d : StateChange). CanRestate d.turns (living d.pid t)) c (drop (i + 1) cs) (subst (All (λ (d : StateChange). CanRestate d.turns (living d.pid t))) left so_far.can)

pub one_restated : (before cs : List StateChange) (first t after : Table) (i : ℕ) (c w : StateChange) → i < length cs → c ≡ get_or cs i c → AreApart before → w.pid ≡ c.pid → w.turns ≡ c.turns → after ≡ changed (restate_living c.state c.turns) c.pid t → changed (unrestate_living w.state c.turns) c.pid after ≡ t → CanUnrestate c.turns (living c.pid after) → AreRestated before first i cs t → AreRestated before first (i + 1) (set cs i w) after
one_restated before cs first t after i c w within at apart pid turns is back fits so_far =
    let left : drop i cs ≡ c ∷ drop (i + 1) cs = drop_more cs i c within ∙ ap (λ x. x ∷ drop (i + 1) cs) (sym at) in
    let from = apart_at before cs i c within at so_far.pids apart in
    let Can : StateChange → Type 0 = λ d. CanRestate d.turns (living d.pid t) in
    let CanThen : StateChange → Type 0 = λ d. CanRestate d.turns (living d.pid after) in
    let CanBack : StateChange → Type 0 = λ d. CanUnrestate d.turns (living d.pid after) in
    let can : All CanThen (drop (i + 1) cs) = subst (λ x. All (λ (d : StateChange). CanRestate d.turns (living d.pid x)) (drop (i + 1) cs)) (sym is) (can_still CanRestate (restate_living c.state c.turns) c.pid (drop (i + 1) cs) t from.1 (All-tail Can c (drop (i + 1) cs) (subst (All Can) left so_far.can))) in
    let done : All CanBack (take i cs) = subst (λ x. All (λ (d : StateChange). CanUnrestate d.turns (living d.pid x)) (take i cs)) (sym is) (can_still CanUnrestate (restate_living c.state c.turns) c.pid (take i cs) t from.0 so_far.done) in
    let one : CanBack w = subst (λ n. CanUnrestate n (living w.pid after)) (sym turns) (subst (λ p. CanUnrestate c.turns (living p after)) (sym pid) fits) in
    record {
      pids = same_mapped (λ (x : StateChange). x.pid) cs i c w at pid ∙ so_far.pids;
      turns = same_mapped (λ (x : StateChange). x.turns) cs i c w at turns ∙ so_far.turns;
      restated =
          ap (λ xs. all_restated xs after) (drop-set-lt (i + 1) cs i w (omega arith))
          ∙ ap (all_restated (drop (i + 1) cs)) is
          ∙ ap (λ xs. all_restated xs t) (sym left)
          ∙ so_far.restated;
      can = All-same CanThen (drop (i + 1) (set cs i w)) (drop (i + 1) cs) (drop-set-lt (i + 1) cs i w (omega arith)) can;
      done = All-same CanBack (take (i + 1) (set cs i w)) (take i cs ++ w ∷ []) (take_more_set cs i w within) (All-push CanBack (take i cs) w done one);
      back =
          ap (λ xs. all_unrestated xs after) (take_more_set cs i w within)
          ∙ unrestated_more (take i cs) w after
          ∙ (λ k. changed (unrestate_living w.state (turns k)) (pid k) (all_unrestated (take i cs) after))
          ∙ sym (one_first (unrestate_living w.state c.turns) c.pid (take i cs) after from.0)
          ∙ ap (all_unrestated (take i cs)) back
          ∙ so_far.back;
    }

-- all of them

pub restated_all : (before cs : List StateChange) (first t : Table) (i : ℕ) → length cs ≤ i → AreRestated before first i cs t → t ≡ all_restated before first
restated_all before cs first t i whole so_far = ap (λ xs. all_restated xs t) (sym (drop_all i cs whole)) ∙ so_far.restated

pub all_fit : (before cs : List StateChange) (first t : Table) (i : ℕ) → length cs ≤ i → AreApart before → AreRestated before first i cs t → CanUnrestateAll cs t
all_fit before cs first t i whole apart so_far =
    (apart_same before cs (sym so_far.pids) apart, subst (All (λ (d : StateChange). CanUnrestate d.turns (living d.pid t))) (take_all i cs whole) so_far.done)

pub all_back : (before cs : List StateChange) (first t : Table) (i : ℕ) → length cs ≤ i → AreRestated before first i cs t → all_unrestated cs t ≡ first
all_back before cs first t i whole so_far = ap (λ xs. all_unrestated xs t) (sym (take_all i cs whole)) ∙ so_far.back

-- What the changes hold then is lost with them.

not_waiting : (messages : List Term) (turn : ℕ) (at : Place) → IsNotAmong (waiting messages) (at_place turn at)
not_waiting [] turn at = tt
not_waiting (m ∷ ms) turn at = ((λ e. cc), not_waiting ms turn at)

not_run : (turn : ℕ) (a : Activity) (messages : List Term) (at_turn : ℕ) (at : Place) → IsNotAmong (ran_pieces turn a (waiting messages)) (at_place at_turn at)
not_run turn Idle ms at_turn at = not_waiting ms at_turn at
not_run turn Suspended ms at_turn at = not_waiting ms at_turn at
not_run turn (Runs r) ms at_turn at = ((λ e. cc), not_waiting ms at_turn at)

turn_of : (m n : ℕ) (p q : Place) → at_place m p ≡ at_place n q → m ≡ n
turn_of m n p q e = cc

one_lost : (c : StateChange) (o : Option ProcessEntry) → CanUnrestate c.turns o → AreLost (place_before c o) (living_pieces (option_map (back_of c) o)) (living_pieces o)
one_lost c None can = absurd can
one_lost c (Some l) can =
    let p = l.process in (
      (ran_pieces (p.turn - c.turns) p.activity (waiting p.mailbox), refl),
      (((λ e. let same = turn_of p.turn (p.turn - c.turns) p.place (with_state c.state p.place) e in omega (arith, same, can.1, can.2)), not_run p.turn p.activity p.mailbox (p.turn - c.turns) (with_state c.state p.place)), tt),
    )

held_same : (cs : List StateChange) (t u : Table) (pid : ℕ) → living pid t ≡ living pid u → held_places cs t pid ≡ held_places cs u pid
held_same [] t u pid same = refl
held_same (c ∷ cs) t u pid same = λ i. cond (nat_eq c.pid pid) (place_before c (same i)) (held_same cs t u pid same i)

places_lost : (cs : List StateChange) (t : Table) → CanUnrestateAll cs t → HoldsLost (held_places cs t) (all_unrestated cs t) t
places_lost [] t can pid = ((pieces_at pid t, refl), tt)
places_lost (c ∷ cs) t can pid =
    let Can : StateChange → Type 0 = λ d. CanUnrestate d.turns (living d.pid t) in
    let after = changed (back_of c) c.pid t in
    elim (eqb_tells c.pid pid) [
      | inl here ↦
          let held : held_places (c ∷ cs) t pid ≡ place_before c (living pid t) = ap (λ b. cond b (place_before c (living pid t)) (held_places cs t pid)) here.0 in
          let was : living pid (all_unrestated cs after) ≡ option_map (back_of c) (living pid t) =
          ap (λ k. living k (all_unrestated cs after)) (sym here.1) ∙ living_still c.pid cs after can.0.0 ∙ living_changed (back_of c) t.slots c.pid ∙ ap (λ k. option_map (back_of c) (living k t)) here.1 in
          let lost = one_lost c (living pid t) (subst (λ k. CanUnrestate c.turns (living k t)) here.1 (All-head Can c cs can.1)) in
          subst (λ h. AreLost h (pieces_at pid (all_unrestated cs after)) (pieces_at pid t)) (sym held) (subst (λ o. AreLost (place_before c (living pid t)) (living_pieces o) (pieces_at pid t)) (sym was) lost)
      | inr apart ↦
          let same : living pid after ≡ living pid t = living_elsewhere (back_of c) t.slots c.pid pid apart.1 in
          let held : held_places (c ∷ cs) t pid ≡ held_places cs after pid = ap (λ b. cond b (place_before c (living pid t)) (held_places cs t pid)) apart.0 ∙ held_same cs t after pid (sym same) in
          let others = places_lost cs after (can.0.1, can_still CanUnrestate (back_of c) c.pid cs t can.0.0 (All-tail Can c cs can.1)) pid in
          subst (λ h. AreLost h (pieces_at pid (all_unrestated cs after)) (pieces_at pid t)) (sym held) (subst (λ o. AreLost (held_places cs after pid) (pieces_at pid (all_unrestated cs after)) (living_pieces o)) same others)
    ]

pub all_lost : (cs : List StateChange) (first t : Table) → CanUnrestateAll cs t → all_unrestated cs t ≡ first → HoldsLost (held_places cs t) first t
all_lost cs first t can back = subst (λ x. HoldsLost (held_places cs t) x t) back (places_lost cs t can)

-- Those so far have their former states again.

pub record AreUnrestated (before : List StateChange) (first : Table) (i : ℕ) (cs : List StateChange) (t : Table) : Type 0 where
  pub pids : map (λ (c : StateChange). c.pid) cs ≡ map (λ (c : StateChange). c.pid) before
  pub unrestated : all_unrestated (drop i cs) t ≡ all_unrestated before first
  pub can : All (λ (c : StateChange). CanUnrestate c.turns (living c.pid t)) (drop i cs)

pub can_back_next : (before cs : List StateChange) (first t : Table) (i : ℕ) (c : StateChange) → i < length cs → c ≡ get_or cs i c → AreUnrestated before first i cs t → CanUnrestate c.turns (living c.pid t)
can_back_next before cs first t i c within at so_far =
    let left : drop i cs ≡ c ∷ drop (i + 1) cs = drop_more cs i c within ∙ ap (λ x. x ∷ drop (i + 1) cs) (sym at) in
    All-head (λ (d : StateChange). CanUnrestate d.turns (living d.pid t)) c (drop (i + 1) cs) (subst (All (λ (d : StateChange). CanUnrestate d.turns (living d.pid t))) left so_far.can)

pub one_unrestated : (before cs : List StateChange) (first t after : Table) (i : ℕ) (c w : StateChange) → i < length cs → c ≡ get_or cs i c → AreApart before → w.pid ≡ c.pid → after ≡ changed (unrestate_living c.state c.turns) c.pid t → AreUnrestated before first i cs t → AreUnrestated before first (i + 1) (set cs i w) after
one_unrestated before cs first t after i c w within at apart pid is so_far =
    let left : drop i cs ≡ c ∷ drop (i + 1) cs = drop_more cs i c within ∙ ap (λ x. x ∷ drop (i + 1) cs) (sym at) in
    let from = apart_at before cs i c within at so_far.pids apart in
    let Can : StateChange → Type 0 = λ d. CanUnrestate d.turns (living d.pid t) in
    let CanThen : StateChange → Type 0 = λ d. CanUnrestate d.turns (living d.pid after) in
    let can : All CanThen (drop (i + 1) cs) = subst (λ x. All (λ (d : StateChange). CanUnrestate d.turns (living d.pid x)) (drop (i + 1) cs)) (sym is) (can_still CanUnrestate (back_of c) c.pid (drop (i + 1) cs) t from.1 (All-tail Can c (drop (i + 1) cs) (subst (All Can) left so_far.can))) in
    record {
      pids = same_mapped (λ (x : StateChange). x.pid) cs i c w at pid ∙ so_far.pids;
      unrestated =
          ap (λ xs. all_unrestated xs after) (drop-set-lt (i + 1) cs i w (omega arith))
          ∙ ap (all_unrestated (drop (i + 1) cs)) is
          ∙ ap (λ xs. all_unrestated xs t) (sym left)
          ∙ so_far.unrestated;
      can = All-same CanThen (drop (i + 1) (set cs i w)) (drop (i + 1) cs) (drop-set-lt (i + 1) cs i w (omega arith)) can;
    }

pub unrestated_all : (before cs : List StateChange) (first t : Table) (i : ℕ) → length cs ≤ i → AreUnrestated before first i cs t → t ≡ all_unrestated before first
unrestated_all before cs first t i whole so_far = ap (λ xs. all_unrestated xs t) (sym (drop_all i cs whole)) ∙ so_far.unrestated
