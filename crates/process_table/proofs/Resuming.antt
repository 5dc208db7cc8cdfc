-- Several processes are suspended and resumed.
use Rattle.std.proofs.Common.{◌≡◌, ℕ, zero, suc, ◌+◌, ◌<◌, ◌≤◌, All, List, [], ◌∷◌, ◌++◌, length, map, get_or, set, take, drop, Option, None, Some, refl, sym, ap, ◌∙◌, arith}
use Rattle.std.proofs.lemmas.List.{drop-set-lt, drop_all, drop_more, take_all, take_more_set}
use Rattle.std.proofs.lemmas.List.Elements.{All-head, All-tail}
use Rattle.process.specs.declared.activity.Activity.{Activity}
use Rattle.process.specs.declared.activity.Activity.TheVariants.{Idle, Suspended, Runs}
use Rattle.process.specs.Process.{resumed_by, suspended_by}
use Rattle.process_store.specs.declared.living.ProcessEntry.{ProcessEntry}
use Rattle.process_store.specs.Changes.{resume_living, suspend_living, suspended_as}
use Rattle.process_store.specs.Table.{Table, changed, changed_slots, living, living_at}
use Rattle.process_table.specs.States.{IsIdle, IsIdleIn, all_resumed, all_suspended, all_unresumed}
use Rattle.process_table.specs.declared.states.Resumed.{Resumed}

-- Changes of slots: of two in either order, and of one after the other.

same_in_turn : (f : ProcessEntry → ProcessEntry) (slots : List (Option ProcessEntry)) (p q : ℕ) → changed_slots f p (changed_slots f q slots) ≡ changed_slots f q (changed_slots f p slots)
same_in_turn f [] p q = refl
same_in_turn f (s ∷ ss) zero zero = refl
same_in_turn f (s ∷ ss) zero (suc q) = refl
same_in_turn f (s ∷ ss) (suc p) zero = refl
same_in_turn f (s ∷ ss) (suc p) (suc q) = ap (λ xs. s ∷ xs) (same_in_turn f ss p q)

both : (f g h : ProcessEntry → ProcessEntry) → ((l : ProcessEntry) → g (f l) ≡ h l) → (slots : List (Option ProcessEntry)) (pid : ℕ) → changed_slots g pid (changed_slots f pid slots) ≡ changed_slots h pid slots
both f g h is [] pid = refl
both f g h is (None ∷ ss) zero = refl
both f g h is (Some l ∷ ss) zero = ap (λ x. Some x ∷ ss) (is l)
both f g h is (s ∷ ss) (suc pid) = ap (λ xs. s ∷ xs) (both f g h is ss pid)

-- what the processes do

abbrev with_activity : ProcessEntry → Activity → ProcessEntry
with_activity l a = record l { process = record l.process { activity = a } }

resumed_after : (a : Activity) → resumed_by (suspended_by a) ≡ resumed_by a
resumed_after Idle = refl
resumed_after Suspended = refl
resumed_after (Runs r) = refl

idle_resumed : (a : Activity) → IsIdleIn a → resumed_by a ≡ a
idle_resumed Idle is = refl
idle_resumed Suspended is = absurd is
idle_resumed (Runs r) is = absurd is

idle_slots : (slots : List (Option ProcessEntry)) (pid : ℕ) → IsIdle (living_at slots pid) → changed_slots resume_living pid slots ≡ slots
idle_slots [] pid is = refl
idle_slots (None ∷ ss) zero is = refl
idle_slots (Some l ∷ ss) zero is = ap (λ a. Some (with_activity l a) ∷ ss) (idle_resumed l.process.activity is)
idle_slots (s ∷ ss) (suc pid) is = ap (λ xs. s ∷ xs) (idle_slots ss pid is)

abbrev table : List (Option ProcessEntry) → Table
table slots = record { slots = slots }

-- one is resumed before the others, or behind them

resumed_first : (pid : ℕ) (pids : List ℕ) (t : Table) → all_resumed pids (changed resume_living pid t) ≡ changed resume_living pid (all_resumed pids t)
resumed_first pid [] t = refl
resumed_first pid (p ∷ ps) t =
    ap (λ ss. all_resumed ps (table ss)) (same_in_turn resume_living t.slots p pid) ∙ resumed_first pid ps (changed resume_living p t)

resumed_suspended : (pids : List ℕ) (t : Table) → all_resumed pids (all_suspended pids t) ≡ all_resumed pids t
resumed_suspended [] t = refl
resumed_suspended (p ∷ ps) t =
    let slept = changed suspend_living p t in
    resumed_first p ps (all_suspended ps slept)
    ∙ ap (changed resume_living p) (resumed_suspended ps slept)
    ∙ sym (resumed_first p ps slept)
    ∙ ap (λ ss. all_resumed ps (table ss)) (both suspend_living resume_living resume_living (λ l. ap (with_activity l) (resumed_after l.process.activity)) t.slots p)

idle_stay : (pids : List ℕ) (t : Table) → All (λ pid. IsIdle (living pid t)) pids → all_resumed pids t ≡ t
idle_stay [] t all = refl
idle_stay (p ∷ ps) t all =
    ap (λ ss. all_resumed ps (table ss)) (idle_slots t.slots p (All-head (λ pid. IsIdle (living pid t)) p ps all))
    ∙ idle_stay ps t (All-tail (λ pid. IsIdle (living pid t)) p ps all)

-- processes that were idle are so again
pub all_back : (pids : List ℕ) (before after : Table) → after ≡ all_suspended pids before → All (λ pid. IsIdle (living pid before)) pids → all_resumed pids after ≡ before
all_back pids before after is all = ap (all_resumed pids) is ∙ resumed_suspended pids before ∙ idle_stay pids before all

-- Those so far are resumed, and whether they were suspended is noted.

unresumed_more : (rs : List Resumed) (r : Resumed) (t : Table) → all_unresumed (rs ++ r ∷ []) t ≡ all_unresumed rs (changed (suspended_as r.was_suspended) r.pid t)
unresumed_more [] r t = refl
unresumed_more (x ∷ rs) r t = ap (changed (suspended_as x.was_suspended) x.pid) (unresumed_more rs r t)

pub same_mapped : {A B : Type 0} (f : A → B) (xs : List A) (i : ℕ) (x w : A) → x ≡ get_or xs i x → f w ≡ f x → map f (set xs i w) ≡ map f xs
same_mapped f [] i x w at same = refl
same_mapped f (y ∷ ys) zero x w at same = ap (λ b. b ∷ map f ys) (same ∙ ap f at)
same_mapped f (y ∷ ys) (suc i) x w at same = ap (λ bs. f y ∷ bs) (same_mapped f ys i x w at same)

pub record AreResumed (before : List Resumed) (first : Table) (i : ℕ) (rs : List Resumed) (t : Table) : Type 0 where
  pub same : map (λ (r : Resumed). r.pid) rs ≡ map (λ (r : Resumed). r.pid) before
  pub resumed : all_resumed (map (λ (r : Resumed). r.pid) (drop i rs)) t ≡ all_resumed (map (λ (r : Resumed). r.pid) before) first
  pub back : all_unresumed (take i rs) t ≡ first

pub one_resumed : (before rs : List Resumed) (first t after : Table) (i : ℕ) (r w : Resumed) → i < length rs → r ≡ get_or rs i r → w.pid ≡ r.pid → after ≡ changed resume_living r.pid t → changed (suspended_as w.was_suspended) r.pid after ≡ t → AreResumed before first i rs t → AreResumed before first (i + 1) (set rs i w) after
one_resumed before rs first t after i r w within at same is back so_far =
    let pids : List Resumed → List ℕ = map (λ (x : Resumed). x.pid) in
    record {
      same = same_mapped (λ (x : Resumed). x.pid) rs i r w at same ∙ so_far.same;
      resumed =
          ap (λ xs. all_resumed (pids xs) after) (drop-set-lt (i + 1) rs i w (omega arith))
          ∙ ap (all_resumed (pids (drop (i + 1) rs))) (is ∙ ap (λ (x : Resumed). changed resume_living x.pid t) at)
          ∙ ap (λ xs. all_resumed (pids xs) t) (sym (drop_more rs i r within))
          ∙ so_far.resumed;
      back =
          ap (λ xs. all_unresumed xs after) (take_more_set rs i w within)
          ∙ unresumed_more (take i rs) w after
          ∙ ap (all_unresumed (take i rs)) (ap (λ n. changed (suspended_as w.was_suspended) n after) same ∙ back)
          ∙ so_far.back;
    }

-- all of them

pub resumed_all : (before rs : List Resumed) (first t : Table) (i : ℕ) → length rs ≤ i → AreResumed before first i rs t → t ≡ all_resumed (map (λ (r : Resumed). r.pid) before) first
resumed_all before rs first t i whole so_far =
    ap (λ xs. all_resumed (map (λ (r : Resumed). r.pid) xs) t) (sym (drop_all i rs whole)) ∙ so_far.resumed

pub unresumed_all : (before rs : List Resumed) (first t : Table) (i : ℕ) → length rs ≤ i → AreResumed before first i rs t → all_unresumed rs t ≡ first
unresumed_all before rs first t i whole so_far = ap (λ xs. all_unresumed xs t) (sym (take_all i rs whole)) ∙ so_far.back
