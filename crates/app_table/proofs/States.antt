-- The states of all children of a supervisor, and their orders.
use Rattle.std.proofs.Common.{◌≡◌, ◌<◌, ◌≤◌, ◌+◌, ℕ, zero, suc, true, List, [], ◌∷◌, ◌++◌, None, refl, sym, ap, ◌∙◌, subst, arith, length, get_or, map, take, drop, min, slice_set}
use Rattle.std.specs.Prelude.{IsPermutation}
use Rattle.std.specs.List.{range_with_len}
use Rattle.std.specs.Option.{option_cmp}
use Rattle.std.specs.Ordering.{is_lt, nat_cmp, on, ordering_then}
use Rattle.std.specs.declared.cmp.Ordering.{Ordering}
use Rattle.std.proofs.lemmas.Bool.Decides.{nat_tests}
use Rattle.std.proofs.lemmas.List.{length-map, map_more}
use Rattle.std.proofs.lemmas.List.FromFn.{get_or-range_with_len, length-range_with_len}
use Rattle.std.proofs.lemmas.List.Sorted.{IsPermutation-refl, length_permutation}
use Rattle.erl_term.specs.Order.{tree_cmp}
use Rattle.erl_term.specs.Term.{tree}
use Rattle.app_table.proofs.Indices.{rises_same}
use Rattle.app_table.proofs.Writes.{set_front}
use Rattle.app_table.specs.Children.{in_state}
use Rattle.app_table.specs.Ordered.{AreOrdersOf, IsOrderOf, Rises, by_id, by_pid, id_at, pid_at}
use Rattle.app_table.specs.Undo.{in_states}
use Rattle.app_table.specs.declared.child.Child.{Child}
use Rattle.app_table.specs.declared.child.ChildState.{ChildState}
use Rattle.app_table.specs.declared.child.ChildState.TheVariants.{Stopped}

-- ---- one more child is stopped

get_or_front : {A : Type 0} (p ys : List A) (n : ℕ) (d : A) → length p ≡ n → get_or (p ++ ys) n d ≡ get_or ys 0 d
get_or_front [] ys zero d long = refl
get_or_front [] ys (suc n) d long = absurd (omega arith)
get_or_front (x ∷ p) ys zero d long = absurd (omega arith)
get_or_front (x ∷ p) ys (suc n) d long = get_or_front p ys n d (omega arith)

get_or_drop : {A : Type 0} (xs : List A) (n : ℕ) (d : A) → get_or (drop n xs) 0 d ≡ get_or xs n d
get_or_drop [] zero d = refl
get_or_drop [] (suc n) d = refl
get_or_drop (x ∷ xs) zero d = refl
get_or_drop (x ∷ xs) (suc n) d = get_or_drop xs n d

length_front : (xs : List Child) (i : ℕ) → i < length xs → length (map (in_state Stopped) (take i xs)) ≡ i
length_front [] i within = absurd (omega arith)
length_front (x ∷ xs) zero within = refl
length_front (x ∷ xs) (suc i) within = ap suc (length_front xs i (omega arith))

pub stop_more : (xs row : List Child) (i : ℕ) (y d : Child) → i < length xs → row ≡ map (in_state Stopped) (take i xs) ++ drop i xs → y ≡ in_state Stopped (get_or row i d) → slice_set row i y ≡ map (in_state Stopped) (take (i + 1) xs) ++ drop (i + 1) xs
stop_more xs row i y d within is done =
    let front = map (in_state Stopped) (take i xs) in
    let long = length_front xs i within in
    let there : get_or row i d ≡ get_or xs i d = ap (λ (l : List Child). get_or l i d) is ∙ get_or_front front (drop i xs) i d long ∙ get_or_drop xs i d in
    ap (λ (l : List Child). slice_set l i y) is ∙ set_front front xs i y long within ∙ ap (λ (z : Child). (front ++ z ∷ []) ++ drop (i + 1) xs) (done ∙ ap (in_state Stopped) there) ∙ ap (λ (l : List Child). l ++ drop (i + 1) xs) (sym (map_more (in_state Stopped) xs i d within))

-- ---- one more child is in its state

states_more : (states : List ChildState) (row : List Child) (i : ℕ) (e : ChildState) (d : Child) → i < length states → i < length row → slice_set (in_states (take i states) row) i (in_state (get_or states i e) (get_or (in_states (take i states) row) i d)) ≡ in_states (take (suc i) states) row
states_more [] row i e d below within = absurd (omega arith)
states_more (s ∷ states) [] i e d below within = absurd (omega arith)
states_more (s ∷ states) (c ∷ row) zero e d below within = refl
states_more (s ∷ states) (c ∷ row) (suc i) e d below within =
    ap (λ (l : List Child). in_state s c ∷ l) (states_more states row i e d (omega arith) (omega arith))

pub set_more : (states : List ChildState) (row now : List Child) (i : ℕ) (y : Child) (e : ChildState) (d : Child) → i < length states → i < length row → now ≡ in_states (take i states) row → y ≡ in_state (get_or states i e) (get_or now i d) → slice_set now i y ≡ in_states (take (i + 1) states) row
set_more states row now i y e d below within is done =
    ap (λ (l : List Child). slice_set l i y) is ∙ ap (λ (z : Child). slice_set (in_states (take i states) row) i z) (done ∙ ap (λ (l : List Child). in_state (get_or states i e) (get_or l i d)) is) ∙ states_more states row i e d below within ∙ ap (λ n. in_states (take n states) row) (let next : suc i ≡ i + 1 = omega arith in next)

pub states_all : (states : List ChildState) (row : List Child) (n : ℕ) → min (length row) (length states) ≤ n → in_states (take n states) row ≡ in_states states row
states_all [] row zero over = refl
states_all [] row (suc n) over = refl
states_all (s ∷ states) [] zero over = refl
states_all (s ∷ states) [] (suc n) over = refl
states_all (s ∷ states) (c ∷ row) zero over = absurd (omega arith)
states_all (s ∷ states) (c ∷ row) (suc n) over =
    ap (λ (l : List Child). in_state s c ∷ l) (states_all states row n (omega arith))

-- ---- the Ids stay in their order

ids_carried : (row row' : List Child) (ids : List ℕ) → length row' ≡ length row → ((a : ℕ) → id_at row' a ≡ id_at row a) → IsOrderOf (by_id row) (length row) ids → IsOrderOf (by_id row') (length row') ids
ids_carried row row' ids long same o = record {
  once = subst (λ n. IsPermutation (range_with_len 0 n) ids) (sym long) o.once;
  rises = rises_same (by_id row) (by_id row') (λ a b.
      ap (λ k. ordering_then (option_cmp (on tree tree_cmp) k (id_at row b)) (nat_cmp a b)) (sym (same a)) ∙ ap (λ k. ordering_then (option_cmp (on tree tree_cmp) (id_at row' a) k) (nat_cmp a b)) (sym (same b))) ids o.rises;
}

id_of_stopped : (row : List Child) (a : ℕ) → id_at (map (in_state Stopped) row) a ≡ id_at row a
id_of_stopped [] a = refl
id_of_stopped (c ∷ row) zero = refl
id_of_stopped (c ∷ row) (suc a) = id_of_stopped row a

id_in_states : (states : List ChildState) (row : List Child) (a : ℕ) → id_at (in_states states row) a ≡ id_at row a
id_in_states [] row a = refl
id_in_states (s ∷ states) [] a = refl
id_in_states (s ∷ states) (c ∷ row) zero = refl
id_in_states (s ∷ states) (c ∷ row) (suc a) = id_in_states states row a

pub length-in_states : (states : List ChildState) (row : List Child) → length (in_states states row) ≡ length row
length-in_states [] row = refl
length-in_states (s ∷ states) [] = refl
length-in_states (s ∷ states) (c ∷ row) = ap suc (length-in_states states row)

pub ids_in_states : (states : List ChildState) (row : List Child) (ids : List ℕ) → IsOrderOf (by_id row) (length row) ids → IsOrderOf (by_id (in_states states row)) (length (in_states states row)) ids
ids_in_states states row ids o = ids_carried row (in_states states row) ids (length-in_states states row) (id_in_states states row) o

-- ---- of children that don't run the order is that of the indices

pid_of_stopped : (row : List Child) (a : ℕ) → pid_at (map (in_state Stopped) row) a ≡ None
pid_of_stopped [] a = refl
pid_of_stopped (c ∷ row) zero = refl
pid_of_stopped (c ∷ row) (suc a) = pid_of_stopped row a

before_later : (a b : ℕ) → a < b → is_lt (nat_cmp a b) ≡ true
before_later a b below = grind (arith, nat_tests)

rises_range : (a n : ℕ) → Rises nat_cmp (range_with_len a n)
rises_range a zero = tt
rises_range a (suc n) = (
  λ k d within.
      let below : k < n = omega (arith, within, length-range_with_len (a + 1) n) in
      subst (λ b. is_lt (nat_cmp a b) ≡ true) (sym (get_or-range_with_len (a + 1) n k d below)) (before_later a ((a + 1) + k) (omega arith)),
  rises_range (a + 1) n,
)

pub length_of_order : (order : ℕ → ℕ → Ordering) (count : ℕ) (indices : List ℕ) → IsOrderOf order count indices → length indices ≡ count
length_of_order order count indices o =
    length_permutation (range_with_len 0 count) indices o.once ∙ length-range_with_len 0 count

pub orders_stopped : (row : List Child) (ids pids indices : List ℕ) → AreOrdersOf row ids pids → indices ≡ range_with_len 0 (length pids) → AreOrdersOf (map (in_state Stopped) row) ids indices
orders_stopped row ids pids indices o is =
    let after = map (in_state Stopped) row in
    let long : length (map (in_state Stopped) row) ≡ length row = length-map row (in_state Stopped) in
    let count : length pids ≡ length (map (in_state Stopped) row) = length_of_order (by_pid row) (length row) pids o.of_pids ∙ sym long in
    let all : indices ≡ range_with_len 0 (length (map (in_state Stopped) row)) = is ∙ ap (range_with_len 0) count in
    record {
      of_ids = ids_carried row after ids long (id_of_stopped row) o.of_ids;
      of_pids = subst (IsOrderOf (by_pid (map (in_state Stopped) row)) (length (map (in_state Stopped) row))) (sym all) (record {
        once = IsPermutation-refl (range_with_len 0 (length after));
        rises = rises_same nat_cmp (by_pid after) (λ a b.
            ap (λ k. ordering_then (option_cmp nat_cmp k None) (nat_cmp a b)) (sym (pid_of_stopped row a)) ∙ ap (λ k. ordering_then (option_cmp nat_cmp (pid_at (map (in_state Stopped) row) a) k) (nat_cmp a b)) (sym (pid_of_stopped row b))) (range_with_len 0 (length after)) (rises_range 0 (length after));
      });
    }
