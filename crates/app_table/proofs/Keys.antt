-- The two keys by which children are found.
use Rattle.std.proofs.Common.{◌≡◌, ◌<◌, ◌≤◌, ◌==◌, ℕ, zero, suc, true, false, List, [], ◌∷◌, Option, None, Some, refl, sym, ap, ◌∙◌, subst, arith, length, get_or, lt-ltb, ltb, slice_get}
use Rattle.std.specs.Cmp.{IsTotalOrder}
use Rattle.std.specs.Cmp.Lexicographic.{options_total}
use Rattle.std.specs.Option.{option_cmp}
use Rattle.std.specs.Ordering.{is_eq, is_lt, nat_cmp, on, ordering_then}
use Rattle.std.specs.List.{insert, range_with_len, remove}
use Rattle.std.specs.List.Sorted.{IsPartitionPoint}
use Rattle.std.specs.Prelude.{All, IsPermutation, option_and_then, option_map}
use mathlib.Core.Logic.{⊎_elim}
use Rattle.std.proofs.lemmas.Bool.{cases_lt}
use Rattle.std.proofs.lemmas.Bool.Decides.{nat_tests}
use Rattle.std.proofs.lemmas.Cmp.{nat_cmp_total}
use Rattle.std.proofs.lemmas.Grind.{get_or_default_zero}
use Rattle.std.proofs.lemmas.List.Sorted.{IsPermutation-insert, IsPermutation-remove, IsPermutation-trans}
use Rattle.values.proofs.Edits.{length-changed_at}
use Rattle.values.specs.Edits.{changed_at}
use Rattle.erl_term.specs.Order.{tree_cmp}
use Rattle.erl_term.specs.Term.{tree}
use Rattle.erl_term.specs.TermOrder.{term_cmp-total}
use Rattle.erl_term.specs.declared.term.Term.{Term}
use Rattle.app_table.proofs.Options.{false_true}
use Rattle.app_table.proofs.Indices.{by_key_same, by_key_total, others, index_at, put, rises_alike, rises_remove, rises_same}
use Rattle.app_table.proofs.Spots.{got}
use Rattle.app_table.specs.Applications.{has_id}
use Rattle.app_table.specs.Children.{in_state, runs_as, runs_in}
use Rattle.app_table.specs.Ordered.{IsOrderOf, Rises, by_id, by_pid, id_at, pid_at, pid_in}
use Rattle.app_table.specs.declared.child.Child.{Child}
use Rattle.app_table.specs.declared.child.ChildState.{ChildState}
use Rattle.app_table.specs.declared.child.ChildState.TheVariants.{Running, Due, Stopped}
use Rattle.std.specs.declared.cmp.Ordering.TheVariants.{Equal}

pub pids_total : IsTotalOrder (option_cmp nat_cmp)
pids_total = options_total nat_cmp_total

pub ids_total : IsTotalOrder (option_cmp (on tree tree_cmp))
ids_total = options_total term_cmp-total

pub by_pid_total : (row : List Child) → IsTotalOrder (by_pid row)
by_pid_total row = by_key_total pids_total (pid_at row)

pub by_id_total : (row : List Child) → IsTotalOrder (by_id row)
by_id_total row = by_key_total ids_total (id_at row)

pub by_pid_same : (row : List Child) (a b : ℕ) → by_pid row a b ≡ Equal → a ≡ b
by_pid_same row = by_key_same pids_total (pid_at row)

pub by_id_same : (row : List Child) (a b : ℕ) → by_id row a b ≡ Equal → a ≡ b
by_id_same row = by_key_same ids_total (id_at row)

-- a child is asked for by its key

nat_tied : (a b : ℕ) → (a == b) ≡ is_eq (nat_cmp a b)
nat_tied a b = grind (arith, nat_tests)

state_tells : (pid : ℕ) (s : ChildState) → runs_in pid s ≡ is_eq (option_cmp nat_cmp (pid_in s) (Some pid))
state_tells pid (Running its) = nat_tied its pid
state_tells pid Due = refl
state_tells pid Stopped = refl

pub pid_tells : (pid : ℕ) (row : List Child) (j : ℕ) (d : Child) → j < length row → runs_as pid (get_or row j d) ≡ is_eq (option_cmp nat_cmp (pid_at row j) (Some pid))
pid_tells pid row j d within =
    state_tells pid (get_or row j d).state ∙ ap (λ (o : Option Child). is_eq (option_cmp nat_cmp (option_and_then (λ c. pid_in c.state) o) (Some pid))) (sym (got row j d within))

pub id_tells : (id : Term) (row : List Child) (j : ℕ) (d : Child) → j < length row → has_id id (get_or row j d) ≡ is_eq (option_cmp (on tree tree_cmp) (id_at row j) (Some id))
id_tells id row j d within =
    ap (λ (o : Option Child). is_eq (option_cmp (on tree tree_cmp) (option_map (λ c. c.spec.id) o) (Some id))) (sym (got row j d within))

-- where no child is

pub past : {A : Type 0} (row : List A) (p : ℕ) → length row ≤ p → slice_get row p ≡ None
past [] p over = refl
past (x ∷ row) zero over = absurd (omega arith)
past (x ∷ row) (suc p) over = past row p (omega arith)

pub nothing_at : {A : Type 0} (row : List A) (p : ℕ) → false ≡ ltb p (length row) → slice_get row p ≡ None
nothing_at row p none =
    ⊎_elim
    (λ (below : p < length row). absurd (false_true (none ∙ lt-ltb p (length row) below)))
    (λ (over : length row ≤ p). past row p over)
    (cases_lt p (length row))

pub no_pid : (pid : ℕ) (row : List Child) (p : ℕ) → length row ≤ p → is_eq (option_cmp nat_cmp (pid_at row p) (Some pid)) ≡ true → ⊥
no_pid pid row p over hit =
    false_true (subst (λ (o : Option Child). is_eq (option_cmp nat_cmp (option_and_then (λ c. pid_in c.state) o) (Some pid)) ≡ true) (past row p over) hit)

pub no_id : (id : Term) (row : List Child) (p : ℕ) → length row ≤ p → is_eq (option_cmp (on tree tree_cmp) (id_at row p) (Some id)) ≡ true → ⊥
no_id id row p over hit =
    false_true (subst (λ (o : Option Child). is_eq (option_cmp (on tree tree_cmp) (option_map (λ c. c.spec.id) o) (Some id)) ≡ true) (past row p over) hit)

-- a child whose state is set keeps its Id, and the others all

module _ {A : Type 0} where
  pub elsewhere : (f : A → A) (xs : List A) (p a : ℕ) → (a ≡ p → ⊥) → slice_get (changed_at f xs p) a ≡ slice_get xs a
  elsewhere f [] p a differs = refl
  elsewhere f (x ∷ xs) zero zero differs = absurd (differs refl)
  elsewhere f (x ∷ xs) zero (suc a) differs = refl
  elsewhere f (x ∷ xs) (suc p) zero differs = refl
  elsewhere f (x ∷ xs) (suc p) (suc a) differs = elsewhere f xs p a (λ same. differs (ap suc same))

pub pid_elsewhere : (s : ChildState) (row : List Child) (p a : ℕ) → (a ≡ p → ⊥) → pid_at (changed_at (in_state s) row p) a ≡ pid_at row a
pid_elsewhere s row p a differs = ap (option_and_then (λ (c : Child). pid_in c.state)) (elsewhere (in_state s) row p a differs)

pub id_kept : (s : ChildState) (row : List Child) (p a : ℕ) → id_at (changed_at (in_state s) row p) a ≡ id_at row a
id_kept s [] p a = refl
id_kept s (x ∷ row) zero zero = refl
id_kept s (x ∷ row) zero (suc a) = refl
id_kept s (x ∷ row) (suc p) zero = refl
id_kept s (x ∷ row) (suc p) (suc a) = id_kept s row p a

pub pids_alike : (s : ChildState) (row : List Child) (p a b : ℕ) → (a ≡ p → ⊥) → (b ≡ p → ⊥) → by_pid row a b ≡ by_pid (changed_at (in_state s) row p) a b
pids_alike s row p a b other another =
    ap (λ k. ordering_then (option_cmp nat_cmp k (pid_at row b)) (nat_cmp a b)) (sym (pid_elsewhere s row p a other)) ∙ ap (λ k. ordering_then (option_cmp nat_cmp (pid_at (changed_at (in_state s) row p) a) k) (nat_cmp a b)) (sym (pid_elsewhere s row p b another))

pub ids_alike : (s : ChildState) (row : List Child) (p a b : ℕ) → by_id row a b ≡ by_id (changed_at (in_state s) row p) a b
ids_alike s row p a b =
    ap (λ k. ordering_then (option_cmp (on tree tree_cmp) k (id_at row b)) (nat_cmp a b)) (sym (id_kept s row p a)) ∙ ap (λ k. ordering_then (option_cmp (on tree tree_cmp) (id_at (changed_at (in_state s) row p) a) k) (nat_cmp a b)) (sym (id_kept s row p b))

pub ids_kept : (s : ChildState) (row : List Child) (p : ℕ) (ids : List ℕ) → IsOrderOf (by_id row) (length row) ids → IsOrderOf (by_id (changed_at (in_state s) row p)) (length (changed_at (in_state s) row p)) ids
ids_kept s row p ids o = record {
  once = subst (λ n. IsPermutation (range_with_len 0 n) ids) (sym (length-changed_at (in_state s) row p)) o.once;
  rises = rises_same (by_id row) (by_id (changed_at (in_state s) row p)) (ids_alike s row p) ids o.rises;
}

-- the state of a child is set, and its index moves to where it belongs

module _ (s : ChildState) (row : List Child) (pids : List ℕ) (from index : ℕ) (order : IsOrderOf (by_pid row) (length row) pids) (below : index < length row) (point : IsPartitionPoint (λ e. is_lt (by_pid row e index) ≡ true) (λ e. is_lt (by_pid row e index) ≡ false) pids from) where
  pub pid_index : (from < length pids) × (get_or pids from index ≡ index)
  pid_index = index_at (by_pid row) (by_pid_total row) (length row) pids from index order below point

  others_there : All (λ e. e ≡ index → ⊥) (remove pids from)
  others_there = others (by_pid row) (by_pid_total row) pids from index order.rises pid_index.0 pid_index.1

  pub others_rise : Rises (by_pid (changed_at (in_state s) row index)) (remove pids from)
  others_rise =
      rises_alike (by_pid row) (by_pid (changed_at (in_state s) row index)) index (pids_alike s row index) (remove pids from) others_there (rises_remove (by_pid row) pids from order.rises)

  pub pids_moved : (to : ℕ) → IsPartitionPoint (λ e. is_lt (by_pid (changed_at (in_state s) row index) e index) ≡ true) (λ e. is_lt (by_pid (changed_at (in_state s) row index) e index) ≡ false) (remove pids from) to → IsOrderOf (by_pid (changed_at (in_state s) row index)) (length (changed_at (in_state s) row index)) (insert (remove pids from) to (get_or pids from 0))
  pids_moved to again =
      let is : get_or pids from 0 ≡ index = sym (get_or_default_zero pids from index pid_index.0) ∙ pid_index.1 in
      let out = IsPermutation-remove pids from index pid_index.0 (sym pid_index.1) in
      let once = IsPermutation-trans (range_with_len 0 (length row)) pids (insert (remove pids from) to index) order.once (IsPermutation-trans pids (index ∷ remove pids from) (insert (remove pids from) to index) out (IsPermutation-insert (remove pids from) to index)) in
      subst (λ v. IsOrderOf (by_pid (changed_at (in_state s) row index)) (length (changed_at (in_state s) row index)) (insert (remove pids from) to v)) (sym is) (record {
        once = subst (λ n. IsPermutation (range_with_len 0 n) (insert (remove pids from) to index)) (sym (length-changed_at (in_state s) row index)) once;
        rises = put (by_pid (changed_at (in_state s) row index)) (by_pid_total (changed_at (in_state s) row index)) (by_pid_same (changed_at (in_state s) row index)) (remove pids from) to index others_rise others_there again;
      })
