-- The calls that were made are never forgotten.
use Rattle.std.specs.Prelude.{◌≡◌, ◌≤◌, ℕ, max, Bool, true, false, nat_lt, List, Option, None, Some, refl}
use Rattle.std.proofs.Common.{arith}
use Rattle.erl_term.specs.Tree.{Tree, Trees}
use Rattle.erl_ir.specs.declared.operation.BuiltIn.{BuiltIn}
use Rattle.erl_ir.specs.declared.operation.Connective.{Connective}
use Rattle.erl_ir.specs.declared.operation.Connective.TheVariants.{AndAlso, OrElse}
use Rattle.erl_ir.specs.declared.operation.Operation.{Operation}
use Rattle.erl_ir.specs.declared.operation.Operation.TheVariants as operation
use Rattle.erl_ir.specs.Expression as form
use Rattle.erl_ir.specs.Expression.{Expr, Exprs, Guards, Clauses}
use Rattle.erl_semantics.specs.State.{Act, Result, World, State, after, value, rest, exit}
use Rattle.erl_semantics.specs.Operators.{truth_of}
use Rattle.erl_semantics.specs.Matching.{matched_each}
use Rattle.erl_semantics.specs.Guards.{is_guard_bif, Tested, guard_called, guard_applied, Values, all, stopped, tested_then, values_then}
use Rattle.erl_semantics.specs.Guards.{first_value, applied_to, connected, tested, tested_row, tested_alone, holds, and_then, all_hold}
use Rattle.erl_semantics.specs.Guards.{or_else, one_holds, guarded, Selection, picked, picked_where, selected}
use Rattle.erl_semantics.specs.Starting.{Starter, spawn, start_link, Initialized, begun, ignored, failed, initialized, linked_by, started}
use Rattle.erl_steps.specs.Work.{row_weight, clauses_weight}

called : (is_bif within : Bool) (self : ℕ) (f : BuiltIn) (ts : Trees) (n : ℕ) → n ≤ (guard_called is_bif within self f ts n).1
called false within self f ts n = omega arith
called true false self f ts n = omega arith
called true true self f ts n = omega arith

applied : (self : ℕ) (op : Operation) (ts : Trees) (n : ℕ) → n ≤ (guard_applied self op ts n).1
applied self operation.Tuple ts n = omega arith
applied self operation.List ts n = omega arith
applied self operation.Cons ts n = omega arith
applied self (operation.Operator o) ts n = omega arith
applied self (operation.BuiltIn f qualified) ts n = called (is_guard_bif f) (nat_lt n 10000) self f ts n
applied self (operation.Local name) ts n = omega arith
applied self (operation.Remote module_name name) ts n = omega arith

applied_values : (self : ℕ) (op : Operation) (n : ℕ) (v : Values × ℕ) → n ≤ v.1 → n ≤ (applied_to self op v).1
applied_values self op n (all ts, k) le = omega (arith, applied self op ts k, le)
applied_values self op n (stopped r, k) le = le

tested_on : (f : Tree → ℕ → Tested) (n : ℕ) (t : Tested) → n ≤ t.1 → ((u : Tree) (k : ℕ) → k ≤ (f u k).1) →
    n ≤ (tested_then f t).1
tested_on f n (value t, k) le onward = omega (arith, onward t k, le)
tested_on f n (rest p, k) le onward = le
tested_on f n (exit t, k) le onward = le

values_on : (f : Tree → ℕ → Values × ℕ) (n : ℕ) (t : Tested) → n ≤ t.1 → ((u : Tree) (k : ℕ) → k ≤ (f u k).1) →
    n ≤ (values_then f t).1
values_on f n (value t, k) le onward = omega (arith, onward t k, le)
values_on f n (rest p, k) le onward = le
values_on f n (exit t, k) le onward = le

first_on : (t : Tree) (n : ℕ) (v : Values × ℕ) → n ≤ v.1 → n ≤ (first_value t v).1
first_on t n (v, k) le = le

connected_on : (o : Option Bool) (c : Connective) (t : Tree) (right : ℕ → Tested) (n : ℕ) → n ≤ (right n).1 →
    n ≤ (connected o c t right n).1
connected_on None c t right n le = omega arith
connected_on (Some true) AndAlso t right n le = le
connected_on (Some true) OrElse t right n le = omega arith
connected_on (Some false) AndAlso t right n le = omega arith
connected_on (Some false) OrElse t right n le = le

module _ (self : ℕ) (env : List Tree) where
  mutual
    tested_counts : (e : Expr) (n : ℕ) → n ≤ (tested self env e n).1
    tested_counts (form.literal t) n = omega arith
    tested_counts (form.variable index) n = omega arith
    tested_counts (form.apply op es) n = applied_values self op n (tested_row self env es n) (row_counts es n)
    tested_counts (form.match p body) n = omega arith
    tested_counts (form.block body) n = omega arith
    tested_counts (form.case subject cs) n = omega arith
    tested_counts (form.short_circuit c left right) n =
        tested_on (λ t behind. connected (truth_of t) c t (tested_alone self env right) behind) n (tested_alone self env left n)
        (alone_counts left n)
        (λ t k. connected_on (truth_of t) c t (tested_alone self env right) k (alone_counts right k))

    row_counts : (es : Exprs) (n : ℕ) → n ≤ (tested_row self env es n).1
    row_counts form.none n = omega arith
    row_counts (form.more e es) n =
        values_on (λ t behind. first_value t (tested_row self env es behind)) n (tested self env e n) (tested_counts e n)
        (λ t k. first_on t k (tested_row self env es k) (row_counts es k))

    alone_counts : (es : Exprs) (n : ℕ) → n ≤ (tested_alone self env es n).1
    alone_counts form.none n = omega arith
    alone_counts (form.more e form.none) n = tested_counts e n
    alone_counts (form.more e (form.more f es)) n = omega arith

  and_counts : (b : Bool) (n k : ℕ) (others : ℕ → Bool × ℕ) → n ≤ k → ((i : ℕ) → i ≤ (others i).1) →
      n ≤ (and_then b k others).1
  and_counts false n k others le onward = le
  and_counts true n k others le onward = omega (arith, onward k, le)

  all_counts : (es : Exprs) (n : ℕ) → n ≤ (all_hold self env es n).1
  all_counts form.none n = omega arith
  all_counts (form.more e es) n = and_counts (holds (tested self env e n).0) n (tested self env e n).1 (all_hold self env es)
      (tested_counts e n) (λ k. all_counts es k)

  or_counts : (n : ℕ) (b : Bool × ℕ) (others : ℕ → Bool × ℕ) → n ≤ b.1 → ((i : ℕ) → i ≤ (others i).1) →
      n ≤ (or_else b others).1
  or_counts n (true, k) others le onward = le
  or_counts n (false, k) others le onward = omega (arith, onward k, le)

  one_counts : (gs : Guards) (n : ℕ) → n ≤ (one_holds self env gs n).1
  one_counts form.no_guards n = omega arith
  one_counts (form.guard tests gs) n =
      or_counts n (all_hold self env tests n) (one_holds self env gs) (all_counts tests n) (λ k. one_counts gs k)

  guarded_counts : (gs : Guards) (n : ℕ) → n ≤ (guarded self env gs n).1
  guarded_counts form.no_guards n = omega arith
  guarded_counts (form.guard tests gs) n = one_counts (form.guard tests gs) n

-- What a selection of clauses leaves: no fewer calls, and a body of one of the clauses, if one is selected.

abbrev pub BodyWithin : ℕ → Option (List Tree × Exprs) → Type 0
BodyWithin b None = Unit {0}
BodyWithin b (Some found) = row_weight found.1 ≤ b

pub record SelectsWithin (n b : ℕ) (s : Selection) : Type 0 where
  pub counts : n ≤ s.1
  pub body : BodyWithin b s.0

loosened : (b c : ℕ) (o : Option (List Tree × Exprs)) → b ≤ c → BodyWithin b o → BodyWithin c o
loosened b c None le light = tt
loosened b c (Some found) le light = omega (arith, light, le)

picked_within : (n b : ℕ) (p : Bool × ℕ) (env : List Tree) (body : Exprs) (others : ℕ → Selection) → n ≤ p.1 →
    row_weight body ≤ b → ((k : ℕ) → SelectsWithin k b (others k)) → SelectsWithin n b (picked p env body others)
picked_within n b (true, k) env body others le light onward = record { counts = le; body = light }
picked_within n b (false, k) env body others le light onward =
    record { counts = omega (arith, (onward k).counts, le); body = (onward k).body }

where_within : (self n b : ℕ) (o : Option (List Tree)) (gs : Guards) (body : Exprs) (others : ℕ → Selection) →
    row_weight body ≤ b → ((k : ℕ) → SelectsWithin k b (others k)) → SelectsWithin n b (picked_where self o gs body others n)
where_within self n b None gs body others light onward = onward n
where_within self n b (Some env) gs body others light onward =
    picked_within n b (guarded self env gs n) env body others (guarded_counts self env gs n) light onward

-- the clauses behind a clause
behind : (body : Exprs) (cs : Clauses) (k : ℕ) (s : Selection) → SelectsWithin k (clauses_weight cs) s →
    SelectsWithin k (max (row_weight body) (clauses_weight cs)) s
behind body cs k s within = record {
  counts = within.counts;
  body = loosened (clauses_weight cs) (max (row_weight body) (clauses_weight cs)) s.0 (omega arith) within.body;
}

pub selected_within : (self : ℕ) (env : List Tree) (cs : Clauses) (ts : Trees) (n : ℕ) →
    SelectsWithin n (clauses_weight cs) (selected self env cs ts n)
selected_within self env form.no_clauses ts n = record { counts = omega arith; body = tt }
selected_within self env (form.clause ps gs body cs) ts n =
    where_within self n (max (row_weight body) (clauses_weight cs)) (matched_each ps ts env) gs body (selected self env cs ts)
    (omega arith) (λ k. behind body cs k (selected self env cs ts k) (selected_within self env cs ts k))

-- an act is no call
pub act_counts : (o : Option Act) (s : State) → (after o s).calls ≡ s.calls
act_counts None s = refl
act_counts (Some act) s = refl

-- neither is what comes of a process that was started

linked_counts : (w : World) (env : List Tree) (m : List ℕ) (s : State) (i : Initialized) → (linked_by w env m s i).1.calls ≡ s.calls
linked_counts w env m s (begun t) = refl
linked_counts w env m s ignored = refl
linked_counts w env m s (failed t) = refl

pub start_counts : (w : World) (starter : Starter) (env : List Tree) (m : List ℕ) (r : Result) (s : State) →
    (started w starter env m r s).1.calls ≡ s.calls
start_counts w spawn env m (value t) s = refl
start_counts w spawn env m (rest p) s = refl
start_counts w spawn env m (exit t) s = refl
start_counts w start_link env m (value t) s = linked_counts w env m s (initialized t)
start_counts w start_link env m (rest p) s = refl
start_counts w start_link env m (exit t) s = refl
