-- What a pattern binds by its scopes is what a match of it binds; so what may be matched and tested by the scopes may be where
-- so many variables are bound.
use Rattle.std.specs.Prelude.{◌≡◌, ℕ, ◌+◌, ◌<◌, ◌≤◌, ◌==◌, Bool, true, false, if◌then◌else◌, List, [], ◌∷◌, ◌++◌, length, slice_get, refl}
use Rattle.std.specs.Prelude.{Option, None, Some, option_and_then}
use Rattle.std.proofs.Common.{arith, ap, sym, subst, ◌∙◌}
use Rattle.std.proofs.lemmas.List.{length-append}
use Rattle.std.proofs.lemmas.Option.{slice_get_past, slice_get-get_or}
use Rattle.std.specs.List.{slice_index_or}
use Rattle.erl_term.specs.Tree as term
use Rattle.erl_term.specs.Tree.{Tree, Trees, count}
use Rattle.erl_term.specs.Order.{tree_cmp}
use Rattle.erl_ir.specs.Module.{Forms}
use Rattle.erl_ir.specs.Pattern as pattern
use Rattle.erl_ir.specs.Pattern.{Pat, Pats, pat_count}
use Rattle.erl_ir.specs.Expression.{Expr, Exprs, Guards, Clauses, expr_count}
use Rattle.erl_lower.specs.WellScoped as scoped
use Rattle.erl_lower.specs.WellScoped.{PatternBinds, PatternsBind, ExprBinds, ExprsBind, GuardsSee, ClausesSee, HavePatterns}
use Rattle.erl_semantics.specs.Guards.{guarded, Selection, picked, picked_where, selected}
use Rattle.erl_semantics.specs.Matching.{matched, matched_each, matched_front, matched_all, matched_variable}
use Rattle.erl_semantics.specs.Operators.{is_equal}
use Rattle.erl_semantics.proofs.Options.{some_none, some_injective}
use Rattle.source_laws.specs.Formed.{IsTest, AreTests, AreGuards, AreFormed, AreFormedClauses}
use Rattle.source_laws.specs.Points.{IsBound, MayMatch, MayMatchEach, MayMatchFront, MayMatchAll, MayTest, MayTestEach, MayGuard, MayTry}

-- an index below the number of those that are bound is bound
pub within : (env : List Tree) (n index : ℕ) → length env ≡ n → index < n → IsBound env index
within env n index at below =
    (slice_index_or env index (term.atom []), slice_get-get_or env index (term.atom []) (subst (λ k. index < k) (sym at) below))

inverts : (o : Option (List Tree)) (f : List Tree → Option (List Tree)) (y : List Tree) → option_and_then f o ≡ Some y →
    (x : List Tree) × (o ≡ Some x) × (f x ≡ Some y)
inverts None f y is = absurd (some_none (sym is))
inverts (Some x) f y is = (x, refl, is)

same_length : {n : ℕ} {env behind : List Tree} → length env ≡ n → Some env ≡ Some behind → length behind ≡ n
same_length at is = ap (λ x. length x) (sym (some_injective is)) ∙ at

same_leaves : (b : Bool) (n : ℕ) (env behind : List Tree) → length env ≡ n → (if b then Some env else None) ≡ Some behind →
    length behind ≡ n
same_leaves true n env behind at is = same_length at is
same_leaves false n env behind at is = absurd (some_none (sym is))

known_leaves : (o : Option Tree) (index : ℕ) (t : Tree) (n : ℕ) (env behind : List Tree) → length env ≡ n → index < n →
    slice_get env index ≡ o → matched_variable o index t env ≡ Some behind → length behind ≡ n
known_leaves None index t n env behind at below nothing is =
    absurd (some_none (sym (within env n index at below).1 ∙ nothing))
known_leaves (Some u) index t n env behind at below known is = same_leaves (is_equal (tree_cmp t u)) n env behind at is

added_leaves : (b : Bool) (t : Tree) (n : ℕ) (env behind : List Tree) → length env ≡ n →
    (if b then Some (env ++ t ∷ []) else None) ≡ Some behind → length behind ≡ n + 1
added_leaves true t n env behind at is =
    ap (λ x. length x) (sym (some_injective is)) ∙ length-append env (t ∷ []) ∙ ap (λ k. k + 1) at
added_leaves false t n env behind at is = absurd (some_none (sym is))

fresh_leaves : (o : Option Tree) (index : ℕ) (t : Tree) (env behind : List Tree) → length env ≡ index →
    slice_get env index ≡ o →
    matched_variable o index t env ≡ Some behind → length behind ≡ index + 1
fresh_leaves None index t env behind at nothing is = added_leaves (length env == index) t index env behind at is
fresh_leaves (Some u) index t env behind at known is =
    absurd (some_none (sym known ∙ slice_get_past env index (omega (arith, at))))

mutual
  pub leaves : {n m : ℕ} {p : Pat} → PatternBinds n p m → (t : Tree) (env behind : List Tree) → length env ≡ n →
      matched p t env ≡ Some behind → length behind ≡ m
  leaves (scoped.constant {n = n} {t = u}) t env behind at is = same_leaves (is_equal (tree_cmp t u)) n env behind at is
  leaves (scoped.compared {n = n} {index = index} below) t env behind at is =
      known_leaves (slice_get env index) index t n env behind at below refl is
  leaves (scoped.fresh {n = n}) t env behind at is = fresh_leaves (slice_get env n) n t env behind at refl is
  leaves scoped.anything t env behind at is = same_length at is
  leaves (scoped.tuple d) (term.tuple ts) env behind at is = each_leaves d ts env behind at is
  leaves (scoped.tuple d) t env behind at is = absurd (some_none (sym is))
  leaves (scoped.list d) (term.list ts) env behind at is = each_leaves d ts env behind at is
  leaves (scoped.list d) t env behind at is = absurd (some_none (sym is))
  leaves (scoped.cons d) (term.list ts) env behind at is = front_leaves d ts env behind at is
  leaves (scoped.cons d) t env behind at is = absurd (some_none (sym is))
  leaves (scoped.alias d) t env behind at is = all_leaves d t env behind at is

  pub each_leaves : {n m : ℕ} {ps : Pats} → PatternsBind n ps m → (ts : Trees) (env behind : List Tree) → length env ≡ n →
      matched_each ps ts env ≡ Some behind → length behind ≡ m
  each_leaves scoped.no_pattern term.none env behind at is = same_length at is
  each_leaves scoped.no_pattern (term.more t ts) env behind at is = absurd (some_none (sym is))
  each_leaves (scoped.next_pattern d ds) term.none env behind at is = absurd (some_none (sym is))
  each_leaves (scoped.next_pattern {p = p} {ps = ps} d ds) (term.more t ts) env behind at is =
      let first = inverts (matched p t env) (λ x. matched_each ps ts x) behind is in
      each_leaves ds ts first.0 behind (leaves d t env first.0 at first.1) first.2

  front_leaves : {n m : ℕ} {ps : Pats} → PatternsBind n ps m → (ts : Trees) (env behind : List Tree) → length env ≡ n →
      matched_front ps ts env ≡ Some behind → length behind ≡ m
  front_leaves scoped.no_pattern ts env behind at is = absurd (some_none (sym is))
  front_leaves (scoped.next_pattern d scoped.no_pattern) ts env behind at is = leaves d (term.list ts) env behind at is
  front_leaves (scoped.next_pattern d (scoped.next_pattern e es)) term.none env behind at is = absurd (some_none (sym is))
  front_leaves (scoped.next_pattern {p = p} d (scoped.next_pattern {p = q} {ps = qs} e es)) (term.more t ts) env behind at is =
      let first = inverts (matched p t env) (λ x. matched_front (pattern.more q qs) ts x) behind is in
      front_leaves (scoped.next_pattern e es) ts first.0 behind (leaves d t env first.0 at first.1) first.2

  all_leaves : {n m : ℕ} {ps : Pats} → PatternsBind n ps m → (t : Tree) (env behind : List Tree) → length env ≡ n →
      matched_all ps t env ≡ Some behind → length behind ≡ m
  all_leaves scoped.no_pattern t env behind at is = same_length at is
  all_leaves (scoped.next_pattern {p = p} {ps = ps} d ds) t env behind at is =
      let first = inverts (matched p t env) (λ x. matched_all ps t x) behind is in
      all_leaves ds t first.0 behind (leaves d t env first.0 at first.1) first.2

below_length : {n index : ℕ} (env : List Tree) → length env ≡ n → index < n → index ≤ length env
below_length env at below = omega (arith, at, below)

mutual
  pub may_match : {n m : ℕ} {p : Pat} → PatternBinds n p m → (t : Tree) (env : List Tree) → length env ≡ n → MayMatch p t env
  may_match scoped.constant t env at = tt
  may_match (scoped.compared below) t env at = below_length env at below
  may_match scoped.fresh t env at = omega (arith, at)
  may_match scoped.anything t env at = tt
  may_match (scoped.tuple d) (term.tuple ts) env at = may_match_each d ts env at
  may_match (scoped.tuple d) t env at = tt
  may_match (scoped.list d) (term.list ts) env at = may_match_each d ts env at
  may_match (scoped.list d) t env at = tt
  may_match (scoped.cons d) (term.list ts) env at = may_match_front d ts env at
  may_match (scoped.cons d) t env at = tt
  may_match (scoped.alias d) t env at = may_match_all d t env at

  pub may_match_each : {n m : ℕ} {ps : Pats} → PatternsBind n ps m → (ts : Trees) (env : List Tree) → length env ≡ n →
      MayMatchEach ps ts env
  may_match_each scoped.no_pattern ts env at = tt
  may_match_each (scoped.next_pattern d ds) term.none env at = tt
  may_match_each (scoped.next_pattern d ds) (term.more t ts) env at =
      (may_match d t env at, λ behind is. may_match_each ds ts behind (leaves d t env behind at is))

  may_match_front : {n m : ℕ} {ps : Pats} → PatternsBind n ps m → (ts : Trees) (env : List Tree) → length env ≡ n →
      MayMatchFront ps ts env
  may_match_front scoped.no_pattern ts env at = tt
  may_match_front (scoped.next_pattern d scoped.no_pattern) ts env at = may_match d (term.list ts) env at
  may_match_front (scoped.next_pattern d (scoped.next_pattern e es)) term.none env at = tt
  may_match_front (scoped.next_pattern d (scoped.next_pattern e es)) (term.more t ts) env at = (
    may_match d t env at,
    λ behind is. may_match_front (scoped.next_pattern e es) ts behind (leaves d t env behind at is),
  )

  may_match_all : {n m : ℕ} {ps : Pats} → PatternsBind n ps m → (t : Tree) (env : List Tree) → length env ≡ n →
      MayMatchAll ps t env
  may_match_all scoped.no_pattern t env at = tt
  may_match_all (scoped.next_pattern d ds) t env at =
      (may_match d t env at, λ behind is. may_match_all ds t behind (leaves d t env behind at is))

-- A test binds nothing, and reads what is bound.
mutual
  may_test : {n m : ℕ} {e : Expr} → ExprBinds n e m → (env : List Tree) → IsTest e → length env ≡ n →
      MayTest env e × (length env ≡ m)
  may_test scoped.literal env test at = (tt, at)
  may_test (scoped.variable {n = n} {index = index} below) env test at = (within env n index at below, at)
  may_test (scoped.apply d) env test at =
      let each = may_test_each d env test.2 at in ((test.0, test.1, each.0), each.1)
  may_test (scoped.match d p) env test at = absurd test
  may_test (scoped.block d) env test at = absurd test
  may_test (scoped.case d cs) env test at = absurd test
  may_test (scoped.short_circuit d e) env test at =
      let left = may_test_each d env test.1 at in
      let right = may_test_each e env test.3 left.1 in ((test.0, left.0, test.2, right.0), left.1)

  may_test_each : {n m : ℕ} {es : Exprs} → ExprsBind n es m → (env : List Tree) → AreTests es → length env ≡ n →
      MayTestEach env es × (length env ≡ m)
  may_test_each scoped.no_expression env tests at = (tt, at)
  may_test_each (scoped.next_expression d ds) env tests at =
      let first = may_test d env tests.0 at in
      let others = may_test_each ds env tests.1 first.1 in ((first.0, others.0), others.1)

pub may_guard : {n : ℕ} {gs : Guards} → GuardsSee n gs → (env : List Tree) → AreGuards gs → length env ≡ n → MayGuard env gs
may_guard scoped.no_guard env formed at = tt
may_guard (scoped.next_guard d ds) env formed at = ((may_test_each d env formed.0 at).0, may_guard ds env formed.1 at)

pub may_try : (m : Forms) {n : ℕ} {cs : Clauses} → ClausesSee n cs → (env : List Tree) (ts : Trees) → AreFormedClauses m cs →
    HavePatterns (count ts) cs → length env ≡ n → MayTry env ts cs
may_try m scoped.no_clause env ts formed have at = tt
may_try m (scoped.next_clause ps gs body cs) env ts formed have at = (
  have.0,
  may_match_each ps ts env at,
  λ behind is. may_guard gs behind formed.0 (each_leaves ps ts env behind at is),
  may_try m cs env ts formed.3 have.1 at,
)

-- The clause that is selected: its body has an expression, and is evaluated where its patterns have bound what they bind.
pub record IsReady (m : Forms) (env : List Tree) (body : Exprs) : Type 0 where
  pub behind : ℕ
  pub scopes : ExprsBind (length env) body behind
  pub has_one : 1 ≤ expr_count body
  pub formed : AreFormed m body

abbrev pub FoundIsReady : Forms → Option (List Tree × Exprs) → Type 0
FoundIsReady m None = Unit {0}
FoundIsReady m (Some p) = IsReady m p.0 p.1

picked_ready : (m : Forms) (p : Bool × ℕ) (env : List Tree) (body : Exprs) (others : ℕ → Selection) → IsReady m env body →
    ((k : ℕ) → FoundIsReady m (others k).0) → FoundIsReady m (picked p env body others).0
picked_ready m (true, calls) env body others here later = here
picked_ready m (false, calls) env body others here later = later calls

where_ready : (m : Forms) (self : ℕ) (found : Option (List Tree)) (gs : Guards) (body : Exprs) (others : ℕ → Selection)
    (calls : ℕ) →
    ((env : List Tree) → found ≡ Some env → IsReady m env body) → ((k : ℕ) → FoundIsReady m (others k).0) →
    FoundIsReady m (picked_where self found gs body others calls).0
where_ready m self None gs body others calls here later = later calls
where_ready m self (Some env) gs body others calls here later =
    picked_ready m (guarded self env gs calls) env body others (here env refl) later

ready : {n k : ℕ} {body : Exprs} (m : Forms) (env : List Tree) → length env ≡ n → ExprsBind n body k → 1 ≤ expr_count body →
    AreFormed m body →
    IsReady m env body
ready {k = k} {body = body} m env at d has_one formed =
    record { behind = k; scopes = subst (λ x. ExprsBind x body k) (sym at) d; has_one = has_one; formed = formed }

pub selected_ready : {n : ℕ} {cs : Clauses} (m : Forms) → ClausesSee n cs →
    (self : ℕ) (env : List Tree) (ts : Trees) (calls : ℕ) →
    AreFormedClauses m cs → length env ≡ n → FoundIsReady m (selected self env cs ts calls).0
selected_ready m scoped.no_clause self env ts calls formed at = tt
selected_ready m (scoped.next_clause {ps = ps} {gs = gs} {body = body} {cs = cs} d e f others) self env ts calls formed at =
    where_ready m self (matched_each ps ts env) gs body (selected self env cs ts) calls
    (λ behind is. ready m behind (each_leaves d ts env behind at is) f formed.1 formed.2)
    (λ k. selected_ready m others self env ts k formed.3 at)
