-- A guard expression gives as a test what comes of it where it is evaluated, and leaves behind no more than the calls it made.
use Rattle.std.specs.Prelude.{◌≡◌, ℕ, ◌+◌, Bool, true, false, ◌&&◌, nat_lt, List, Option, None, Some, refl}
use Rattle.std.proofs.Common.{ap, sym, subst, ◌∙◌, true≢false}
use Rattle.erl_term.specs.Tree.{Tree, Trees}
use Rattle.erl_ir.specs.declared.operation.BuiltIn.{BuiltIn}
use Rattle.erl_ir.specs.declared.operation.BuiltIn.TheVariants as built_in
use Rattle.erl_ir.specs.declared.operation.Connective.{Connective}
use Rattle.erl_ir.specs.declared.operation.Connective.TheVariants.{AndAlso, OrElse}
use Rattle.erl_ir.specs.declared.operation.Operation.{Operation}
use Rattle.erl_ir.specs.declared.operation.Operation.TheVariants as operation
use Rattle.erl_ir.specs.declared.operation.Operator.{Operator}
use Rattle.erl_ir.specs.declared.operation.Operator.TheVariants as operator
use Rattle.erl_ir.specs.Expression as form
use Rattle.erl_ir.specs.Expression.{Expr, Exprs}
use Rattle.erl_semantics.specs.State.{Result, value, exit, IsEnd, World, Activation, State, with_calls, after}
use Rattle.erl_semantics.specs.State as state
use Rattle.erl_semantics.specs.Operators.{operated, sends, truth_of}
use Rattle.erl_semantics.specs.BuiltIns.{given, does}
use Rattle.erl_semantics.specs.Starting.{Way, at_once, way_of}
use Rattle.erl_semantics.specs.Guards.{Tested, Values, all, stopped, guard_operated, is_guard_bif, guard_called}
use Rattle.erl_semantics.specs.Guards.{guard_applied, applied_to, tested, tested_row, tested_alone, tested_then, values_then}
use Rattle.erl_semantics.specs.Guards.{first_value, connected}
use Rattle.erl_semantics.specs.Evaluation.{Eval, Operands, Body, Decided, Applied, BuiltInCalled, Worked, Gives, counted}
use Rattle.erl_semantics.specs.Evaluation as rule
use Rattle.erl_semantics.specs.OperatorLaws.{is_guard_operator, is_guard_operation, is_guard_expression, are_guard_expressions}
use Rattle.erl_semantics.specs.OperatorLaws.{is_one_guard_expression, GuardsAreExpressions, GuardValuesAreValues}
use Rattle.erl_semantics.proofs.Uniqueness.{eval-once}

-- a result and its calls, one by one
same_value : {p : Tested} {t : Tree} {n : ℕ} → p ≡ (value t, n) → (value t ≡ p.0) × (n ≡ p.1)
same_value e = (sym (ap (λ p. p.0) e), sym (ap (λ p. p.1) e))

-- an end is no value
no_value : {p : Tested} {t : Tree} {n : ℕ} → p ≡ (value t, n) → IsEnd p.0 → ⊥
no_value e ends = subst (λ q. IsEnd q) (ap (λ q. q.0) e) ends

-- all operators of guards give what they give elsewhere, and send nothing
operator_alike : (o : Operator) (ts : Trees) (t : Tree) → guard_operated o ts ≡ value t →
    (operated o ts ≡ value t) × (sends o ts ≡ None)
operator_alike operator.Append ts t e = absurd (let no : ⊥ = cc in no)
operator_alike operator.Send ts t e = absurd (let no : ⊥ = cc in no)
operator_alike _ ts t e = (e, refl)

-- all functions of guards work at once, and do nothing
guard_bif_alike : (f : BuiltIn) → is_guard_bif f ≡ true → (way_of f ≡ at_once) × ((ts : Trees) → does f ts ≡ None)
guard_bif_alike built_in.Abs e = (refl, λ ts. refl)
guard_bif_alike built_in.Element e = (refl, λ ts. refl)
guard_bif_alike built_in.Hd e = (refl, λ ts. refl)
guard_bif_alike built_in.Tl e = (refl, λ ts. refl)
guard_bif_alike built_in.Length e = (refl, λ ts. refl)
guard_bif_alike built_in.TupleSize e = (refl, λ ts. refl)
guard_bif_alike built_in.IsAtom e = (refl, λ ts. refl)
guard_bif_alike built_in.IsInteger e = (refl, λ ts. refl)
guard_bif_alike built_in.IsList e = (refl, λ ts. refl)
guard_bif_alike built_in.IsPid e = (refl, λ ts. refl)
guard_bif_alike built_in.IsTuple e = (refl, λ ts. refl)
guard_bif_alike built_in.IsBoolean e = (refl, λ ts. refl)
guard_bif_alike built_in.SelfPid e = (refl, λ ts. refl)
guard_bif_alike _ e = absurd (true≢false (sym e))

-- what a call in a guard needs to give a value
called_parts : (is_guard within : Bool) (self : ℕ) (f : BuiltIn) (ts : Trees) (m n : ℕ) (t : Tree) →
    guard_called is_guard within self f ts m ≡ (value t, n) →
    (is_guard ≡ true) × (within ≡ true) × (value t ≡ given self f ts) × (n ≡ m + 1)
called_parts false within self f ts m n t e = absurd (no_value e tt)
called_parts true false self f ts m n t e = absurd (no_value e tt)
called_parts true true self f ts m n t e = let parts = same_value e in (refl, refl, parts.0, parts.1)

-- Operands are stopped by an end.

abbrev IsEndWhereStopped : Values → Type 0
IsEndWhereStopped (all ts) = Unit {0}
IsEndWhereStopped (stopped r) = IsEnd r

first_ends : (t : Tree) (p : Values × ℕ) → IsEndWhereStopped p.0 → IsEndWhereStopped (first_value t p).0
first_ends t (all ts, n) ends = tt
first_ends t (stopped r, n) ends = ends

then_ends : (f : Tree → ℕ → Values × ℕ) (p : Tested) → ((t : Tree) (n : ℕ) → IsEndWhereStopped (f t n).0) →
    IsEndWhereStopped (values_then f p).0
then_ends f (value t, n) each = each t n
then_ends f (state.rest p, n) each = tt
then_ends f (exit t, n) each = tt

row_ends : (self : ℕ) (env : List Tree) (es : Exprs) (n : ℕ) → IsEndWhereStopped (tested_row self env es n).0
row_ends self env form.none n = tt
row_ends self env (form.more e es) n =
    then_ends (λ t behind. first_value t (tested_row self env es behind)) (tested self env e n)
    (λ t m. first_ends t (tested_row self env es m) (row_ends self env es m))

module _ (w : World) where
  worked : {a : Activation} {way : Way} {f : BuiltIn} {ts : Trees} {s : State} {r : Result} {left : State} → way ≡ at_once →
      Gives r left (given w.pid f ts) (after (does f ts) s) → Worked w a way f ts s r left
  worked {a} {way} {f} {ts} {s} {r} {left} is g =
      subst (λ x. Worked w a x f ts s r left) (sym is) (rule.worked_at_once g)

  built_in_was_called : {a : Activation} {within : Bool} {f : BuiltIn} {ts : Trees} {s : State} {r : Result} {left : State} →
      within ≡ true → Worked w a (way_of f) f ts (counted s) r left → BuiltInCalled w a within f ts s r left
  built_in_was_called {a} {within} {f} {ts} {s} {r} {left} is d =
      subst (λ b. BuiltInCalled w a b f ts s r left) (sym is) (rule.built_in_called d)

  applied : {a : Activation} {tail : Bool} (op : Operation) (ts : Trees) (s : State) (t : Tree) (n : ℕ) →
      guard_applied w.pid op ts s.calls ≡ (value t, n) → Applied w a tail op (all ts) s (value t) (with_calls n s)
  applied operation.Tuple ts s t n e =
      let same = same_value e in rule.tuple (same.0, ap (λ k. with_calls k s) same.1)
  applied operation.List ts s t n e =
      let same = same_value e in rule.list (same.0, ap (λ k. with_calls k s) same.1)
  applied operation.Cons ts s t n e =
      let same = same_value e in rule.cons (same.0, ap (λ k. with_calls k s) same.1)
  applied (operation.Operator o) ts s t n e =
      let same = same_value e in
      let alike = operator_alike o ts t (sym same.0) in
      rule.operator (sym alike.0, ap (λ k. with_calls k s) same.1 ∙ ap (λ act. after act s) (sym alike.1))
  applied (operation.BuiltIn f qualified) ts s t n e =
      let parts = called_parts (is_guard_bif f) (nat_lt s.calls 10000) w.pid f ts s.calls n t e in
      let alike = guard_bif_alike f parts.0 in
      rule.built_in (built_in_was_called parts.1 (worked alike.0
      (parts.2, ap (λ k. with_calls k s) parts.3 ∙ ap (λ act. after act (counted s)) (sym (alike.1 ts)))))
  applied (operation.Local name) ts s t n e = absurd (no_value e tt)
  applied (operation.Remote m name) ts s t n e = absurd (no_value e tt)

  -- An operation, by what comes of its operands.
  apply_by : {a : Activation} {tail : Bool} (op : Operation) (es : Exprs) (s : State) (t : Tree) (n : ℕ) (p : Values × ℕ) →
      IsEndWhereStopped p.0 → ((ts : Trees) (m : ℕ) → p ≡ (all ts, m) → Operands w a es s (all ts) (with_calls m s)) →
      applied_to w.pid op p ≡ (value t, n) → Eval w a tail (form.apply op es) s (value t) (with_calls n s)
  apply_by op es s t n (all ts, m) ends operands e = rule.apply (operands ts m refl) (applied op ts (with_calls m s) t n e)
  apply_by op es s t n (stopped r, m) ends operands e = absurd (no_value e ends)

  -- the other operands, by what comes of the first
  others_by : {a : Activation} (e : Expr) (es : Exprs) (s : State) (t : Tree) (m : ℕ) (ts : Trees) (n : ℕ) (p : Values × ℕ) →
      Eval w a false e s (value t) (with_calls m s) →
      ((us : Trees) (k : ℕ) → p ≡ (all us, k) → Operands w a es (with_calls m s) (all us) (with_calls k s)) →
      first_value t p ≡ (all ts, n) → Operands w a (form.more e es) s (all ts) (with_calls n s)
  others_by {a} e es s t m ts n (all us, k) d others is =
      subst (λ q. Operands w a (form.more e es) s q.0 (with_calls q.1 s)) is
      (rule.operand d (rule.others (others us k refl) refl))
  others_by e es s t m ts n (stopped r, k) d others is = absurd (let no : ⊥ = cc (ap (λ q. q.0) is) in no)

  operands_by : {a : Activation} (e : Expr) (es : Exprs) (s : State) (ts : Trees) (n : ℕ) (p : Tested) →
      ((t : Tree) (m : ℕ) → p ≡ (value t, m) → Eval w a false e s (value t) (with_calls m s)) →
      ((m : ℕ) (us : Trees) (k : ℕ) → tested_row w.pid s.bindings es m ≡ (all us, k) →
      Operands w a es (with_calls m s) (all us) (with_calls k s)) →
      values_then (λ t behind. first_value t (tested_row w.pid s.bindings es behind)) p ≡ (all ts, n) →
      Operands w a (form.more e es) s (all ts) (with_calls n s)
  operands_by e es s ts n (value t, m) first others is =
      others_by e es s t m ts n (tested_row w.pid s.bindings es m) (first t m refl) (others m) is
  operands_by e es s ts n (state.rest p, m) first others is = absurd (let no : ⊥ = cc (ap (λ q. q.0) is) in no)
  operands_by e es s ts n (exit t, m) first others is = absurd (let no : ⊥ = cc (ap (λ q. q.0) is) in no)

  -- A connective, by the truth of its left side.
  connected_by : {a : Activation} {tail : Bool} (c : Connective) (right : Exprs) (s : State) (u : Tree) (m : ℕ) (t : Tree) (n : ℕ)
      (b : Option Bool) → truth_of u ≡ b →
      (tested_alone w.pid s.bindings right m ≡ (value t, n) → Body w a tail right (with_calls m s) (value t) (with_calls n s)) →
      connected b c u (tested_alone w.pid s.bindings right) m ≡ (value t, n) →
      Decided w a tail c right (value u) (with_calls m s) (value t) (with_calls n s)
  connected_by c right s u m t n None holds body is = absurd (no_value is tt)
  connected_by AndAlso right s u m t n (Some true) holds body is = rule.undecided holds true≢false (body is) refl
  connected_by OrElse right s u m t n (Some true) holds body is =
      let same = same_value is in rule.decided holds (same.0, ap (λ k. with_calls k s) same.1)
  connected_by AndAlso right s u m t n (Some false) holds body is =
      let same = same_value is in rule.decided holds (same.0, ap (λ k. with_calls k s) same.1)
  connected_by OrElse right s u m t n (Some false) holds body is =
      rule.undecided holds (λ e. true≢false (sym e)) (body is) refl

  short_circuit_by : {a : Activation} {tail : Bool} (c : Connective) (left right : Exprs) (s : State) (t : Tree) (n : ℕ)
      (p : Tested) →
      ((u : Tree) (m : ℕ) → p ≡ (value u, m) → Body w a false left s (value u) (with_calls m s)) →
      ((m : ℕ) → tested_alone w.pid s.bindings right m ≡ (value t, n) →
      Body w a tail right (with_calls m s) (value t) (with_calls n s)) →
      tested_then (λ u behind. connected (truth_of u) c u (tested_alone w.pid s.bindings right) behind) p ≡ (value t, n) →
      Eval w a tail (form.short_circuit c left right) s (value t) (with_calls n s)
  short_circuit_by c left right s t n (value u, m) first second is =
      rule.short_circuit (first u m refl) (connected_by c right s u m t n (truth_of u) refl (second m) is)
  short_circuit_by c left right s t n (state.rest p, m) first second is = absurd (no_value is tt)
  short_circuit_by c left right s t n (exit u, m) first second is = absurd (no_value is tt)

  mutual
    evaluates : {a : Activation} {tail : Bool} (e : Expr) (s : State) (t : Tree) (n : ℕ) →
        tested w.pid s.bindings e s.calls ≡ (value t, n) → Eval w a tail e s (value t) (with_calls n s)
    evaluates (form.literal u) s t n is =
        let same = same_value is in rule.literal (same.0, ap (λ k. with_calls k s) same.1)
    evaluates (form.variable index) s t n is =
        let same = same_value is in rule.variable (same.0, ap (λ k. with_calls k s) same.1)
    evaluates (form.apply op es) s t n is =
        apply_by op es s t n (tested_row w.pid s.bindings es s.calls) (row_ends w.pid s.bindings es s.calls)
        (λ ts m h. row_evaluates es s ts m h) is
    evaluates (form.match p body) s t n is = absurd (no_value is tt)
    evaluates (form.block body) s t n is = absurd (no_value is tt)
    evaluates (form.case subject cs) s t n is = absurd (no_value is tt)
    evaluates (form.short_circuit c left right) s t n is =
        short_circuit_by c left right s t n (tested_alone w.pid s.bindings left s.calls)
        (λ u m h. alone_evaluates left s u m h) (λ m h. alone_evaluates right (with_calls m s) t n h) is

    row_evaluates : {a : Activation} (es : Exprs) (s : State) (ts : Trees) (n : ℕ) →
        tested_row w.pid s.bindings es s.calls ≡ (all ts, n) → Operands w a es s (all ts) (with_calls n s)
    row_evaluates form.none s ts n is =
        rule.no_operands (sym (ap (λ p. p.0) is)) (ap (λ k. with_calls k s) (sym (ap (λ p. p.1) is)))
    row_evaluates (form.more e es) s ts n is =
        operands_by e es s ts n (tested w.pid s.bindings e s.calls) (λ t m h. evaluates e s t m h)
        (λ m us k h. row_evaluates es (with_calls m s) us k h) is

    alone_evaluates : {a : Activation} {tail : Bool} (es : Exprs) (s : State) (t : Tree) (n : ℕ) →
        tested_alone w.pid s.bindings es s.calls ≡ (value t, n) → Body w a tail es s (value t) (with_calls n s)
    alone_evaluates form.none s t n is = absurd (no_value is tt)
    alone_evaluates (form.more e form.none) s t n is = rule.last (evaluates e s t n is)
    alone_evaluates (form.more e (form.more f es)) s t n is = absurd (no_value is tt)

pub values_are_values : GuardValuesAreValues
values_are_values w a tail e s t calls is r left = (
  λ d. eval-once w d (evaluates w e s t calls is),
  λ same. subst (λ q. Eval w a tail e s q left) (sym same.0)
      (subst (λ x. Eval w a tail e s (value t) x) (sym same.1) (evaluates w e s t calls is)),
)

-- the same of guard expressions, whatever they give

both_true : (b c : Bool) → (b && c) ≡ true → (b ≡ true) × (c ≡ true)
both_true true c e = (refl, e)
both_true false c e = absurd (true≢false (sym e))

guard_operator_alike : (o : Operator) (ts : Trees) → is_guard_operator o ≡ true →
    (guard_operated o ts ≡ operated o ts) × (sends o ts ≡ None)
guard_operator_alike operator.Append ts e = absurd (true≢false (sym e))
guard_operator_alike operator.Send ts e = absurd (true≢false (sym e))
guard_operator_alike _ ts e = (refl, refl)

module _ (w : World) where
  built_in_gives : {a : Activation} (is_guard within : Bool) (f : BuiltIn) (ts : Trees) (s : State) → is_guard ≡ true →
      way_of f ≡ at_once → ((us : Trees) → does f us ≡ None) →
      BuiltInCalled w a within f ts s (guard_called is_guard within w.pid f ts s.calls).0
      (with_calls (guard_called is_guard within w.pid f ts s.calls).1 s)
  built_in_gives false within f ts s e way nothing = absurd (true≢false (sym e))
  built_in_gives true false f ts s e way nothing = rule.built_in_too_many (refl, refl)
  built_in_gives true true f ts s e way nothing =
      rule.built_in_called (worked w way (refl, ap (λ act. after act (counted s)) (sym (nothing ts))))

  operation_gives : {a : Activation} {tail : Bool} (op : Operation) (ts : Trees) (s : State) → is_guard_operation op ≡ true →
      Applied w a tail op (all ts) s (guard_applied w.pid op ts s.calls).0 (with_calls (guard_applied w.pid op ts s.calls).1 s)
  operation_gives operation.Tuple ts s e = rule.tuple (refl, refl)
  operation_gives operation.List ts s e = rule.list (refl, refl)
  operation_gives operation.Cons ts s e = rule.cons (refl, refl)
  operation_gives (operation.Operator o) ts s e =
      let alike = guard_operator_alike o ts e in rule.operator (alike.0, ap (λ act. after act s) (sym alike.1))
  operation_gives (operation.BuiltIn f qualified) ts s e =
      let alike = guard_bif_alike f e in
      rule.built_in (built_in_gives (is_guard_bif f) (nat_lt s.calls 10000) f ts s e alike.0 alike.1)
  operation_gives (operation.Local name) ts s e = absurd (true≢false (sym e))
  operation_gives (operation.Remote m name) ts s e = absurd (true≢false (sym e))

  apply_gives : {a : Activation} {tail : Bool} (op : Operation) (es : Exprs) (s : State) (p : Values × ℕ) →
      is_guard_operation op ≡ true → Operands w a es s p.0 (with_calls p.1 s) →
      Eval w a tail (form.apply op es) s (applied_to w.pid op p).0 (with_calls (applied_to w.pid op p).1 s)
  apply_gives op es s (all ts, n) e d = rule.apply d (operation_gives op ts (with_calls n s) e)
  apply_gives op es s (stopped r, n) e d = rule.apply d (rule.operands_ended (refl, refl))

  others_give : {a : Activation} (e : Expr) (es : Exprs) (s : State) (t : Tree) (m : ℕ) (p : Values × ℕ) →
      Eval w a false e s (value t) (with_calls m s) → Operands w a es (with_calls m s) p.0 (with_calls p.1 s) →
      Operands w a (form.more e es) s (first_value t p).0 (with_calls (first_value t p).1 s)
  others_give e es s t m (v, n) d others = rule.operand d (rule.others others refl)

  operands_give : {a : Activation} (e : Expr) (es : Exprs) (s : State) (p : Tested) (f : Tree → ℕ → Values × ℕ) →
      Eval w a false e s p.0 (with_calls p.1 s) →
      ((t : Tree) (m : ℕ) → Eval w a false e s (value t) (with_calls m s) →
      Operands w a (form.more e es) s (f t m).0 (with_calls (f t m).1 s)) →
      Operands w a (form.more e es) s (values_then f p).0 (with_calls (values_then f p).1 s)
  operands_give e es s (value t, m) f d others = others t m d
  operands_give e es s (state.rest p, m) f d others = rule.operand d (rule.operand_ended tt refl refl)
  operands_give e es s (exit t, m) f d others = rule.operand d (rule.operand_ended tt refl refl)

  connected_gives : {a : Activation} {tail : Bool} (c : Connective) (right : Exprs) (s : State) (t : Tree) (m : ℕ)
      (b : Option Bool) (f : ℕ → Tested) → truth_of t ≡ b →
      Body w a tail right (with_calls m s) (f m).0 (with_calls (f m).1 s) →
      Decided w a tail c right (value t) (with_calls m s) (connected b c t f m).0 (with_calls (connected b c t f m).1 s)
  connected_gives c right s t m None f holds d = rule.no_truth holds (refl, refl)
  connected_gives AndAlso right s t m (Some true) f holds d = rule.undecided holds true≢false d refl
  connected_gives OrElse right s t m (Some true) f holds d = rule.decided holds (refl, refl)
  connected_gives AndAlso right s t m (Some false) f holds d = rule.decided holds (refl, refl)
  connected_gives OrElse right s t m (Some false) f holds d = rule.undecided holds (λ e. true≢false (sym e)) d refl

  short_circuit_gives : {a : Activation} {tail : Bool} (c : Connective) (left right : Exprs) (s : State) (p : Tested)
      (f : ℕ → Tested) → Body w a false left s p.0 (with_calls p.1 s) →
      ((m : ℕ) → Body w a tail right (with_calls m s) (f m).0 (with_calls (f m).1 s)) →
      let r = tested_then (λ t behind. connected (truth_of t) c t f behind) p in
      Eval w a tail (form.short_circuit c left right) s r.0 (with_calls r.1 s)
  short_circuit_gives c left right s (value t, m) f d second =
      rule.short_circuit d (connected_gives c right s t m (truth_of t) f refl (second m))
  short_circuit_gives c left right s (state.rest p, m) f d second = rule.short_circuit d (rule.left_ended tt (refl, refl))
  short_circuit_gives c left right s (exit t, m) f d second = rule.short_circuit d (rule.left_ended tt (refl, refl))

  mutual
    gives : {a : Activation} {tail : Bool} (e : Expr) (s : State) → is_guard_expression e ≡ true →
        Eval w a tail e s (tested w.pid s.bindings e s.calls).0 (with_calls (tested w.pid s.bindings e s.calls).1 s)
    gives (form.literal t) s ok = rule.literal (refl, refl)
    gives (form.variable index) s ok = rule.variable (refl, refl)
    gives (form.apply op es) s ok =
        let parts = both_true (is_guard_operation op) (are_guard_expressions es) ok in
        apply_gives op es s (tested_row w.pid s.bindings es s.calls) parts.0 (row_gives es s parts.1)
    gives (form.match p body) s ok = absurd (true≢false (sym ok))
    gives (form.block body) s ok = absurd (true≢false (sym ok))
    gives (form.case subject cs) s ok = absurd (true≢false (sym ok))
    gives (form.short_circuit c left right) s ok =
        let parts = both_true (is_one_guard_expression left) (is_one_guard_expression right) ok in
        short_circuit_gives c left right s (tested_alone w.pid s.bindings left s.calls) (tested_alone w.pid s.bindings right)
        (alone_gives left s parts.0) (λ m. alone_gives right (with_calls m s) parts.1)

    row_gives : {a : Activation} (es : Exprs) (s : State) → are_guard_expressions es ≡ true →
        Operands w a es s (tested_row w.pid s.bindings es s.calls).0
        (with_calls (tested_row w.pid s.bindings es s.calls).1 s)
    row_gives form.none s ok = rule.no_operands refl refl
    row_gives (form.more e es) s ok =
        let parts = both_true (is_guard_expression e) (are_guard_expressions es) ok in
        operands_give e es s (tested w.pid s.bindings e s.calls)
        (λ t behind. first_value t (tested_row w.pid s.bindings es behind)) (gives e s parts.0)
        (λ t m d. others_give e es s t m (tested_row w.pid s.bindings es m) d (row_gives es (with_calls m s) parts.1))

    alone_gives : {a : Activation} {tail : Bool} (es : Exprs) (s : State) → is_one_guard_expression es ≡ true →
        Body w a tail es s (tested_alone w.pid s.bindings es s.calls).0
        (with_calls (tested_alone w.pid s.bindings es s.calls).1 s)
    alone_gives form.none s ok = absurd (true≢false (sym ok))
    alone_gives (form.more e form.none) s ok = rule.last (gives e s ok)
    alone_gives (form.more e (form.more f es)) s ok = absurd (true≢false (sym ok))

pub guards_are_expressions : GuardsAreExpressions
guards_are_expressions w a tail e s r left ok =
    let test = tested w.pid s.bindings e s.calls in (
      λ d. eval-once w d (gives w e s ok),
      λ same. subst (λ q. Eval w a tail e s q left) (sym same.0)
          (subst (λ x. Eval w a tail e s test.0 x) (sym same.1) (gives w e s ok)),
    )
