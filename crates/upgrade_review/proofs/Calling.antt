-- Appending part by part.
use Rattle.std.proofs.Common.{◌≡◌, ◌∙◌, ℕ, ◌+◌, ◌<◌, ◌≤◌, List, [], ◌∷◌, ◌++◌, length, get_or, take, append-nil, append_assoc}
use Rattle.std.proofs.Common.{Some, Result, Ok, Err, OnOk, arith, refl, sym, ap, subst}
use Rattle.std.proofs.lemmas.List.{take_all, take_more}
use Rattle.std.proofs.lemmas.Option.{get_or_from_slice_get, slice_get_within}
use Rattle.std.specs.List.{slice_get}
use Rattle.erl_ir.specs.declared.expression.Clause.{Clause}
use Rattle.erl_ir.specs.declared.expression.Expression.{Expression}
use Rattle.erl_ir.specs.declared.function.Function.{Function}
use Rattle.erl_ir.specs.declared.operation.Operation.{Operation}
use Rattle.erl_ir.specs.Expression.{Exprs, expr_count}
use Rattle.erl_ir.specs.ExpressionForms.{clauses, expr, exprs, guards}
use Rattle.erl_ir.specs.Module.{Key}
use Rattle.upgrade_review.specs.Interfaces.{asking_by, asking_of, calls_by, calls_in, calls_in_clauses, calls_in_definition, calls_in_guards}
use Rattle.upgrade_review.specs.Interfaces.{calls_in_row, calls_of, exported_by, exports_of}
use Rattle.upgrade_review.specs.declared.interface.Call.{Call}

-- these, and then those
pub appended : {A : Type 0} (before between after xs ys : List A) → between ≡ before ++ xs → after ≡ between ++ ys →
    after ≡ before ++ (xs ++ ys)
appended before between after xs ys first second = second ∙ ap (λ zs. zs ++ ys) first ∙ append_assoc before xs ys

-- a first one, and what comes after it
behind_more : {A : Type 0} (front middle last whole : List A) → whole ≡ middle ++ last → front ++ whole ≡ front ++ middle ++ last
behind_more front middle last whole is = ap (λ zs. front ++ zs) is ∙ sym (append_assoc front middle last)

-- What is appended item by item: `all` of a list is `each` of its items, one after the other.
module _ {X A : Type 0} (all : List X → List A) (each : X → List A)
    (push : (xs : List X) (x : X) → all (xs ++ x ∷ []) ≡ all xs ++ each x) where
  one_more : (items : List X) (i : ℕ) (x : X) → i < length items → x ≡ get_or items i x →
      all (take (i + 1) items) ≡ all (take i items) ++ each x
  one_more items i x within is =
      ap all (take_more items i x within ∙ ap (λ y. take i items ++ y ∷ []) (sym is)) ∙ push (take i items) x

  pub item_appended : (items : List X) (i : ℕ) (x : X) (before between after : List A) → i < length items → x ≡ get_or items i x →
      between ≡ before ++ all (take i items) → after ≡ between ++ each x → after ≡ before ++ all (take (i + 1) items)
  item_appended items i x before between after within is first second =
      appended before between after (all (take i items)) (each x) first second ∙
      ap (λ zs. before ++ zs) (sym (one_more items i x within is))

  pub there_appended : (items : List X) (i : ℕ) (x : X) (before between after : List A) → slice_get items i ≡ Some x →
      between ≡ before ++ all (take i items) → after ≡ between ++ each x → after ≡ before ++ all (take (i + 1) items)
  there_appended items i x before between after is first second =
      item_appended items i x before between after (slice_get_within items i x is) (sym (get_or_from_slice_get items i x x is)) first second

-- the last item was appended
pub all_appended : {X A : Type 0} (all : List X → List A) (items : List X) (i : ℕ) (before after : List A) → length items ≤ i →
    after ≡ before ++ all (take i items) → after ≡ before ++ all items
all_appended all items i before after end so_far = so_far ∙ ap (λ xs. before ++ all xs) (take_all i items end)

-- The calls in a row of expressions, in guards, in clauses and in functions; and the functions that are exported.

pub row_push : (es : List Expression) (e : Expression) →
    calls_in_row (exprs (es ++ e ∷ [])) ≡ calls_in_row (exprs es) ++ calls_in (expr e)
row_push [] e = append-nil (calls_in (expr e))
row_push (f ∷ fs) e =
    behind_more (calls_in (expr f)) (calls_in_row (exprs fs)) (calls_in (expr e)) (calls_in_row (exprs (fs ++ e ∷ []))) (row_push fs e)

pub guards_push : (gs : List Exprs) (tests : Exprs) →
    calls_in_guards (guards (gs ++ tests ∷ [])) ≡ calls_in_guards (guards gs) ++ calls_in_row tests
guards_push [] tests = append-nil (calls_in_row tests)
guards_push (g ∷ gs) tests =
    behind_more (calls_in_row g) (calls_in_guards (guards gs)) (calls_in_row tests) (calls_in_guards (guards (gs ++ tests ∷ [])))
    (guards_push gs tests)

abbrev pub calls_in_clause : Clause → List Call
calls_in_clause c = calls_in_guards c.guard ++ calls_in_row c.body

pub clauses_push : (cs : List Clause) (c : Clause) →
    calls_in_clauses (clauses (cs ++ c ∷ [])) ≡ calls_in_clauses (clauses cs) ++ calls_in_clause c
clauses_push [] c = append-nil (calls_in_clause c)
clauses_push (d ∷ ds) c =
    behind_more (calls_in_clause d) (calls_in_clauses (clauses ds)) (calls_in_clause c) (calls_in_clauses (clauses (ds ++ c ∷ [])))
    (clauses_push ds c)

abbrev pub calls_in_function : Key × Function → List Call
calls_in_function f = calls_in_definition f.1.definition

pub functions_push : (fs : List (Key × Function)) (f : Key × Function) → calls_of (fs ++ f ∷ []) ≡ calls_of fs ++ calls_in_function f
functions_push [] f = append-nil (calls_in_function f)
functions_push (g ∷ gs) f = behind_more (calls_in_function g) (calls_of gs) (calls_in_function f) (calls_of (gs ++ f ∷ [])) (functions_push gs f)

pub exports_push : (fs : List (Key × Function)) (f : Key × Function) → exports_of (fs ++ f ∷ []) ≡ exports_of fs ++ exported_by f
exports_push [] f = append-nil (exported_by f)
exports_push (g ∷ gs) f = behind_more (exported_by g) (exports_of gs) (exported_by f) (exports_of (gs ++ f ∷ [])) (exports_push gs f)

pub asking_push : (fs : List (Key × Function)) (f : Key × Function) → asking_of (fs ++ f ∷ []) ≡ asking_of fs ++ asking_by f
asking_push [] f = append-nil (asking_by f)
asking_push (g ∷ gs) f = behind_more (asking_by g) (asking_of gs) (asking_by f) (asking_of (gs ++ f ∷ [])) (asking_push gs f)

-- the call that an operation makes, and those of its operands
count_of : (es : List Expression) → expr_count (exprs es) ≡ length es
count_of [] = refl
count_of (e ∷ es) = omega (arith, count_of es)

operation_appended : (op : Operation) (operands : List Expression) (es : Exprs) (before between after : List Call) →
    exprs operands ≡ es → between ≡ before ++ calls_by op (length operands) → after ≡ between ++ calls_in_row (exprs operands) →
    after ≡ before ++ (calls_by op (expr_count es) ++ calls_in_row es)
operation_appended op operands es before between after is first second =
    let counted : between ≡ before ++ calls_by op (expr_count (exprs operands)) =
    first ∙ ap (λ n. before ++ calls_by op n) (sym (count_of operands)) in
    let P : Exprs → Type 0 = λ it. after ≡ before ++ (calls_by op (expr_count it) ++ calls_in_row it) in
    subst P is (appended before between after (calls_by op (expr_count (exprs operands))) (calls_in_row (exprs operands)) counted second)

pub call_appended : {T E : Type 0} (r : Result T E) (op : Operation) (operands : List Expression) (es : Exprs)
    (before between after : List Call) → exprs operands ≡ es → between ≡ before ++ calls_by op (length operands) →
    OnOk r (after ≡ between ++ calls_in_row (exprs operands)) →
    OnOk r (after ≡ before ++ (calls_by op (expr_count es) ++ calls_in_row es))
call_appended (Ok x) op operands es before between after is first second =
    operation_appended op operands es before between after is first second
call_appended (Err e) op operands es before between after is first second = tt
