-- Lemmas on rows of expressions, guards and clauses: a row tells its items, and none of them is higher than the row.
use Rattle.std.proofs.Common.{◌≡◌, ℕ, ◌+◌, ◌<◌, ◌≤◌, max, List, [], ◌∷◌, ◌++◌, length, get_or, take, zero, suc, sym, ap, ◌∙◌, subst, refl, arith}
use Rattle.std.proofs.lemmas.List.{take_more}
use Rattle.erl_term.specs.Term.{term_of, term_of-tree}
use Rattle.erl_ir.specs.declared.expression.Expression.{Expression}
use Rattle.erl_ir.specs.declared.expression.Expression.TheVariants as variants
use Rattle.erl_ir.specs.declared.expression.Clause.{Clause}
use Rattle.erl_ir.specs.Expression.{Expr, Exprs, Guards, Clauses}
use Rattle.erl_ir.specs.Expression.{literal, variable, apply, match, block, case, short_circuit}
use Rattle.erl_ir.specs.Pattern.{pats_depth}
use Rattle.erl_ir.specs.Expression.{expr_depth, exprs_depth, guards_depth, clauses_depth}
use Rattle.erl_ir.specs.Expression.{none, more, no_guards, guard, no_clauses, clause}
use Rattle.erl_ir.specs.ExpressionForms.{expr, exprs, guards, clauses}
use Rattle.erl_ir.specs.Heights.{expr_height, exprs_height, guards_height, clauses_height}
use Rattle.erl_ir.proofs.PatternRows.{pattern_of, pattern_of-pat}

-- the way back
abbrev pub expression_of : Expr → Expression
expression_of (literal t) = variants.Literal (term_of t)
expression_of (variable index) = variants.Variable index
expression_of (apply op es) = variants.Apply op es
expression_of (match p body) = variants.Match (pattern_of p) body
expression_of (block body) = variants.Block body
expression_of (case subject cs) = variants.Case subject cs
expression_of (short_circuit connective left right) = variants.ShortCircuit connective left right

abbrev pub expressions_of : Exprs → List Expression
expressions_of none = []
expressions_of (more e es) = expression_of e ∷ expressions_of es

abbrev pub guards_of : Guards → List Exprs
guards_of no_guards = []
guards_of (guard tests gs) = tests ∷ guards_of gs

abbrev pub clauses_of : Clauses → List Clause
clauses_of no_clauses = []
clauses_of (clause ps gs es cs) = record { patterns = ps; guard = gs; body = es } ∷ clauses_of cs

expression_of-expr : (e : Expression) → expression_of (expr e) ≡ e
expression_of-expr (variants.Literal t) = ap variants.Literal (term_of-tree t)
expression_of-expr (variants.Variable index) = refl
expression_of-expr (variants.Apply op es) = refl
expression_of-expr (variants.Match p body) = ap (λ q. variants.Match q body) (pattern_of-pat p)
expression_of-expr (variants.Block body) = refl
expression_of-expr (variants.Case subject cs) = refl
expression_of-expr (variants.ShortCircuit connective left right) = refl

expressions_of-exprs : (es : List Expression) → expressions_of (exprs es) ≡ es
expressions_of-exprs [] = refl
expressions_of-exprs (e ∷ es) =
    ap (λ f. f ∷ expressions_of (exprs es)) (expression_of-expr e) ∙ ap (λ fs. e ∷ fs) (expressions_of-exprs es)

guards_of-guards : (gs : List Exprs) → guards_of (guards gs) ≡ gs
guards_of-guards [] = refl
guards_of-guards (tests ∷ gs) = ap (λ hs. tests ∷ hs) (guards_of-guards gs)

clauses_of-clauses : (cs : List Clause) → clauses_of (clauses cs) ≡ cs
clauses_of-clauses [] = refl
clauses_of-clauses (c ∷ cs) = ap (λ ds. c ∷ ds) (clauses_of-clauses cs)

pub exprs-same : (es fs : List Expression) → exprs es ≡ exprs fs → es ≡ fs
exprs-same es fs same = sym (expressions_of-exprs es) ∙ ap expressions_of same ∙ expressions_of-exprs fs

pub guards-same : (gs hs : List Exprs) → guards gs ≡ guards hs → gs ≡ hs
guards-same gs hs same = sym (guards_of-guards gs) ∙ ap guards_of same ∙ guards_of-guards hs

pub clauses-same : (cs ds : List Clause) → clauses cs ≡ clauses ds → cs ≡ ds
clauses-same cs ds same = sym (clauses_of-clauses cs) ∙ ap clauses_of same ∙ clauses_of-clauses ds

-- how high a clause stands over its guard sequence and its body
abbrev pub clause_height : Clause → ℕ
clause_height c = max (1 + guards_height c.guard) (1 + exprs_height c.body)

expression_at : (items : List Expression) (i : ℕ) (e : Expression) → i < length items →
    expr_height (expr (get_or items i e)) ≤ exprs_height (exprs items)
expression_at [] i e within = absurd (omega arith)
expression_at (f ∷ fs) zero e within = omega arith
expression_at (f ∷ fs) (suc i) e within = omega (arith, expression_at fs i e (omega arith))

pub expression_in : (items : List Expression) (i : ℕ) (e : Expression) → i < length items → e ≡ get_or items i e →
    expr_height (expr e) ≤ exprs_height (exprs items)
expression_in items i e within is =
    subst (λ f. expr_height (expr f) ≤ exprs_height (exprs items)) (sym is) (expression_at items i e within)

tests_at : (items : List Exprs) (i : ℕ) (tests : Exprs) → i < length items →
    1 + exprs_height (get_or items i tests) ≤ guards_height (guards items)
tests_at [] i tests within = absurd (omega arith)
tests_at (g ∷ gs) zero tests within = omega arith
tests_at (g ∷ gs) (suc i) tests within = omega (arith, tests_at gs i tests (omega arith))

pub tests_in : (items : List Exprs) (i : ℕ) (tests : Exprs) → i < length items → tests ≡ get_or items i tests →
    1 + exprs_height tests ≤ guards_height (guards items)
tests_in items i tests within is =
    subst (λ g. 1 + exprs_height g ≤ guards_height (guards items)) (sym is) (tests_at items i tests within)

clause_at : (items : List Clause) (i : ℕ) (c : Clause) → i < length items →
    clause_height (get_or items i c) ≤ clauses_height (clauses items)
clause_at [] i c within = absurd (omega arith)
clause_at (d ∷ ds) zero c within = omega arith
clause_at (d ∷ ds) (suc i) c within = omega (arith, clause_at ds i c (omega arith))

pub clause_in : (items : List Clause) (i : ℕ) (c : Clause) → i < length items → c ≡ get_or items i c →
    clause_height c ≤ clauses_height (clauses items)
clause_in items i c within is =
    subst (λ d. clause_height d ≤ clauses_height (clauses items)) (sym is) (clause_at items i c within)

-- one item more
here : {A : Type 0} (items : List A) (i : ℕ) (x : A) → i < length items → x ≡ get_or items i x → take (i + 1) items ≡ take i items ++ x ∷ []
here items i x within is = take_more items i x within ∙ ap (λ y. take i items ++ y ∷ []) (sym is)

exprs_push : (es : List Expression) (e : Expression) → exprs_depth (exprs (es ++ e ∷ [])) ≡ max (exprs_depth (exprs es)) (expr_depth (expr e))
exprs_push [] e = omega arith
exprs_push (f ∷ fs) e = omega (arith, exprs_push fs e)

pub exprs_more : (items : List Expression) (i : ℕ) (e : Expression) → i < length items → e ≡ get_or items i e →
    exprs_depth (exprs (take (i + 1) items)) ≡ max (exprs_depth (exprs (take i items))) (expr_depth (expr e))
exprs_more items i e within is = ap (λ es. exprs_depth (exprs es)) (here items i e within is) ∙ exprs_push (take i items) e

guards_push : (gs : List Exprs) (tests : Exprs) → guards_depth (guards (gs ++ tests ∷ [])) ≡ max (guards_depth (guards gs)) (exprs_depth tests)
guards_push [] tests = omega arith
guards_push (g ∷ gs) tests = omega (arith, guards_push gs tests)

pub guards_more : (items : List Exprs) (i : ℕ) (tests : Exprs) → i < length items → tests ≡ get_or items i tests →
    guards_depth (guards (take (i + 1) items)) ≡ max (guards_depth (guards (take i items))) (exprs_depth tests)
guards_more items i tests within is = ap (λ gs. guards_depth (guards gs)) (here items i tests within is) ∙ guards_push (take i items) tests

-- how deep a clause is nested
abbrev pub clause_depth : Clause → ℕ
clause_depth c = max (max (pats_depth c.patterns) (guards_depth c.guard)) (exprs_depth c.body)

clauses_push : (cs : List Clause) (c : Clause) → clauses_depth (clauses (cs ++ c ∷ [])) ≡ max (clauses_depth (clauses cs)) (clause_depth c)
clauses_push [] c = omega arith
clauses_push (d ∷ ds) c = omega (arith, clauses_push ds c)

pub clauses_more : (items : List Clause) (i : ℕ) (c : Clause) → i < length items → c ≡ get_or items i c →
    clauses_depth (clauses (take (i + 1) items)) ≡ max (clauses_depth (clauses (take i items))) (clause_depth c)
clauses_more items i c within is = ap (λ cs. clauses_depth (clauses cs)) (here items i c within is) ∙ clauses_push (take i items) c
