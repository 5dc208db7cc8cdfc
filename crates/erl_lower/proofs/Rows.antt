-- Lemmas on rows of trees, and on what is made of them item by item.
use Rattle.std.proofs.Common.{◌≡◌, ℕ, ◌+◌, ◌<◌, ◌≤◌, max, List, [], ◌∷◌, ◌++◌, length, get_or, drop, fold, IfOk, MatchOption, Option, None, Some, option_map, Result, zero, suc, sym, ap, ◌∙◌, subst, refl, arith}
use Rattle.std.proofs.lemmas.List.{drop_all, drop_more}
use Rattle.std.specs.declared.alloc.AllocError.{AllocError}
use Rattle.std.specs.List.{IsDistinct}
use Rattle.std.specs.Map.{keys_of}
use Rattle.std.specs.Str.{bytes_eq}
use Rattle.indexmap.specs.IndexSet.{insert_key}
use Rattle.erl_term.specs.declared.term.Term.{Term}
use Rattle.erl_term.specs.Term.{term_of, term_of-tree, tree as term_tree, trees as term_trees}
use Rattle.erl_term.specs.Rows.{append_trees, integers}
use Rattle.erl_term.specs.Tree as term
use Rattle.erl_ast.specs.declared.tree.SyntaxTree.{SyntaxTree}
use Rattle.erl_ast.specs.declared.tree.ClauseTree.{ClauseTree}
use Rattle.erl_ast.specs.declared.form.FormTree.{FormTree}
use Rattle.erl_ast.specs.declared.form.FunctionClause.{FunctionClause}
use Rattle.erl_ast.specs.declared.form.ModuleTree.{ModuleTree}
use Rattle.erl_ast.specs.declared.shape.Infix.{Infix}
use Rattle.erl_ast.specs.declared.shape.Infix.TheVariants as operators
use Rattle.erl_ast.specs.declared.shape.Shape.{Shape}
use Rattle.erl_ast.specs.declared.shape.Shape.TheVariants as shapes
use Rattle.erl_ast.specs.Tree.{Trees, node}
use Rattle.erl_ast.specs.TreeForms.{tree, trees, guards, clauses}
use Rattle.erl_ast.specs.Heights.{tree_height, trees_height, guards_height, clauses_height}
use Rattle.erl_lint.specs.Scopes.{Names, binds, binds_in, binds_in_first, binds_in_match, pattern_names, with_names}
use Rattle.erl_ir.specs.declared.pattern.Pattern.{Pattern}
use Rattle.erl_ir.specs.declared.expression.Expression.{Expression}
use Rattle.erl_ir.specs.declared.expression.Clause.{Clause}
use Rattle.erl_ir.specs.declared.function.Function.{Function}
use Rattle.erl_ir.specs.Module.{Forms, Key, key_eq}
use Rattle.erl_ir.specs.Pattern as pattern
use Rattle.erl_ir.specs.PatternForms.{pat, pats}
use Rattle.erl_ir.specs.Expression as expression
use Rattle.erl_ir.specs.ExpressionForms as forms
use Rattle.erl_lower.specs.Literals.{before_tail, characters, elements_of, term_in, terms_in}
use Rattle.erl_lower.specs.Patterns.{alone as only_pattern, pattern_of, patterns_of}
use Rattle.erl_lower.specs.Expressions.{alone as only_expression, by_making, clauses_of, expression_of, guards_of, making_of, row_of}
use Rattle.erl_lower.specs.Meaning.{exports_of, first_of, function_clauses, functions_in, meaning, version_in, version_of}

-- what is left of a row begins with the item at hand
pub left_more : {A : Type 0} (xs : List A) (i : ℕ) (x : A) → i < length xs → x ≡ get_or xs i x → drop i xs ≡ x ∷ drop (i + 1) xs
left_more xs i x within is = drop_more xs i x within ∙ ap (λ y. y ∷ drop (i + 1) xs) (sym is)

-- One item more: with what was made so far before it, what is left makes what the whole row makes.
pub next : {X Y R S : Type 0} (onto : List Y → R → R) (one : Y → R → R) (F : S → List X → R) →
    ((ys : List Y) (y : Y) (r : R) → onto (ys ++ y ∷ []) r ≡ onto ys (one y r)) →
    (items after : List Y) (row : List X) (i : ℕ) (x : X) (y : Y) (s t : S) (whole : R) →
    i < length row → x ≡ get_or row i x → after ≡ items ++ y ∷ [] →
    ((xs : List X) → F s (x ∷ xs) ≡ one y (F t xs)) →
    onto items (F s (drop i row)) ≡ whole → onto after (F t (drop (i + 1) row)) ≡ whole
next onto one F push items after row i x y s t whole within is grown first so_far =
    ap (λ ys. onto ys (F t (drop (i + 1) row))) grown ∙ push items y (F t (drop (i + 1) row)) ∙
    ap (onto items) (sym (first (drop (i + 1) row)) ∙ ap (F s) (sym (left_more row i x within is))) ∙ so_far

-- Rows of what is made, with others behind them

pub trees_append : (ts us : List Term) → term_trees (ts ++ us) ≡ append_trees (term_trees ts) (term_trees us)
trees_append [] us = refl
trees_append (t ∷ ts) us = ap (term.more (term_tree t)) (trees_append ts us)

pub append_trees-assoc : (ts us vs : term.Trees) → append_trees (append_trees ts us) vs ≡ append_trees ts (append_trees us vs)
append_trees-assoc term.none us vs = refl
append_trees-assoc (term.more t ts) us vs = ap (term.more t) (append_trees-assoc ts us vs)

pub append_trees-none : (ts : term.Trees) → append_trees ts term.none ≡ ts
append_trees-none term.none = refl
append_trees-none (term.more t ts) = ap (term.more t) (append_trees-none ts)

-- elements before a list that stands last
pub tail_last : (front : List Term) (t : Term) → before_tail (term_trees (front ++ t ∷ [])) ≡ append_trees (term_trees front) (elements_of (term_tree t))
tail_last [] t = refl
tail_last (u ∷ []) t = refl
tail_last (u ∷ v ∷ vs) t = ap (term.more (term_tree u)) (tail_last (v ∷ vs) t)

-- one text more of those that are joined
pub next_text : (texts : List (List ℕ)) (i : ℕ) (text : List ℕ) (so_far after whole : term.Trees) → i < length texts → text ≡ get_or texts i text →
    after ≡ append_trees so_far (integers text) → append_trees so_far (characters (drop i texts)) ≡ whole →
    append_trees after (characters (drop (i + 1) texts)) ≡ whole
next_text texts i text so_far after whole within is grown before =
    ap (λ ts. append_trees ts (characters (drop (i + 1) texts))) grown ∙
    append_trees-assoc so_far (integers text) (characters (drop (i + 1) texts)) ∙
    ap (λ ts. append_trees so_far (characters ts)) (sym (left_more texts i text within is)) ∙ before

pub ended_text : (texts : List (List ℕ)) (i : ℕ) (so_far whole : term.Trees) → length texts ≤ i →
    append_trees so_far (characters (drop i texts)) ≡ whole → so_far ≡ whole
ended_text texts i so_far whole past before =
    sym (append_trees-none so_far) ∙ ap (λ ts. append_trees so_far (characters ts)) (sym (drop_all i texts past)) ∙ before

abbrev pub onto_terms : List Term → term.Trees → term.Trees
onto_terms [] r = r
onto_terms (t ∷ ts) r = term.more (term_tree t) (onto_terms ts r)

pub onto_terms-push : (ts : List Term) (t : Term) (r : term.Trees) → onto_terms (ts ++ t ∷ []) r ≡ onto_terms ts (term.more (term_tree t) r)
onto_terms-push [] t r = refl
onto_terms-push (u ∷ us) t r = ap (term.more (term_tree u)) (onto_terms-push us t r)

pub onto_terms-none : (ts : List Term) → onto_terms ts term.none ≡ term_trees ts
onto_terms-none [] = refl
onto_terms-none (t ∷ ts) = ap (term.more (term_tree t)) (onto_terms-none ts)

abbrev pub onto_pats : List Pattern → pattern.Pats → pattern.Pats
onto_pats [] r = r
onto_pats (p ∷ ps) r = pattern.more (pat p) (onto_pats ps r)

pub onto_pats-push : (ps : List Pattern) (p : Pattern) (r : pattern.Pats) → onto_pats (ps ++ p ∷ []) r ≡ onto_pats ps (pattern.more (pat p) r)
onto_pats-push [] p r = refl
onto_pats-push (q ∷ qs) p r = ap (pattern.more (pat q)) (onto_pats-push qs p r)

pub onto_pats-none : (ps : List Pattern) → onto_pats ps pattern.none ≡ pats ps
onto_pats-none [] = refl
onto_pats-none (p ∷ ps) = ap (pattern.more (pat p)) (onto_pats-none ps)

abbrev pub onto_exprs : List Expression → expression.Exprs → expression.Exprs
onto_exprs [] r = r
onto_exprs (e ∷ es) r = expression.more (forms.expr e) (onto_exprs es r)

pub onto_exprs-push : (es : List Expression) (e : Expression) (r : expression.Exprs) → onto_exprs (es ++ e ∷ []) r ≡ onto_exprs es (expression.more (forms.expr e) r)
onto_exprs-push [] e r = refl
onto_exprs-push (f ∷ fs) e r = ap (expression.more (forms.expr f)) (onto_exprs-push fs e r)

pub onto_exprs-none : (es : List Expression) → onto_exprs es expression.none ≡ forms.exprs es
onto_exprs-none [] = refl
onto_exprs-none (e ∷ es) = ap (expression.more (forms.expr e)) (onto_exprs-none es)

abbrev pub onto_guards : List expression.Exprs → expression.Guards → expression.Guards
onto_guards [] r = r
onto_guards (g ∷ gs) r = expression.guard g (onto_guards gs r)

pub onto_guards-push : (gs : List expression.Exprs) (g : expression.Exprs) (r : expression.Guards) → onto_guards (gs ++ g ∷ []) r ≡ onto_guards gs (expression.guard g r)
onto_guards-push [] g r = refl
onto_guards-push (h ∷ hs) g r = ap (expression.guard h) (onto_guards-push hs g r)

pub onto_guards-none : (gs : List expression.Exprs) → onto_guards gs expression.no_guards ≡ forms.guards gs
onto_guards-none [] = refl
onto_guards-none (g ∷ gs) = ap (expression.guard g) (onto_guards-none gs)

-- a clause before others
abbrev pub before : Clause → expression.Clauses → expression.Clauses
before c r = expression.clause c.patterns c.guard c.body r

abbrev pub onto_clauses : List Clause → expression.Clauses → expression.Clauses
onto_clauses [] r = r
onto_clauses (c ∷ cs) r = before c (onto_clauses cs r)

pub onto_clauses-push : (cs : List Clause) (c : Clause) (r : expression.Clauses) → onto_clauses (cs ++ c ∷ []) r ≡ onto_clauses cs (before c r)
onto_clauses-push [] c r = refl
onto_clauses-push (d ∷ ds) c r = ap (before d) (onto_clauses-push ds c r)

pub onto_clauses-none : (cs : List Clause) → onto_clauses cs expression.no_clauses ≡ forms.clauses cs
onto_clauses-none [] = refl
onto_clauses-none (c ∷ cs) = ap (before c) (onto_clauses-none cs)

-- the first of clauses before others
abbrev pub with_rest : expression.Clauses → expression.Clauses → expression.Clauses
with_rest r expression.no_clauses = expression.no_clauses
with_rest r (expression.clause ps gs body cs) = expression.clause ps gs body r

-- What is bound

pub names_append : (s : Names) (ns ms : Names) → with_names (with_names s ns) ms ≡ with_names s (ns ++ ms)
names_append s [] ms = refl
names_append s (n ∷ ns) ms = names_append (insert_key bytes_eq s n) ns ms

pub append-none : {A : Type 0} (xs : List A) → xs ++ [] ≡ xs
append-none [] = refl
append-none (x ∷ xs) = ap (λ ws. x ∷ ws) (append-none xs)

-- one item more binds, and what is left binds what the whole row binds
pub next_bound : {X : Type 0} (names_in : List X → Names) (names : X → Names) →
    ((x : X) (xs : List X) → names_in (x ∷ xs) ≡ names x ++ names_in xs) →
    (row : List X) (i : ℕ) (x : X) (s t whole : Names) → i < length row → x ≡ get_or row i x →
    t ≡ with_names s (names x) → with_names s (names_in (drop i row)) ≡ whole →
    with_names t (names_in (drop (i + 1) row)) ≡ whole
next_bound names_in names split row i x s t whole within is bound so_far =
    ap (λ u. with_names u (names_in (drop (i + 1) row))) bound ∙ names_append s (names x) (names_in (drop (i + 1) row)) ∙
    ap (with_names s) (sym (split x (drop (i + 1) row)) ∙ ap names_in (sym (left_more row i x within is))) ∙ so_far

-- One item more of each kind of row

pub next_term : (own : List ℕ) (items after : List Term) (row : List SyntaxTree) (i : ℕ) (x : SyntaxTree) (y : Term) (whole : term.Trees) →
    i < length row → x ≡ get_or row i x → after ≡ items ++ y ∷ [] → term_tree y ≡ term_in own (tree x) →
    onto_terms items (terms_in own (trees (drop i row))) ≡ whole → onto_terms after (terms_in own (trees (drop (i + 1) row))) ≡ whole
next_term own items after row i x y whole within is grown found so_far =
    next {S = ℕ} onto_terms (λ t r. term.more (term_tree t) r) (λ s xs. terms_in own (trees xs)) onto_terms-push items after row i x y 0 0 whole within is grown
    (λ xs. ap (λ t. term.more t (terms_in own (trees xs))) (sym found)) so_far

pub next_pattern : (own : List ℕ) (items after : List Pattern) (row : List SyntaxTree) (i : ℕ) (x : SyntaxTree) (y : Pattern) (s t : Names) (whole : pattern.Pats) →
    i < length row → x ≡ get_or row i x → after ≡ items ++ y ∷ [] → pat y ≡ pattern_of own s (tree x) → t ≡ with_names s (pattern_names (tree x)) →
    onto_pats items (patterns_of own s (trees (drop i row))) ≡ whole → onto_pats after (patterns_of own t (trees (drop (i + 1) row))) ≡ whole
next_pattern own items after row i x y s t whole within is grown found bound so_far =
    next onto_pats (λ p r. pattern.more (pat p) r) (λ s xs. patterns_of own s (trees xs)) onto_pats-push items after row i x y s t whole within is grown
    (λ xs. ap (λ p. pattern.more p (patterns_of own (with_names s (pattern_names (tree x))) (trees xs))) (sym found) ∙
    ap (λ u. pattern.more (pat y) (patterns_of own u (trees xs))) (sym bound)) so_far

pub next_expression : (own : List ℕ) (items after : List Expression) (row : List SyntaxTree) (i : ℕ) (x : SyntaxTree) (y : Expression) (s t : Names) (whole : expression.Exprs) →
    i < length row → x ≡ get_or row i x → after ≡ items ++ y ∷ [] → forms.expr y ≡ expression_of own s (tree x) → t ≡ with_names s (binds (tree x)) →
    onto_exprs items (row_of own s (trees (drop i row))) ≡ whole → onto_exprs after (row_of own t (trees (drop (i + 1) row))) ≡ whole
next_expression own items after row i x y s t whole within is grown found bound so_far =
    next onto_exprs (λ e r. expression.more (forms.expr e) r) (λ s xs. row_of own s (trees xs)) onto_exprs-push items after row i x y s t whole within is grown
    (λ xs. ap (λ e. expression.more e (row_of own (with_names s (binds (tree x))) (trees xs))) (sym found) ∙
    ap (λ u. expression.more (forms.expr y) (row_of own u (trees xs))) (sym bound)) so_far

pub next_guard : (own : List ℕ) (items after : List expression.Exprs) (row : List Trees) (i : ℕ) (x : Trees) (y : expression.Exprs) (s t : Names) (whole : expression.Guards) →
    i < length row → x ≡ get_or row i x → after ≡ items ++ y ∷ [] → y ≡ row_of own s x → t ≡ s →
    onto_guards items (guards_of own s (guards (drop i row))) ≡ whole → onto_guards after (guards_of own t (guards (drop (i + 1) row))) ≡ whole
next_guard own items after row i x y s t whole within is grown found kept so_far =
    next onto_guards (λ g r. expression.guard g r) (λ s xs. guards_of own s (guards xs)) onto_guards-push items after row i x y s t whole within is grown
    (λ xs. ap (λ g. expression.guard g (guards_of own s (guards xs))) (sym found) ∙
    ap (λ u. expression.guard y (guards_of own u (guards xs))) (sym kept)) so_far

pub next_clause : (own : List ℕ) (items after : List Clause) (row : List ClauseTree) (i : ℕ) (x : ClauseTree) (y : Clause) (s t : Names) (whole : expression.Clauses) →
    i < length row → x ≡ get_or row i x → after ≡ items ++ y ∷ [] → forms.clauses (y ∷ []) ≡ clauses_of own s (clauses (x ∷ [])) → t ≡ s →
    onto_clauses items (clauses_of own s (clauses (drop i row))) ≡ whole → onto_clauses after (clauses_of own t (clauses (drop (i + 1) row))) ≡ whole
next_clause own items after row i x y s t whole within is grown found kept so_far =
    next onto_clauses before (λ s xs. clauses_of own s (clauses xs)) onto_clauses-push items after row i x y s t whole within is grown
    (λ xs. ap (with_rest (clauses_of own s (clauses xs))) (sym found) ∙ ap (λ u. before y (clauses_of own u (clauses xs))) (sym kept)) so_far

-- Heights

tree_at : (items : List SyntaxTree) (i : ℕ) (t : SyntaxTree) → i < length items →
    tree_height (tree (get_or items i t)) ≤ trees_height (trees items)
tree_at [] i t within = absurd (omega arith)
tree_at (u ∷ us) zero t within = omega arith
tree_at (u ∷ us) (suc i) t within = omega (arith, tree_at us i t (omega arith))

pub tree_in : (items : List SyntaxTree) (i : ℕ) (t : SyntaxTree) → i < length items → t ≡ get_or items i t →
    tree_height (tree t) ≤ trees_height (trees items)
tree_in items i t within is = subst (λ u. tree_height (tree u) ≤ trees_height (trees items)) (sym is) (tree_at items i t within)

tests_at : (items : List Trees) (i : ℕ) (tests : Trees) → i < length items →
    1 + trees_height (get_or items i tests) ≤ guards_height (guards items)
tests_at [] i tests within = absurd (omega arith)
tests_at (g ∷ gs) zero tests within = omega arith
tests_at (g ∷ gs) (suc i) tests within = omega (arith, tests_at gs i tests (omega arith))

pub tests_in : (items : List Trees) (i : ℕ) (tests : Trees) → i < length items → tests ≡ get_or items i tests →
    1 + trees_height tests ≤ guards_height (guards items)
tests_in items i tests within is =
    subst (λ g. 1 + trees_height g ≤ guards_height (guards items)) (sym is) (tests_at items i tests within)

-- how high a clause stands over its patterns, its guard sequence and its body
abbrev pub clause_height : ClauseTree → ℕ
clause_height c = max (max (1 + trees_height c.patterns) (1 + guards_height c.guard)) (1 + trees_height c.body)

clause_at : (items : List ClauseTree) (i : ℕ) (c : ClauseTree) → i < length items →
    clause_height (get_or items i c) ≤ clauses_height (clauses items)
clause_at [] i c within = absurd (omega arith)
clause_at (d ∷ ds) zero c within = omega arith
clause_at (d ∷ ds) (suc i) c within = omega (arith, clause_at ds i c (omega arith))

pub clause_in : (items : List ClauseTree) (i : ℕ) (c : ClauseTree) → i < length items → c ≡ get_or items i c →
    clause_height c ≤ clauses_height (clauses items)
clause_in items i c within is =
    subst (λ d. clause_height d ≤ clauses_height (clauses items)) (sym is) (clause_at items i c within)

pub ended : {X Y R S : Type 0} (onto : List Y → R → R) (F : S → List X → R) (finish : List Y → R) (s : S) →
    ((ys : List Y) → onto ys (F s []) ≡ finish ys) → (items : List Y) (row : List X) (i : ℕ) (whole : R) →
    length row ≤ i → onto items (F s (drop i row)) ≡ whole → finish items ≡ whole
ended onto F finish s closed items row i whole past so_far =
    sym (closed items) ∙ ap (λ xs. onto items (F s xs)) (sym (drop_all i row past)) ∙ so_far

pub ended_bound : {X : Type 0} (names_in : List X → Names) → names_in [] ≡ [] → (row : List X) (i : ℕ) (s whole : Names) →
    length row ≤ i → with_names s (names_in (drop i row)) ≡ whole → s ≡ whole
ended_bound names_in empty row i s whole past so_far =
    ap (with_names s) (sym empty ∙ ap names_in (sym (drop_all i row past))) ∙ so_far

-- Parentheses

pub alone_pattern : (front : List Pattern) (p : Pattern) → length (front ++ p ∷ []) ≡ 1 → only_pattern (pats (front ++ p ∷ [])) ≡ pat p
alone_pattern [] p one = refl
alone_pattern (q ∷ []) p one = absurd (omega (arith, one))
alone_pattern (q ∷ r ∷ rs) p one = absurd (omega (arith, one))

pub several_patterns : (row : List Pattern) → (length row ≡ 1 → ⊥) → only_pattern (pats row) ≡ pattern.alias (pats row)
several_patterns [] other = refl
several_patterns (p ∷ []) other = absurd (other refl)
several_patterns (p ∷ q ∷ qs) other = refl

pub alone_expression : (front : List Expression) (e : Expression) → length (front ++ e ∷ []) ≡ 1 →
    only_expression (forms.exprs (front ++ e ∷ [])) ≡ forms.expr e
alone_expression [] e one = refl
alone_expression (f ∷ []) e one = absurd (omega (arith, one))
alone_expression (f ∷ g ∷ gs) e one = absurd (omega (arith, one))

pub several_expressions : (row : List Expression) → (length row ≡ 1 → ⊥) → only_expression (forms.exprs row) ≡ expression.block (forms.exprs row)
several_expressions [] other = refl
several_expressions (e ∷ []) other = absurd (other refl)
several_expressions (e ∷ f ∷ fs) other = refl

infix_binds : (op : Infix) (ts : Trees) →
    binds (node (shapes.Infix op) ts) ≡ by_making (making_of (shapes.Infix op)) (binds_in_match ts) (λ c. binds_in_first ts) (binds_in ts)
infix_binds operators.Multiply ts = refl
infix_binds operators.Divide ts = refl
infix_binds operators.Remainder ts = refl
infix_binds operators.And ts = refl
infix_binds operators.Add ts = refl
infix_binds operators.Subtract ts = refl
infix_binds operators.Or ts = refl
infix_binds operators.Append ts = refl
infix_binds operators.Equal ts = refl
infix_binds operators.NotEqual ts = refl
infix_binds operators.ExactlyEqual ts = refl
infix_binds operators.ExactlyNotEqual ts = refl
infix_binds operators.Less ts = refl
infix_binds operators.Greater ts = refl
infix_binds operators.AtMost ts = refl
infix_binds operators.AtLeast ts = refl
infix_binds operators.AndAlso ts = refl
infix_binds operators.OrElse ts = refl
infix_binds operators.Send ts = refl
infix_binds operators.Match ts = refl

-- What a shape binds is what its making binds.
pub bound_by : (shape : Shape) (ts : Trees) →
    binds (node shape ts) ≡ by_making (making_of shape) (binds_in_match ts) (λ c. binds_in_first ts) (binds_in ts)
bound_by shapes.Tuple ts = refl
bound_by shapes.List ts = refl
bound_by shapes.Cons ts = refl
bound_by shapes.Parenthesized ts = refl
bound_by shapes.Block ts = refl
bound_by (shapes.Local f) ts = refl
bound_by (shapes.Remote m f) ts = refl
bound_by (shapes.Prefix op) ts = refl
bound_by (shapes.Infix op) ts = infix_binds op ts

-- the first of parts binds what is bound behind a connective
pub first_binds : (parts : List SyntaxTree) (x : SyntaxTree) → 1 ≤ length parts → x ≡ get_or parts 0 x →
    binds (tree x) ≡ binds_in_first (trees parts)
first_binds [] x some is = absurd (omega (arith, some))
first_binds (y ∷ ys) x some is = ap (λ z. binds (tree z)) is

-- Forms

pub fold_append : {A B : Type 0} (f : B → A → B) (b : B) (xs ys : List A) → fold f (fold f b xs) ys ≡ fold f b (xs ++ ys)
fold_append f b [] ys = refl
fold_append f b (x ∷ xs) ys = fold_append f (f b x) xs ys

-- one item more is taken in, and what is left takes all to where the whole row takes it
pub next_taken : {A B X : Type 0} (f : B → A → B) (g : List X → List A) (h : X → List A) →
    ((x : X) (xs : List X) → g (x ∷ xs) ≡ h x ++ g xs) →
    (row : List X) (i : ℕ) (x : X) (before after whole : B) → i < length row → x ≡ get_or row i x → after ≡ fold f before (h x) →
    fold f before (g (drop i row)) ≡ whole → fold f after (g (drop (i + 1) row)) ≡ whole
next_taken f g h split row i x before after whole within is taken so_far =
    ap (λ b. fold f b (g (drop (i + 1) row))) taken ∙ fold_append f before (h x) (g (drop (i + 1) row)) ∙
    ap (fold f before) (sym (split x (drop (i + 1) row)) ∙ ap g (sym (left_more row i x within is))) ∙ so_far

pub ended_taken : {A B X : Type 0} (f : B → A → B) (g : List X → List A) → g [] ≡ [] → (row : List X) (i : ℕ) (now whole : B) →
    length row ≤ i → fold f now (g (drop i row)) ≡ whole → now ≡ whole
ended_taken f g empty row i now whole past so_far = ap (fold f now) (sym empty ∙ ap g (sym (drop_all i row past))) ∙ so_far

pub append-assoc : {A : Type 0} (xs ys zs : List A) → xs ++ ys ++ zs ≡ xs ++ (ys ++ zs)
append-assoc [] ys zs = refl
append-assoc (x ∷ xs) ys zs = ap (λ ws. x ∷ ws) (append-assoc xs ys zs)

-- one item more is listed
pub next_listed : {A X : Type 0} (g : List X → List A) (h : X → List A) → ((x : X) (xs : List X) → g (x ∷ xs) ≡ h x ++ g xs) →
    (row : List X) (i : ℕ) (x : X) (before after whole : List A) → i < length row → x ≡ get_or row i x → after ≡ before ++ h x →
    before ++ g (drop i row) ≡ whole → after ++ g (drop (i + 1) row) ≡ whole
next_listed g h split row i x before after whole within is listed so_far =
    ap (λ b. b ++ g (drop (i + 1) row)) listed ∙ append-assoc before (h x) (g (drop (i + 1) row)) ∙
    ap (λ r. before ++ r) (sym (split x (drop (i + 1) row)) ∙ ap g (sym (left_more row i x within is))) ∙ so_far

pub ended_listed : {A X : Type 0} (g : List X → List A) → g [] ≡ [] → (row : List X) (i : ℕ) (now whole : List A) →
    length row ≤ i → now ++ g (drop i row) ≡ whole → now ≡ whole
ended_listed g empty row i now whole past so_far =
    sym (append-none now) ∙ ap (λ r. now ++ r) (sym empty ∙ ap g (sym (drop_all i row past))) ∙ so_far

-- one clause more of a function
pub next_function_clause : (own : List ℕ) (items after : List Clause) (row : List FunctionClause) (i : ℕ) (x : FunctionClause) (y : Clause) (s : Names) (whole : expression.Clauses) →
    i < length row → x ≡ get_or row i x → after ≡ items ++ y ∷ [] → s ≡ [] →
    forms.clauses (y ∷ []) ≡ clauses_of own s (clauses (x.clause ∷ [])) →
    onto_clauses items (function_clauses own (drop i row)) ≡ whole → onto_clauses after (function_clauses own (drop (i + 1) row)) ≡ whole
next_function_clause own items after row i x y s whole within is grown empty found so_far =
    next {S = ℕ} onto_clauses before (λ s xs. function_clauses own xs) onto_clauses-push items after row i x y 0 0 whole within is grown
    (λ xs. ap (with_rest (function_clauses own xs)) (sym (found ∙ ap (λ u. clauses_of own u (clauses (x.clause ∷ []))) empty))) so_far

-- the first version

pub next_version : (own : List ℕ) (row : List FormTree) (i : ℕ) (x : FormTree) (whole : Option term.Tree) → i < length row → x ≡ get_or row i x →
    None ≡ version_of own x → version_in own (drop i row) ≡ whole → version_in own (drop (i + 1) row) ≡ whole
next_version own row i x whole within is absent so_far =
    ap (λ v. first_of v (version_in own (drop (i + 1) row))) absent ∙ ap (version_in own) (sym (left_more row i x within is)) ∙ so_far

pub found_version : (own : List ℕ) (row : List FormTree) (i : ℕ) (x : FormTree) (t : term.Tree) (whole : Option term.Tree) → i < length row → x ≡ get_or row i x →
    Some t ≡ version_of own x → version_in own (drop i row) ≡ whole → Some t ≡ whole
found_version own row i x t whole within is found so_far =
    ap (λ v. first_of v (version_in own (drop (i + 1) row))) found ∙ ap (version_in own) (sym (left_more row i x within is)) ∙ so_far

-- A module

-- what `Module::new` gives of what a module consists of
abbrev pub IsMade : Forms → Option Forms → Type 0
IsMade f it = MatchOption it (IsDistinct key_eq (keys_of f.functions) → ⊥) (λ m. IsDistinct key_eq (keys_of f.functions) × (m ≡ f))

back : (v : Option Term) → v ≡ option_map term_of (option_map term_tree v)
back None = refl
back (Some t) = ap Some (sym (term_of-tree t))

-- What is made of a name, a version and functions, where they are those of the tree
pub made : (m : ModuleTree) (r : Result (Option Forms) AllocError) (name : List ℕ) (vsn : Option Term) (fs : List (Key × Function)) →
    name ≡ m.name.name → option_map term_tree vsn ≡ version_in m.name.name m.forms →
    fs ≡ functions_in m.name.name (exports_of m.forms) m.forms → IfOk r (IsMade (record { name = name; vsn = vsn; functions = fs })) →
    IfOk r (IsMade (meaning m))
made m r name vsn fs named versioned listed is =
    subst (λ f. IfOk r (IsMade f))
    (λ i. record { name = named i; vsn = (back vsn ∙ ap (option_map term_of) versioned) i; functions = listed i }) is
