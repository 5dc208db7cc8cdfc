-- A module without a static fault is well scoped.
--
-- The lowering numbers variables by all that are bound, also by those that other operands bind; lint reads only variables that
-- it sees there. So each lemma on expressions has two lists of names: those that are seen, and those that are bound, of which
-- the seen ones are some (`Sees`). The indices are those of the second list, and its length is how many variables are bound.
use Rattle.std.proofs.Common.{◌≡◌, ℕ, ◌+◌, ◌<◌, suc, Bool, true, false, ◌||◌, not, cond, if◌then◌else◌, ◌⊎◌, inl, inr, codes}
use Rattle.std.proofs.Common.{List, [], ◌∷◌, ◌++◌, length, All, sym, ap, ◌∙◌, subst, refl, arith}
use Rattle.std.specs.Option.{option_to_list}
use Rattle.std.proofs.lemmas.List.{length-append}
use Rattle.std.proofs.lemmas.List.Elements.{All-nil, All-cons, All-append}
use Rattle.std.proofs.lemmas.List.Folds.{list_any-append}
use Rattle.std.proofs.lemmas.Slice.Eq.{bytes_eq-Decides}
use Rattle.std.specs.Str.{bytes_eq}
use Rattle.erl_ast.specs.declared.leaf.Leaf.TheVariants as leaves
use Rattle.erl_ast.specs.declared.leaf.Leaf.{Leaf}
use Rattle.erl_ast.specs.declared.shape.Infix.{Infix}
use Rattle.erl_ast.specs.declared.shape.Infix.TheVariants as operators
use Rattle.erl_ast.specs.declared.shape.Shape.{Shape}
use Rattle.erl_ast.specs.declared.shape.Shape.TheVariants as shapes
use Rattle.erl_ast.specs.declared.form.FunctionClause.{FunctionClause}
use Rattle.erl_ast.specs.declared.form.LoopTree.{LoopTree}
use Rattle.erl_ast.specs.declared.form.FormTree.{FormTree}
use Rattle.erl_ast.specs.declared.form.FormTree.TheVariants as forms
use Rattle.erl_ast.specs.declared.form.ModuleTree.{ModuleTree}
use Rattle.erl_ast.specs.Terminal.{Terminal}
use Rattle.erl_ast.specs.Grammar.{AreWellClauses}
use Rattle.erl_ast.specs.Forms.{AreClauses, BeginsForm, AreForms, IsModule, function_form, loop_form}
use Rattle.erl_ast.specs.Tree as tree
use Rattle.erl_ast.specs.Tree.{Tree, Trees, tree_count}
use Rattle.erl_lint.specs.declared.fault.StaticFault.TheVariants.{UnboundVariable}
use Rattle.erl_lint.specs.Keys.{duplicates}
use Rattle.erl_lint.specs.Keys as keys
use Rattle.erl_lint.specs.Scopes.{Names, is_bound, index_of, with_name, with_names}
use Rattle.erl_lint.specs.Scopes.{leaf_names, pattern_names, pattern_names_in}
use Rattle.erl_lint.specs.Scopes.{binds, binds_in, binds_in_match, binds_in_first}
use Rattle.erl_lint.specs.Faults.{call_faults, leaf_faults, faults_in, faults_apart, faults_in_turn, faults_behind}
use Rattle.erl_lint.specs.Faults.{faults_in_guards, faults_in_clauses, faults_in_function, faults_in_form, faults_in_forms}
use Rattle.erl_lint.specs.Faults.{faults_in_loop, faults_of, functions_of}
use Rattle.erl_ir.specs.declared.operation.Connective.{Connective}
use Rattle.erl_ir.specs.declared.operation.Connective.TheVariants as connective
use Rattle.erl_ir.specs.declared.function.Function.{Function}
use Rattle.erl_ir.specs.Pattern as pattern
use Rattle.erl_ir.specs.Pattern.{Pat, Pats, pat_count}
use Rattle.erl_ir.specs.Expression as form
use Rattle.erl_ir.specs.Expression.{Expr, Exprs}
use Rattle.erl_ir.specs.Module.{Key}
use Rattle.erl_lower.specs.Patterns.{leaf_pattern, made_pattern, pattern_variable, pattern_of, patterns_of}
use Rattle.erl_lower.specs.Patterns as patterns
use Rattle.erl_lower.specs.Expressions.{by_making, making_of, made, operated, leaf_expression, expression_of, row_of, match_of}
use Rattle.erl_lower.specs.Expressions.{connected_of, guards_of, clauses_of}
use Rattle.erl_lower.specs.Expressions as expressions
use Rattle.erl_lower.specs.Meaning.{exports_of, function_clauses, function_of, functions_in, key_of, loop_of, meaning}
use Rattle.erl_lower.specs.WellScoped.{PatternBinds, PatternsBind, ExprBinds, ExprsBind, GuardsSee, ClausesSee, IsScoped}
use Rattle.erl_lower.specs.WellScoped.{constant, compared, fresh, anything, tuple, list, cons, alias, no_pattern, next_pattern}
use Rattle.erl_lower.specs.WellScoped.{literal, variable, apply, match, block, case, short_circuit, no_expression}
use Rattle.erl_lower.specs.WellScoped.{next_expression, no_guard, next_guard, no_clause, next_clause}
use Rattle.erl_lower.specs.WellScoped.{IsWellScoped, HavePatterns, HasArity, HasArities}
use Rattle.erl_lower.proofs.Rows.{names_append}

-- two lists that make the empty one are empty

left_empty : {A : Type 0} (xs ys : List A) → xs ++ ys ≡ [] → xs ≡ []
left_empty [] ys e = refl
left_empty (x ∷ xs) ys e = cc

right_empty : {A : Type 0} (xs ys : List A) → xs ++ ys ≡ [] → ys ≡ []
right_empty [] ys e = e
right_empty (x ∷ xs) ys e = cc

-- Indices. A variable that is bound has an index below the number of those that are; one that is not has this number.

below_head : (is_head : Bool) (at n : ℕ) (is_behind : Bool) → (is_behind ≡ true → at < n) → (is_head || is_behind) ≡ true →
    cond (not is_head) (1 + at) 0 < suc n
below_head true at n is_behind below e = omega arith
below_head false at n is_behind below e = let within : at < n = below e in omega arith

index_below : (bound : Names) (name : List ℕ) → is_bound bound name ≡ true → index_of bound name < length bound
index_below [] name e = cc
index_below (b ∷ bound) name e =
    below_head (bytes_eq name b) (index_of bound name) (length bound) (is_bound bound name) (index_below bound name) e

behind_head : (is_head : Bool) (at n : ℕ) (is_behind : Bool) → (is_behind ≡ false → at ≡ n) → (is_head || is_behind) ≡ false →
    cond (not is_head) (1 + at) 0 ≡ suc n
behind_head true at n is_behind behind e = cc
behind_head false at n is_behind behind e = let same : at ≡ n = behind e in omega arith

index_behind : (bound : Names) (name : List ℕ) → is_bound bound name ≡ false → index_of bound name ≡ length bound
index_behind [] name e = refl
index_behind (b ∷ bound) name e =
    behind_head (bytes_eq name b) (index_of bound name) (length bound) (is_bound bound name) (index_behind bound name) e

-- What is bound stays bound, and a name that is added is bound.

kept_if : (known : Bool) (bound : Names) (name x : List ℕ) → is_bound bound x ≡ true →
    is_bound (if known then bound else bound ++ name ∷ []) x ≡ true
kept_if true bound name x e = e
kept_if false bound name x e =
    list_any-append (bytes_eq x) bound (name ∷ []) ∙ ap (λ b. b || is_bound (name ∷ []) x) e

kept : (bound : Names) (name x : List ℕ) → is_bound bound x ≡ true → is_bound (with_name bound name) x ≡ true
kept bound name x e = kept_if (is_bound bound name) bound name x e

added_if : (known : Bool) (bound : Names) (name : List ℕ) → is_bound bound name ≡ known →
    is_bound (if known then bound else bound ++ name ∷ []) name ≡ true
added_if true bound name e = e
added_if false bound name e =
    list_any-append (bytes_eq name) bound (name ∷ []) ∙ ap (λ b. b || is_bound (name ∷ []) name) e ∙
    ap (λ b. b || false) ((bytes_eq-Decides name name).1 refl)

added : (bound : Names) (name : List ℕ) → is_bound (with_name bound name) name ≡ true
added bound name = added_if (is_bound bound name) bound name refl

-- what is bound with one name more was bound, or is that name

one_of : (was same : Bool) → (was || (same || false)) ≡ true → (was ≡ true) ⊎ (same ≡ true)
one_of true same e = inl refl
one_of false true e = inr refl
one_of false false e = cc

bound_or_added_if : (known : Bool) (bound : Names) (name x : List ℕ) →
    is_bound (if known then bound else bound ++ name ∷ []) x ≡ true → (is_bound bound x ≡ true) ⊎ (bytes_eq x name ≡ true)
bound_or_added_if true bound name x e = inl e
bound_or_added_if false bound name x e =
    one_of (is_bound bound x) (bytes_eq x name) (sym (list_any-append (bytes_eq x) bound (name ∷ [])) ∙ e)

-- each name that is bound here is bound there

abbrev Sees : Names → Names → Type 0
Sees seen bound = (x : List ℕ) → is_bound seen x ≡ true → is_bound bound x ≡ true

sees_or : (seen bound : Names) (name x : List ℕ) → Sees seen bound → (is_bound seen x ≡ true) ⊎ (bytes_eq x name ≡ true) →
    is_bound (with_name bound name) x ≡ true
sees_or seen bound name x sees (inl was) = kept bound name x (sees x was)
sees_or seen bound name x sees (inr same) =
    subst (λ y. is_bound (with_name bound name) y ≡ true) (sym ((bytes_eq-Decides x name).0 same)) (added bound name)

sees_more : (names seen bound : Names) → Sees seen bound → Sees (with_names seen names) (with_names bound names)
sees_more [] seen bound sees = sees
sees_more (n ∷ ns) seen bound sees =
    sees_more ns (with_name seen n) (with_name bound n)
    (λ x e. sees_or seen bound n x sees (bound_or_added_if (is_bound seen n) seen n x e))

sees_behind : (names seen bound : Names) → Sees seen bound → Sees seen (with_names bound names)
sees_behind [] seen bound sees = sees
sees_behind (n ∷ ns) seen bound sees = sees_behind ns seen (with_name bound n) (λ x e. kept bound n x (sees x e))

-- Patterns

variable_if : (known : Bool) (bound : Names) (name : List ℕ) → is_bound bound name ≡ known →
    PatternBinds (length bound) (pattern.variable (index_of bound name))
    (length (if known then bound else bound ++ name ∷ []))
variable_if true bound name e = compared (index_below bound name e)
variable_if false bound name e =
    subst (λ index. PatternBinds (length bound) (pattern.variable index) (length (bound ++ name ∷ [])))
    (sym (index_behind bound name e))
    (subst (λ m. PatternBinds (length bound) (pattern.variable (length bound)) m) (sym (length-append bound (name ∷ []))) fresh)

named_if : (is_anonymous : Bool) (bound : Names) (name : List ℕ) →
    PatternBinds (length bound) (if is_anonymous then pattern.anything else pattern.variable (index_of bound name))
    (length (with_names bound (if is_anonymous then [] else name ∷ [])))
named_if true bound name = anything
named_if false bound name = variable_if (is_bound bound name) bound name refl

leaf_binds : (own : List ℕ) (bound : Names) (l : Leaf) →
    PatternBinds (length bound) (leaf_pattern own bound l) (length (with_names bound (leaf_names l)))
leaf_binds own bound (leaves.Variable name at) = named_if (bytes_eq name (codes "_")) bound name
leaf_binds own bound l = constant

only_binds : {n m : ℕ} (ps : Pats) → PatternsBind n ps m → PatternBinds n (patterns.alone ps) m
only_binds pattern.none d = alias d
only_binds (pattern.more p pattern.none) (next_pattern d no_pattern) = d
only_binds (pattern.more p (pattern.more q ps)) d = alias d

made_binds : {n m : ℕ} (shape : Shape) (ps : Pats) → PatternsBind n ps m → PatternBinds n (made_pattern shape ps) m
made_binds shapes.Tuple ps d = tuple d
made_binds shapes.List ps d = list d
made_binds shapes.Cons ps d = cons d
made_binds shapes.Parenthesized ps d = only_binds ps d
made_binds shape ps d = alias d

mutual
  pattern_binds : (own : List ℕ) (bound : Names) (t : Tree) →
      PatternBinds (length bound) (pattern_of own bound t) (length (with_names bound (pattern_names t)))
  pattern_binds own bound (tree.leaf l) = leaf_binds own bound l
  pattern_binds own bound (tree.node shape ts) = made_binds shape (patterns_of own bound ts) (patterns_bind own bound ts)
  pattern_binds own bound (tree.case subject cs) = anything

  patterns_bind : (own : List ℕ) (bound : Names) (ts : Trees) →
      PatternsBind (length bound) (patterns_of own bound ts) (length (with_names bound (pattern_names_in ts)))
  patterns_bind own bound tree.none = no_pattern
  patterns_bind own bound (tree.more t ts) =
      let behind = with_names bound (pattern_names t) in
      next_pattern (pattern_binds own bound t)
      (subst (λ names. PatternsBind (length behind) (patterns_of own behind ts) (length names))
      (names_append bound (pattern_names t) (pattern_names_in ts)) (patterns_bind own behind ts))

-- Expressions: what is read is seen, and what is seen is bound.

no_fault : (known : Bool) (at : ℕ) → (if known then [] else UnboundVariable at ∷ []) ≡ [] → known ≡ true
no_fault true at e = refl
no_fault false at e = cc

leaf_reads : (own : List ℕ) (seen bound : Names) (l : Leaf) → Sees seen bound → leaf_faults seen l ≡ [] →
    ExprBinds (length bound) (leaf_expression own bound l) (length bound)
leaf_reads own seen bound (leaves.Variable name at) sees e =
    variable (index_below bound name (sees name (no_fault (is_bound seen name) at e)))
leaf_reads own seen bound l sees e = literal

only_reads : {n m : ℕ} (es : Exprs) → ExprsBind n es m → ExprBinds n (expressions.alone es) m
only_reads form.none d = block d
only_reads (form.more e form.none) (next_expression d no_expression) = d
only_reads (form.more e (form.more f es)) d = block d

operated_reads : {n m : ℕ} (op : Infix) (es : Exprs) → ExprsBind n es m → ExprBinds n (operated op es) m
operated_reads operators.AndAlso es d = block d
operated_reads operators.OrElse es d = block d
operated_reads operators.Match es d = block d
operated_reads op es d = apply d

made_reads : {n m : ℕ} (own : List ℕ) (shape : Shape) (count : ℕ) (es : Exprs) → ExprsBind n es m →
    ExprBinds n (made own shape count es) m
made_reads own shapes.Parenthesized count es d = only_reads es d
made_reads own shapes.Block count es d = block d
made_reads own (shapes.Infix op) count es d = operated_reads op es d
made_reads own shape count es d = apply d

-- an expression, by what its parts are
abbrev Reads : List ℕ → Names → Tree → Type 0
Reads own bound t = ExprBinds (length bound) (expression_of own bound t) (length (with_names bound (binds t)))

abbrev RowReads : List ℕ → Names → Trees → Type 0
RowReads own bound ts = ExprsBind (length bound) (row_of own bound ts) (length (with_names bound (binds_in ts)))

-- a node, by what comes of its parts
node_reads : (own : List ℕ) (functions : List keys.Key) (seen bound : Names) (shape : Shape) (ts : Trees) →
    (faults_apart functions seen ts ≡ [] → RowReads own bound ts) →
    (faults_in_turn functions seen ts ≡ [] → RowReads own bound ts) →
    (faults_behind functions seen ts ≡ [] →
    ExprBinds (length bound) (match_of own bound ts) (length (with_names bound (binds_in_match ts)))) →
    ((c : Connective) → faults_in_turn functions seen ts ≡ [] →
    ExprBinds (length bound) (connected_of own bound c ts) (length (with_names bound (binds_in_first ts)))) →
    faults_in functions seen (tree.node shape ts) ≡ [] → Reads own bound (tree.node shape ts)
node_reads own functions seen bound shapes.Block ts apart turn matching connected e = block (turn e)
node_reads own functions seen bound (shapes.Infix operators.Match) ts apart turn matching connected e = matching e
node_reads own functions seen bound (shapes.Infix operators.AndAlso) ts apart turn matching connected e =
    connected connective.AndAlso e
node_reads own functions seen bound (shapes.Infix operators.OrElse) ts apart turn matching connected e =
    connected connective.OrElse e
node_reads own functions seen bound (shapes.Local f) ts apart turn matching connected e =
    apply (apart (right_empty (call_faults functions (shapes.Local f) (tree_count ts)) (faults_apart functions seen ts) e))
node_reads own functions seen bound shape ts apart turn matching connected e =
    made_reads own shape (tree_count ts) (row_of own bound ts) (apart e)

-- an expression before others
first_reads : (own : List ℕ) (bound : Names) (t : Tree) (ts : Trees) → Reads own bound t →
    RowReads own (with_names bound (binds t)) ts → RowReads own bound (tree.more t ts)
first_reads own bound t ts first others =
    let behind = with_names bound (binds t) in
    next_expression first
    (subst (λ names. ExprsBind (length behind) (row_of own behind ts) (length names))
    (names_append bound (binds t) (binds_in ts)) others)

mutual
  reads : (own : List ℕ) (functions : List keys.Key) (seen bound : Names) (t : Tree) → Sees seen bound →
      faults_in functions seen t ≡ [] → Reads own bound t
  reads own functions seen bound (tree.leaf l) sees e = leaf_reads own seen bound l sees e
  reads own functions seen bound (tree.node shape ts) sees e =
      node_reads own functions seen bound shape ts (reads_apart own functions seen bound ts sees)
      (reads_in_turn own functions seen bound ts sees) (reads_matched own functions seen bound ts sees)
      (λ c. reads_connected own functions seen bound c ts sees) e
  reads own functions seen bound (tree.case subject cs) sees e =
      let asked = faults_apart functions seen subject in
      let tried = faults_in_clauses functions (with_names seen (binds_in subject)) cs in
      case (reads_apart own functions seen bound subject sees (left_empty asked tried e))
      (clauses_read own functions (with_names seen (binds_in subject)) (with_names bound (binds_in subject)) cs
      (sees_more (binds_in subject) seen bound sees) (right_empty asked tried e))

  reads_apart : (own : List ℕ) (functions : List keys.Key) (seen bound : Names) (ts : Trees) → Sees seen bound →
      faults_apart functions seen ts ≡ [] → RowReads own bound ts
  reads_apart own functions seen bound tree.none sees e = no_expression
  reads_apart own functions seen bound (tree.more t ts) sees e =
      let first = faults_in functions seen t in
      let others = faults_apart functions seen ts in
      first_reads own bound t ts (reads own functions seen bound t sees (left_empty first others e))
      (reads_apart own functions seen (with_names bound (binds t)) ts (sees_behind (binds t) seen bound sees)
      (right_empty first others e))

  reads_in_turn : (own : List ℕ) (functions : List keys.Key) (seen bound : Names) (ts : Trees) → Sees seen bound →
      faults_in_turn functions seen ts ≡ [] → RowReads own bound ts
  reads_in_turn own functions seen bound tree.none sees e = no_expression
  reads_in_turn own functions seen bound (tree.more t ts) sees e =
      let first = faults_in functions seen t in
      let others = faults_in_turn functions (with_names seen (binds t)) ts in
      first_reads own bound t ts (reads own functions seen bound t sees (left_empty first others e))
      (reads_in_turn own functions (with_names seen (binds t)) (with_names bound (binds t)) ts
      (sees_more (binds t) seen bound sees) (right_empty first others e))

  reads_matched : (own : List ℕ) (functions : List keys.Key) (seen bound : Names) (ts : Trees) → Sees seen bound →
      faults_behind functions seen ts ≡ [] →
      ExprBinds (length bound) (match_of own bound ts) (length (with_names bound (binds_in_match ts)))
  reads_matched own functions seen bound tree.none sees e = block no_expression
  reads_matched own functions seen bound (tree.more p ts) sees e =
      let behind = with_names bound (binds_in ts) in
      match (reads_apart own functions seen bound ts sees e)
      (subst (λ names. PatternBinds (length behind) (pattern_of own behind p) (length names))
      (names_append bound (binds_in ts) (pattern_names p)) (pattern_binds own behind p))

  reads_connected : (own : List ℕ) (functions : List keys.Key) (seen bound : Names) (c : Connective) (ts : Trees) →
      Sees seen bound → faults_in_turn functions seen ts ≡ [] →
      ExprBinds (length bound) (connected_of own bound c ts) (length (with_names bound (binds_in_first ts)))
  reads_connected own functions seen bound c tree.none sees e = block no_expression
  reads_connected own functions seen bound c (tree.more t ts) sees e =
      let first = faults_in functions seen t in
      let others = faults_in_turn functions (with_names seen (binds t)) ts in
      short_circuit (next_expression (reads own functions seen bound t sees (left_empty first others e)) no_expression)
      (reads_in_turn own functions (with_names seen (binds t)) (with_names bound (binds t)) ts
      (sees_more (binds t) seen bound sees) (right_empty first others e))

  guards_read : (own : List ℕ) (functions : List keys.Key) (seen bound : Names) (gs : tree.Guards) → Sees seen bound →
      faults_in_guards functions seen gs ≡ [] → GuardsSee (length bound) (guards_of own bound gs)
  guards_read own functions seen bound tree.no_guards sees e = no_guard
  guards_read own functions seen bound (tree.guard tests gs) sees e =
      let first = faults_apart functions seen tests in
      let others = faults_in_guards functions seen gs in
      next_guard (reads_apart own functions seen bound tests sees (left_empty first others e))
      (guards_read own functions seen bound gs sees (right_empty first others e))

  clauses_read : (own : List ℕ) (functions : List keys.Key) (seen bound : Names) (cs : tree.Clauses) → Sees seen bound →
      faults_in_clauses functions seen cs ≡ [] → ClausesSee (length bound) (clauses_of own bound cs)
  clauses_read own functions seen bound tree.no_clauses sees e = no_clause
  clauses_read own functions seen bound (tree.clause ps gs body cs) sees e =
      let names = pattern_names_in ps in
      let inside = sees_more names seen bound sees in
      let guarding = faults_in_guards functions (with_names seen names) gs in
      let doing = faults_in_turn functions (with_names seen names) body in
      let others = faults_in_clauses functions seen cs in
      let here = left_empty (guarding ++ doing) others e in
      next_clause (patterns_bind own bound ps)
      (guards_read own functions (with_names seen names) (with_names bound names) gs inside (left_empty guarding doing here))
      (reads_in_turn own functions (with_names seen names) (with_names bound names) body inside (right_empty guarding doing here))
      (clauses_read own functions seen bound cs sees (right_empty (guarding ++ doing) others e))

-- Functions

function_reads : (own : List ℕ) (functions : List keys.Key) (cs : List FunctionClause) → faults_in_function functions cs ≡ [] →
    ClausesSee 0 (function_clauses own cs)
function_reads own functions [] e = no_clause
function_reads own functions (c ∷ cs) e =
    let bound = with_names [] (pattern_names_in c.clause.patterns) in
    let guarding = faults_in_guards functions bound c.clause.guard in
    let doing = faults_in_turn functions bound c.clause.body in
    let others = faults_in_function functions cs in
    let here = left_empty (guarding ++ doing) others e in
    next_clause (patterns_bind own [] c.clause.patterns)
    (guards_read own functions bound bound c.clause.guard (λ x is. is) (left_empty guarding doing here))
    (reads_in_turn own functions bound bound c.clause.body (λ x is. is) (right_empty guarding doing here))
    (function_reads own functions cs (right_empty (guarding ++ doing) others e))

loop_reads : (own : List ℕ) (functions : List keys.Key) (l : LoopTree) → faults_in_loop functions l ≡ [] →
    IsScoped (loop_of own l)
loop_reads own functions l e =
    let bound = with_names [] (pattern_names_in l.patterns) in
    let guarding = faults_in_guards functions bound l.guard in
    let receiving = faults_in_clauses functions bound l.receive in (
      length bound,
      patterns_bind own [] l.patterns,
      guards_read own functions bound bound l.guard (λ x is. is) (left_empty guarding receiving e),
      clauses_read own functions bound bound l.receive (λ x is. is) (right_empty guarding receiving e),
    )

abbrev Scoped : Key × Function → Type 0
Scoped f = IsScoped f.1.definition

form_reads : (own : List ℕ) (exports : List Key) (functions : List keys.Key) (f : FormTree) → faults_in_form functions f ≡ [] →
    All Scoped (option_to_list (function_of own exports f))
form_reads own exports functions (forms.Function f) e =
    All-cons Scoped _ [] (function_reads own functions f.clauses e) (All-nil Scoped)
form_reads own exports functions (forms.Loop l) e = All-cons Scoped _ [] (loop_reads own functions l e) (All-nil Scoped)
form_reads own exports functions f e = All-nil Scoped

forms_read : (own : List ℕ) (exports : List Key) (functions : List keys.Key) (fs : List FormTree) →
    faults_in_forms functions fs ≡ [] → All Scoped (functions_in own exports fs)
forms_read own exports functions [] e = All-nil Scoped
forms_read own exports functions (f ∷ fs) e =
    let first = faults_in_form functions f in
    let others = faults_in_forms functions fs in
    All-append Scoped (option_to_list (function_of own exports f)) (functions_in own exports fs)
    (form_reads own exports functions f (left_empty first others e))
    (forms_read own exports functions fs (right_empty first others e))

pub well_scoped : (m : ModuleTree) → faults_of m ≡ [] → IsWellScoped (meaning m)
well_scoped m e =
    forms_read m.name.name (exports_of m.forms) (functions_of m) m.forms
    (right_empty (duplicates [] m.forms) (faults_in_forms (functions_of m) m.forms) e)

-- Clauses have as many patterns as the grammar asks for.

patterns_counted : (own : List ℕ) (bound : Names) (ts : Trees) → pat_count (patterns_of own bound ts) ≡ tree_count ts
patterns_counted own bound tree.none = refl
patterns_counted own bound (tree.more t ts) = ap (λ n. 1 + n) (patterns_counted own (with_names bound (pattern_names t)) ts)

function_counted : (own : List ℕ) (arity : ℕ) (cs : List FunctionClause) → AreClauses arity cs →
    HavePatterns arity (function_clauses own cs)
function_counted own arity [] are = tt
function_counted own arity (c ∷ cs) are =
    (patterns_counted own [] c.clause.patterns ∙ are.0.has_arity, function_counted own arity cs are.1)

-- a function has as many arguments as its first clause has patterns
named_counted : (own name : List ℕ) (arity : ℕ) (cs : List FunctionClause) → AreClauses arity cs →
    HavePatterns (key_of name cs).1 (function_clauses own cs)
named_counted own name arity [] are = tt
named_counted own name arity (c ∷ cs) are =
    function_counted own (tree_count c.clause.patterns) (c ∷ cs)
    (subst (λ n. AreClauses n (c ∷ cs)) (sym are.0.has_arity) are)

receive_counted : (own : List ℕ) (bound : Names) (cs : tree.Clauses) → AreWellClauses cs →
    HavePatterns 1 (clauses_of own bound cs)
receive_counted own bound tree.no_clauses are = tt
receive_counted own bound (tree.clause ps gs body cs) are =
    (patterns_counted own bound ps ∙ are.0, receive_counted own bound cs are.5)

abbrev Counted : Key × Function → Type 0
Counted f = HasArity f.0.1 f.1.definition

form_counted : (own : List ℕ) (exports : List Key) (f : FormTree) (ts rest : List Terminal) → BeginsForm f ts rest →
    All Counted (option_to_list (function_of own exports f))
form_counted own exports (forms.Function f) ts rest (function_form is written) =
    All-cons Counted _ [] (named_counted own f.name is.0 f.clauses is.2) (All-nil Counted)
form_counted own exports (forms.Loop l) ts rest (loop_form is written) =
    let bound = with_names [] (pattern_names_in l.patterns) in
    All-cons Counted _ [] (patterns_counted own [] l.patterns, receive_counted own bound l.receive is.are_clauses)
    (All-nil Counted)
form_counted own exports f ts rest begins = All-nil Counted

forms_counted : (own : List ℕ) (exports : List Key) (fs : List FormTree) (ts : List Terminal) → AreForms fs ts →
    All Counted (functions_in own exports fs)
forms_counted own exports [] ts are = All-nil Counted
forms_counted own exports (f ∷ fs) ts are =
    All-append Counted (option_to_list (function_of own exports f)) (functions_in own exports fs)
    (form_counted own exports f ts are.0 are.1) (forms_counted own exports fs are.0 are.2)

pub have_arities : (ts : List Terminal) (m : ModuleTree) → IsModule ts m → HasArities (meaning m)
have_arities ts m is = forms_counted m.name.name (exports_of m.forms) m.forms is.1 is.3
