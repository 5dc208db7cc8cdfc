-- Modules that come of sources are well formed: what the grammar asks of syntax trees is kept by what they mean.
use Rattle.std.proofs.Common.{◌≡◌, ℕ, ◌+◌, ◌≤◌, ◌==◌, nat_le, Bool, true, false, ◌&&◌, if◌then◌else◌, List, [], ◌∷◌, All}
use Rattle.std.proofs.Common.{Option, None, Some, sym, ap, ◌∙◌, subst, refl, arith, rules, true≢false, codes}
use Rattle.std.specs.List.{list_any}
use Rattle.std.specs.Map.{lookup}
use Rattle.std.specs.Prelude.{◌||◌, ◌⊎◌, ◌++◌, cond, IsTrue, is_some}
use Rattle.std.proofs.Common.{inl, inr}
use Rattle.std.proofs.lemmas.List.Folds.{list_any-append}
use Rattle.std.specs.Option.{option_to_list}
use Rattle.std.specs.Str.{bytes_eq}
use Rattle.std.proofs.lemmas.List.Elements.{All-nil, All-cons, All-append}
use Rattle.std.proofs.lemmas.Slice.Eq.{bytes_eq-Decides}
use Rattle.erl_ast.specs.declared.leaf.Leaf.TheVariants as leaves
use Rattle.erl_ast.specs.declared.leaf.Leaf.{Leaf}
use Rattle.erl_ast.specs.declared.role.Role.TheVariants.{Expression, Test}
use Rattle.erl_ast.specs.declared.shape.Infix.TheVariants as operators
use Rattle.erl_ast.specs.declared.shape.Prefix.TheVariants as prefixes
use Rattle.erl_ast.specs.declared.shape.Qualifier.{Qualifier}
use Rattle.erl_ast.specs.declared.shape.Qualifier.TheVariants as qualifier
use Rattle.erl_ast.specs.declared.shape.Shape.{Shape}
use Rattle.erl_ast.specs.declared.shape.Shape.TheVariants as shapes
use Rattle.erl_ast.specs.declared.form.FunctionClause.{FunctionClause}
use Rattle.erl_ast.specs.declared.form.FormTree.{FormTree}
use Rattle.erl_ast.specs.declared.form.FormTree.TheVariants as forms
use Rattle.erl_ast.specs.declared.form.ModuleTree.{ModuleTree}
use Rattle.erl_ast.specs.Functions.{guard_functions, arity_among, is_arity, is_guard_function}
use Rattle.erl_ast.specs.Grammar.{IsWell, ArePartsWell, AreWell, AreWellGuards, AreWellClauses, has, is_erlang}
use Rattle.erl_ast.specs.Grammar.{first_role, other_level, matches, operations}
use Rattle.erl_ast.specs.Terminal.{Terminal}
use Rattle.erl_ast.specs.Forms.{AreClauses, BeginsForm, AreForms, IsModule, function_form, loop_form}
use Rattle.erl_ast.specs.Tree as tree
use Rattle.erl_ast.specs.Tree.{Tree, Trees, tree_count}
use Rattle.erl_lint.specs.Faults.{call_faults, faults_apart, faults_behind, faults_in, faults_in_clauses, faults_in_form, faults_in_forms}
use Rattle.erl_lint.specs.Faults.{faults_in_function, faults_in_guards, faults_in_turn, faults_of, functions_of}
use Rattle.erl_lint.specs.Keys as keys
use Rattle.erl_lint.specs.Keys.{body_arity, body_functions, duplicates, heading_among, is_among, is_built_in, with_form, with_forms, with_heading}
use Rattle.erl_lint.specs.declared.fault.StaticFault.TheVariants.{UndefinedLocal}
use Rattle.erl_lint.specs.Scopes.{Names, binds, binds_in, pattern_names, pattern_names_in, with_names}
use Rattle.erl_ir.specs.declared.operation.BuiltIn.{BuiltIn}
use Rattle.erl_ir.specs.declared.operation.BuiltIn.TheVariants as built_in
use Rattle.erl_ir.specs.declared.operation.Connective.{Connective}
use Rattle.erl_ir.specs.declared.operation.Connective.TheVariants as connective
use Rattle.erl_ir.specs.declared.operation.Operation.{Operation}
use Rattle.erl_ir.specs.declared.function.Function.{Function}
use Rattle.erl_ir.specs.Expression as form
use Rattle.erl_ir.specs.Expression.{Expr, Exprs, expr_count}
use Rattle.erl_ir.specs.Module.{Forms, Key, function_of, key_eq}
use Rattle.erl_ir.specs.Pattern.{pat_count}
use Rattle.erl_lower.specs.BuiltIns.{Named, named, nullary, unary, binary, ternary, erlang_function, gen_server_function, lists_function}
use Rattle.erl_lower.specs.BuiltIns.{proc_lib_function, function_in, plainly, local_call, with_module, remote_call}
use Rattle.erl_lower.specs.Expressions.{called_in, leaf_expression, expression_of, row_of, match_of, connected_of, guards_of, clauses_of}
use Rattle.erl_lower.specs.Expressions as expressions
use Rattle.erl_lower.specs.Meaning as lowered
use Rattle.erl_lower.specs.Meaning.{exports_of, function_clauses, functions_in, key_of, meaning}
use Rattle.erl_lower.specs.Patterns.{patterns_of}
use Rattle.erl_lower.specs.WellScoped.{HavePatterns}
use Rattle.erl_lower.proofs.WellScoped.{well_scoped, have_arities}
use Rattle.erl_semantics.specs.Guards.{is_guard_bif}
use Rattle.erl_semantics.specs.OperatorLaws.{is_guard_operation}
use Rattle.source_laws.specs.Formed.{takes, is_of, is_defined, IsTest, AreTests, AreGuards, IsFormed, AreFormed, AreFormedClauses, IsFormedFunction}
use Rattle.source_laws.specs.Formed.{IsWellFormed}
use Rattle.source_laws.specs.Laws.{IsSound, SourcesAreSound}

same : (n k : ℕ) → (n == k) ≡ true → n ≡ k
same n k is = search rules

both : (a b : Bool) → IsTrue (a && b) → IsTrue a × IsTrue b
both true b is = (refl, is)
both false b is = absurd (true≢false (sym is))

-- Functions that are built in take as many arguments as they are called with.

abbrev TakesIf : ℕ → Option BuiltIn → Type 0
TakesIf n None = Unit {0}
TakesIf n (Some f) = IsTrue (takes f n)

abbrev TakeAll : ℕ → Named → Type 0
TakeAll n [] = Unit {0}
TakeAll n (f ∷ fs) = IsTrue (takes f.1 n) × TakeAll n fs

either : (b : Bool) (one other : Option BuiltIn) (n : ℕ) → TakesIf n one → TakesIf n other →
    TakesIf n (if b then one else other)
either true one other n takes takes_too = takes
either false one other n takes takes_too = takes_too

named_takes : (n : ℕ) (fs : Named) (name : List ℕ) → TakeAll n fs → TakesIf n (named fs name)
named_takes n [] name all = tt
named_takes n (f ∷ fs) name all =
    either (bytes_eq name f.0) (Some f.1) (named fs name) n all.0 (named_takes n fs name all.1)

of_number : (n k : ℕ) (b : Bool) (one other : Option BuiltIn) → (n == k) ≡ b → TakesIf k one → TakesIf n other →
    TakesIf n (if b then one else other)
of_number n k true one other is takes takes_too = subst (λ x. TakesIf x one) (sym (same n k is)) takes
of_number n k false one other is takes takes_too = takes_too

erlang_takes : (name : List ℕ) (n : ℕ) → TakesIf n (erlang_function name n)
erlang_takes name n =
    of_number n 0 (n == 0) (named nullary name) _ refl (named_takes 0 nullary name (refl, tt))
    (of_number n 1 (n == 1) (named unary name) _ refl
    (named_takes 1 unary name
    (refl, (refl, (refl, (refl, (refl, (refl, (refl, (refl, (refl, (refl, (refl, (refl, (refl, tt))))))))))))))
    (of_number n 2 (n == 2) (named binary name) _ refl (named_takes 2 binary name (refl, (refl, tt)))
    (of_number n 3 (n == 3) (named ternary name) None refl (named_takes 3 ternary name (refl, (refl, (refl, tt)))) tt)))

gen_server_takes : (name : List ℕ) (n : ℕ) → TakesIf n (gen_server_function name n)
gen_server_takes name n =
    let two : Named = (codes "call", built_in.Call) ∷ (codes "cast", built_in.Cast) ∷ (codes "reply", built_in.Reply) ∷ [] in
    let three : Named = (codes "call", built_in.Call) ∷ (codes "start_link", built_in.StartLink) ∷ [] in
    let four : Named = (codes "start_link", built_in.StartLink) ∷ [] in
    of_number n 2 (n == 2) (named two name) _ refl (named_takes 2 two name (refl, (refl, (refl, tt))))
    (of_number n 3 (n == 3) (named three name) _ refl (named_takes 3 three name (refl, (refl, tt)))
    (of_number n 4 (n == 4) (named four name) None refl (named_takes 4 four name (refl, tt)) tt))

lists_takes : (name : List ℕ) (n : ℕ) → TakesIf n (lists_function name n)
lists_takes name n =
    let one : Named = (codes "reverse", built_in.Reverse) ∷ [] in
    let two : Named = (codes "member", built_in.Member) ∷ [] in
    of_number n 1 (n == 1) (named one name) _ refl (named_takes 1 one name (refl, tt))
    (of_number n 2 (n == 2) (named two name) None refl (named_takes 2 two name (refl, tt)) tt)

proc_lib_takes : (name : List ℕ) (n : ℕ) → TakesIf n (proc_lib_function name n)
proc_lib_takes name n =
    let three : Named = (codes "spawn_link", built_in.ProcLibSpawnLink) ∷ [] in
    of_number n 3 (n == 3) (named three name) None refl (named_takes 3 three name (refl, tt)) tt

function_takes : (called name : List ℕ) (n : ℕ) → TakesIf n (function_in called name n)
function_takes called name n =
    either (bytes_eq called (codes "erlang")) (erlang_function name n) _ n (erlang_takes name n)
    (either (bytes_eq called (codes "gen_server")) (gen_server_function name n) _ n (gen_server_takes name n)
    (either (bytes_eq called (codes "lists")) (lists_function name n) _ n (lists_takes name n)
    (either (bytes_eq called (codes "proc_lib")) (proc_lib_function name n) None n (proc_lib_takes name n) tt)))

plainly_of : (o : Option BuiltIn) (name : List ℕ) (n : ℕ) → TakesIf n o → IsTrue (is_of (plainly o name) n)
plainly_of None name n takes = refl
plainly_of (Some f) name n takes = takes

with_module_of : (o : Option BuiltIn) (called name : List ℕ) (n : ℕ) → TakesIf n o →
    IsTrue (is_of (with_module o called name) n)
with_module_of None called name n takes = refl
with_module_of (Some f) called name n takes = takes

-- Functions that may be called in guards are among those that are built in.

abbrev is_guard_call : Option BuiltIn → ℕ → Bool
is_guard_call None n = false
is_guard_call (Some f) n = is_guard_bif f && takes f n

call_if : (known : Option BuiltIn → ℕ → Bool) (b : Bool) (first name : List ℕ) (arity n : ℕ) (others : Option ℕ) →
    bytes_eq name first ≡ b →
    IsTrue (known (erlang_function first arity) arity) →
    (IsTrue (is_arity others n) → IsTrue (known (erlang_function name n) n)) →
    IsTrue (is_arity (if b then Some arity else others) n) → IsTrue (known (erlang_function name n) n)
call_if known true first name arity n others is here later has_arity =
    subst (λ x. IsTrue (known (erlang_function x n) n)) (sym ((bytes_eq-Decides name first).0 is))
    (subst (λ k. IsTrue (known (erlang_function first k) k)) (same arity n has_arity) here)
call_if known false first name arity n others is here later has_arity = later has_arity

abbrev AreKnown : (Option BuiltIn → ℕ → Bool) → List (List ℕ × ℕ) → Type 0
AreKnown known [] = Unit {0}
AreKnown known (f ∷ fs) = IsTrue (known (erlang_function f.0 f.1) f.1) × AreKnown known fs

call_among : (known : Option BuiltIn → ℕ → Bool) (fs : List (List ℕ × ℕ)) (name : List ℕ) (n : ℕ) → AreKnown known fs →
    IsTrue (is_arity (arity_among fs name) n) → IsTrue (known (erlang_function name n) n)
call_among known [] name n all is = absurd (true≢false (sym is))
call_among known (f ∷ fs) name n all is =
    call_if known (bytes_eq name f.0) f.0 name f.1 n (arity_among fs name) refl all.0 (call_among known fs name n all.1) is

guard_calls : AreKnown is_guard_call guard_functions
guard_calls = (refl, (refl, (refl, (refl, (refl, (refl, (refl, (refl, (refl, (refl, (refl, (refl, (refl, tt)))))))))))))

guard_call : (name : List ℕ) (n : ℕ) → IsTrue (is_guard_function name n) → IsTrue (is_guard_call (erlang_function name n) n)
guard_call name n is = call_among is_guard_call guard_functions name n guard_calls is

abbrev IsTestOf : Operation → ℕ → Type 0
IsTestOf op n = IsTrue (is_guard_operation op) × IsTrue (is_of op n)

plainly_tests : (o : Option BuiltIn) (name : List ℕ) (n : ℕ) → IsTrue (is_guard_call o n) → IsTestOf (plainly o name) n
plainly_tests None name n is = absurd (true≢false (sym is))
plainly_tests (Some f) name n is = both (is_guard_bif f) (takes f n) is

with_module_tests : (o : Option BuiltIn) (called name : List ℕ) (n : ℕ) → IsTrue (is_guard_call o n) →
    IsTestOf (with_module o called name) n
with_module_tests None called name n is = absurd (true≢false (sym is))
with_module_tests (Some f) called name n is = both (is_guard_bif f) (takes f n) is

where_true : (b : Bool) (o other : Option BuiltIn) (n : ℕ) → IsTrue b → IsTrue (is_guard_call o n) →
    IsTrue (is_guard_call (if b then o else other) n)
where_true true o other n is calls = calls
where_true false o other n is calls = absurd (true≢false (sym is))

remote_tests : (own : List ℕ) (m : Qualifier) (name : List ℕ) (n : ℕ) → IsTrue (is_erlang m && is_guard_function name n) →
    IsTestOf (remote_call (called_in own m) name n) n
remote_tests own (qualifier.Module m) name n is =
    let parts = both (bytes_eq m.name (codes "erlang")) (is_guard_function name n) is in
    with_module_tests (function_in m.name name n) m.name name n
    (where_true (bytes_eq m.name (codes "erlang")) (erlang_function name n) _ n parts.0 (guard_call name n parts.1))
remote_tests own (qualifier.ModuleName at) name n is = absurd (true≢false (sym is))

-- A function that may be called plainly is built in.

abbrev is_body_call : Option BuiltIn → ℕ → Bool
is_body_call o n = is_some o

body_calls : AreKnown is_body_call body_functions
body_calls = (refl, (refl, (refl, (refl, (refl, (refl, tt))))))

one_of : (a b : Bool) → (a || b) ≡ true → (a ≡ true) ⊎ (b ≡ true)
one_of true b is = inl refl
one_of false b is = inr is

some_call : (o : Option BuiltIn) (n : ℕ) → IsTrue (is_guard_call o n) → is_some o ≡ true
some_call None n is = absurd (true≢false (sym is))
some_call (Some f) n is = refl

built_in_by : (name : List ℕ) (n : ℕ) → (is_guard_function name n ≡ true) ⊎ (is_arity (body_arity name) n ≡ true) →
    is_some (erlang_function name n) ≡ true
built_in_by name n (inl is) = some_call (erlang_function name n) n (guard_call name n is)
built_in_by name n (inr is) = call_among is_body_call body_functions name n body_calls is

built_in_call : (name : List ℕ) (n : ℕ) → is_built_in (name, n) ≡ true → is_some (erlang_function name n) ≡ true
built_in_call name n is = built_in_by name n (one_of (is_guard_function name n) (is_arity (body_arity name) n) is)

-- A call of the same module is of a function that it has, where that is no fault.

abbrev HasAll : List keys.Key → Forms → Type 0
HasAll functions m = (name : List ℕ) (n : ℕ) → is_among functions (name, n) ≡ true → is_some (function_of name n m) ≡ true

local_by : (functions : List keys.Key) (m : Forms) → HasAll functions m → (name : List ℕ) (n : ℕ) (o : Option BuiltIn) →
    erlang_function name n ≡ o → (is_among functions (name, n) ≡ true) ⊎ (is_built_in (name, n) ≡ true) →
    IsTrue (is_defined m (plainly o name) n)
local_by functions m has name n (Some f) is there = refl
local_by functions m has name n None is (inl there) = has name n there
local_by functions m has name n None is (inr there) =
    absurd (true≢false (sym (sym (ap (λ o. is_some o) is) ∙ built_in_call name n there)))

no_call_fault : (b : Bool) (at : ℕ) → (if b then [] else UndefinedLocal at ∷ []) ≡ [] → b ≡ true
no_call_fault true at e = refl
no_call_fault false at e = cc

local_defined : (functions : List keys.Key) (m : Forms) → HasAll functions m → (name : List ℕ) (n at : ℕ) →
    (if is_among functions (name, n) || is_built_in (name, n) then [] else UndefinedLocal at ∷ []) ≡ [] →
    IsTrue (is_defined m (local_call name n) n)
local_defined functions m has name n at e =
    local_by functions m has name n (erlang_function name n) refl
    (one_of (is_among functions (name, n)) (is_built_in (name, n))
    (no_call_fault (is_among functions (name, n) || is_built_in (name, n)) at e))

remote_defined : (m : Forms) (o : Option BuiltIn) (called name : List ℕ) (n : ℕ) →
    IsTrue (is_defined m (with_module o called name) n)
remote_defined m None called name n = refl
remote_defined m (Some f) called name n = refl

-- two lists that make the empty one are empty

left_empty : {A : Type 0} (xs ys : List A) → xs ++ ys ≡ [] → xs ≡ []
left_empty [] ys e = refl
left_empty (x ∷ xs) ys e = cc

right_empty : {A : Type 0} (xs ys : List A) → xs ++ ys ≡ [] → ys ≡ []
right_empty [] ys e = e
right_empty (x ∷ xs) ys e = cc

-- Rows keep their length.

row_counted : (own : List ℕ) (bound : Names) (ts : Trees) → expr_count (row_of own bound ts) ≡ tree_count ts
row_counted own bound tree.none = refl
row_counted own bound (tree.more t ts) = ap (λ n. 1 + n) (row_counted own (with_names bound (binds t)) ts)

counted : {n k : ℕ} (op : Operation) → n ≡ k → IsTrue (is_of op k) → IsTrue (is_of op n)
counted op is fits = subst (λ x. IsTrue (is_of op x)) (sym is) fits

counted_there : {n k : ℕ} (m : Forms) (op : Operation) → n ≡ k → IsTrue (is_defined m op k) → IsTrue (is_defined m op n)
counted_there m op is fits = subst (λ x. IsTrue (is_defined m op x)) (sym is) fits

at_least_one : {n : ℕ} (k : ℕ) → n ≡ k → IsTrue (nat_le 1 k) → 1 ≤ n
at_least_one k is le = let h : 1 ≤ k = within k le in omega (arith, h, is)
  where
    within : (k : ℕ) → IsTrue (nat_le 1 k) → 1 ≤ k
    within k le = search rules

-- What is made of a node, by what is made of its parts

alone_formed : (m : Forms) (es : Exprs) → expr_count es ≡ 1 → AreFormed m es → IsFormed m (expressions.alone es)
alone_formed m form.none is formed = absurd (omega (arith, is))
alone_formed m (form.more e form.none) is formed = formed.0
alone_formed m (form.more e (form.more f es)) is formed = absurd (omega (arith, is))

alone_tests : (es : Exprs) → expr_count es ≡ 1 → AreTests es → IsTest (expressions.alone es)
alone_tests form.none is tests = absurd (omega (arith, is))
alone_tests (form.more e form.none) is tests = tests.0
alone_tests (form.more e (form.more f es)) is tests = absurd (omega (arith, is))

leaf_formed : (m : Forms) (own : List ℕ) (bound : Names) (l : Leaf) → IsFormed m (leaf_expression own bound l)
leaf_formed m own bound (leaves.Variable name at) = tt
leaf_formed m own bound l = tt

leaf_tests : (own : List ℕ) (bound : Names) (l : Leaf) → IsTest (leaf_expression own bound l)
leaf_tests own bound (leaves.Variable name at) = tt
leaf_tests own bound l = tt

-- what is made of a node where the parts have no fault
module _ (own : List ℕ) (functions : List keys.Key) (m : Forms) (has_all : HasAll functions m) where
  node_formed : (seen bound : Names) (shape : Shape) (ts : Trees) → IsTrue (has Expression shape (tree_count ts)) →
      (first_role Expression shape ≡ Expression → faults_apart functions seen ts ≡ [] → AreFormed m (row_of own bound ts)) →
      (first_role Expression shape ≡ Expression → faults_in_turn functions seen ts ≡ [] → AreFormed m (row_of own bound ts)) →
      (faults_behind functions seen ts ≡ [] → tree_count ts ≡ 2 → IsFormed m (match_of own bound ts)) →
      ((c : Connective) → first_role Expression shape ≡ Expression → faults_in_turn functions seen ts ≡ [] → tree_count ts ≡ 2 →
      IsFormed m (connected_of own bound c ts)) →
      faults_in functions seen (tree.node shape ts) ≡ [] → IsFormed m (expression_of own bound (tree.node shape ts))
  node_formed seen bound shapes.Tuple ts is apart turn matching connecting e = (refl, refl, apart refl e)
  node_formed seen bound shapes.List ts is apart turn matching connecting e = (refl, refl, apart refl e)
  node_formed seen bound shapes.Cons ts is apart turn matching connecting e =
      (subst (λ n. IsTrue (nat_le 2 n)) (sym (row_counted own bound ts)) is, refl, apart refl e)
  node_formed seen bound shapes.Parenthesized ts is apart turn matching connecting e =
      alone_formed m (row_of own bound ts) (row_counted own bound ts ∙ same (tree_count ts) 1 is) (apart refl e)
  node_formed seen bound shapes.Block ts is apart turn matching connecting e =
      (at_least_one (tree_count ts) (row_counted own bound ts) is, turn refl e)
  node_formed seen bound (shapes.Local f) ts is apart turn matching connecting e =
      let n = tree_count ts in
      let call = call_faults functions (shapes.Local f) n in
      let others = faults_apart functions seen ts in (
        counted (local_call f.name n) (row_counted own bound ts)
            (plainly_of (erlang_function f.name n) f.name n (erlang_takes f.name n)),
        counted_there m (local_call f.name n) (row_counted own bound ts)
            (local_defined functions m has_all f.name n f.at (left_empty call others e)),
        apart refl (right_empty call others e),
      )
  node_formed seen bound (shapes.Remote q f) ts is apart turn matching connecting e =
      let n = tree_count ts in
      let called = called_in own q in (
        counted (remote_call called f.name n) (row_counted own bound ts)
            (with_module_of (function_in called f.name n) called f.name n (function_takes called f.name n)),
        counted_there m (remote_call called f.name n) (row_counted own bound ts)
            (remote_defined m (function_in called f.name n) called f.name n),
        apart refl e,
      )
  node_formed seen bound (shapes.Prefix prefixes.Negate) ts is apart turn matching connecting e =
      (subst (λ n. IsTrue (n == 1)) (sym (row_counted own bound ts)) is, refl, apart refl e)
  node_formed seen bound (shapes.Prefix prefixes.Not) ts is apart turn matching connecting e =
      (subst (λ n. IsTrue (n == 1)) (sym (row_counted own bound ts)) is, refl, apart refl e)
  node_formed seen bound (shapes.Infix operators.Match) ts is apart turn matching connecting e =
      matching e (same (tree_count ts) 2 is)
  node_formed seen bound (shapes.Infix operators.AndAlso) ts is apart turn matching connecting e =
      connecting connective.AndAlso refl e (same (tree_count ts) 2 is)
  node_formed seen bound (shapes.Infix operators.OrElse) ts is apart turn matching connecting e =
      connecting connective.OrElse refl e (same (tree_count ts) 2 is)
  node_formed seen bound (shapes.Infix op) ts is apart turn matching connecting e =
      (subst (λ n. IsTrue (n == 2)) (sym (row_counted own bound ts)) is, refl, apart refl e)

node_tests : (own : List ℕ) (bound : Names) (shape : Shape) (ts : Trees) → IsTrue (has Test shape (tree_count ts)) →
    (first_role Test shape ≡ Test → AreTests (row_of own bound ts)) →
    ((c : Connective) → first_role Test shape ≡ Test → tree_count ts ≡ 2 → IsTest (connected_of own bound c ts)) →
    IsTest (expression_of own bound (tree.node shape ts))
node_tests own bound shapes.Tuple ts is row connecting = (refl, refl, row refl)
node_tests own bound shapes.List ts is row connecting = (refl, refl, row refl)
node_tests own bound shapes.Cons ts is row connecting =
    (refl, subst (λ n. IsTrue (nat_le 2 n)) (sym (row_counted own bound ts)) is, row refl)
node_tests own bound shapes.Parenthesized ts is row connecting =
    alone_tests (row_of own bound ts) (row_counted own bound ts ∙ same (tree_count ts) 1 is) (row refl)
node_tests own bound shapes.Block ts is row connecting = absurd (true≢false (sym is))
node_tests own bound (shapes.Local f) ts is row connecting =
    let tests = plainly_tests (erlang_function f.name (tree_count ts)) f.name (tree_count ts)
    (guard_call f.name (tree_count ts) is) in
    (tests.0, counted (local_call f.name (tree_count ts)) (row_counted own bound ts) tests.1, row refl)
node_tests own bound (shapes.Remote m f) ts is row connecting =
    let tests = remote_tests own m f.name (tree_count ts) is in
    (tests.0, counted (remote_call (called_in own m) f.name (tree_count ts)) (row_counted own bound ts) tests.1, row refl)
node_tests own bound (shapes.Prefix prefixes.Negate) ts is row connecting =
    (refl, subst (λ n. IsTrue (n == 1)) (sym (row_counted own bound ts)) is, row refl)
node_tests own bound (shapes.Prefix prefixes.Not) ts is row connecting =
    (refl, subst (λ n. IsTrue (n == 1)) (sym (row_counted own bound ts)) is, row refl)
node_tests own bound (shapes.Infix operators.Match) ts is row connecting = absurd (true≢false (sym is))
node_tests own bound (shapes.Infix operators.Append) ts is row connecting = absurd (true≢false (sym is))
node_tests own bound (shapes.Infix operators.Send) ts is row connecting = absurd (true≢false (sym is))
node_tests own bound (shapes.Infix operators.AndAlso) ts is row connecting =
    connecting connective.AndAlso refl (same (tree_count ts) 2 is)
node_tests own bound (shapes.Infix operators.OrElse) ts is row connecting =
    connecting connective.OrElse refl (same (tree_count ts) 2 is)
node_tests own bound (shapes.Infix op) ts is row connecting =
    (refl, subst (λ n. IsTrue (n == 2)) (sym (row_counted own bound ts)) is, row refl)

-- one part is left behind the first of two
second_counted : (own : List ℕ) (bound : Names) (ts : Trees) → 1 + tree_count ts ≡ 2 → expr_count (row_of own bound ts) ≡ 1
second_counted own bound ts two = let one : tree_count ts ≡ 1 = omega (arith, two) in row_counted own bound ts ∙ one

one_or_more : {n : ℕ} → n ≡ 1 → 1 ≤ n
one_or_more is = omega (arith, is)

body_counted : (own : List ℕ) (bound : Names) (ts : Trees) → 1 ≤ tree_count ts → 1 ≤ expr_count (row_of own bound ts)
body_counted own bound ts h = subst (λ n. 1 ≤ n) (sym (row_counted own bound ts)) h

-- a clause of a `case` has one pattern
patterns_counted : (own : List ℕ) (bound : Names) (ts : Trees) → pat_count (patterns_of own bound ts) ≡ tree_count ts
patterns_counted own bound tree.none = refl
patterns_counted own bound (tree.more t ts) = ap (λ n. 1 + n) (patterns_counted own (with_names bound (pattern_names t)) ts)

case_counted : (own : List ℕ) (bound : Names) (cs : tree.Clauses) → AreWellClauses cs → HavePatterns 1 (clauses_of own bound cs)
case_counted own bound tree.no_clauses are = tt
case_counted own bound (tree.clause ps gs body cs) are =
    (patterns_counted own bound ps ∙ are.0, case_counted own bound cs are.5)

mutual
  tests : (own : List ℕ) (bound : Names) (t : Tree) → IsWell Test t → IsTest (expression_of own bound t)
  tests own bound (tree.leaf l) well = leaf_tests own bound l
  tests own bound (tree.node shape ts) well =
      node_tests own bound shape ts well.0 (parts_tests own bound shape ts well.2)
      (λ c. connected_tests own bound c shape ts well.2)
  tests own bound (tree.case subject cs) well = absurd (true≢false (sym well.0))

  parts_tests : (own : List ℕ) (bound : Names) (shape : Shape) (ts : Trees) → ArePartsWell Test shape ts →
      first_role Test shape ≡ Test → AreTests (row_of own bound ts)
  parts_tests own bound shape tree.none well alike = tt
  parts_tests own bound shape (tree.more t ts) well alike = (
    tests own bound t (subst (λ r. IsWell r t) alike well.1),
    row_tests own (with_names bound (binds t)) ts (other_level Test shape) well.2,
  )

  row_tests : (own : List ℕ) (bound : Names) (ts : Trees) (most : ℕ) → AreWell Test most ts → AreTests (row_of own bound ts)
  row_tests own bound tree.none most well = tt
  row_tests own bound (tree.more t ts) most well =
      (tests own bound t well.1, row_tests own (with_names bound (binds t)) ts most well.2)

  connected_tests : (own : List ℕ) (bound : Names) (c : Connective) (shape : Shape) (ts : Trees) → ArePartsWell Test shape ts →
      first_role Test shape ≡ Test → tree_count ts ≡ 2 → IsTest (connected_of own bound c ts)
  connected_tests own bound c shape tree.none well alike two = absurd (omega (arith, two))
  connected_tests own bound c shape (tree.more t ts) well alike two = (
    refl,
    (tests own bound t (subst (λ r. IsWell r t) alike well.1), tt),
    second_counted own (with_names bound (binds t)) ts two,
    row_tests own (with_names bound (binds t)) ts (other_level Test shape) well.2,
  )

  guards_formed : (own : List ℕ) (bound : Names) (gs : tree.Guards) → AreWellGuards gs → AreGuards (guards_of own bound gs)
  guards_formed own bound tree.no_guards well = tt
  guards_formed own bound (tree.guard conditions gs) well =
      (row_tests own bound conditions operations well.1, guards_formed own bound gs well.2)

module _ (own : List ℕ) (functions : List keys.Key) (m : Forms) (has_all : HasAll functions m) where
  mutual
    formed : (seen bound : Names) (t : Tree) → IsWell Expression t → faults_in functions seen t ≡ [] →
        IsFormed m (expression_of own bound t)
    formed seen bound (tree.leaf l) well e = leaf_formed m own bound l
    formed seen bound (tree.node shape ts) well e =
        node_formed own functions m has_all seen bound shape ts well.0 (parts_apart seen bound shape ts well.2)
        (parts_in_turn seen bound shape ts well.2) (match_formed seen bound shape ts well.2)
        (λ c. connected_formed seen bound c shape ts well.2) e
    formed seen bound (tree.case subject cs) well e =
        let asked = faults_apart functions seen subject in
        let tried = faults_in_clauses functions (with_names seen (binds_in subject)) cs in (
          one_or_more (row_counted own bound subject ∙ well.1),
          row_apart seen bound subject matches well.2 (left_empty asked tried e),
          clauses_formed (with_names seen (binds_in subject)) (with_names bound (binds_in subject)) cs well.4
              (right_empty asked tried e),
          case_counted own (with_names bound (binds_in subject)) cs well.4,
        )

    parts_apart : (seen bound : Names) (shape : Shape) (ts : Trees) → ArePartsWell Expression shape ts →
        first_role Expression shape ≡ Expression → faults_apart functions seen ts ≡ [] → AreFormed m (row_of own bound ts)
    parts_apart seen bound shape tree.none well alike e = tt
    parts_apart seen bound shape (tree.more t ts) well alike e =
        let here = faults_in functions seen t in
        let later = faults_apart functions seen ts in (
          formed seen bound t (subst (λ r. IsWell r t) alike well.1) (left_empty here later e),
          row_apart seen (with_names bound (binds t)) ts (other_level Expression shape) well.2 (right_empty here later e),
        )

    row_apart : (seen bound : Names) (ts : Trees) (most : ℕ) → AreWell Expression most ts →
        faults_apart functions seen ts ≡ [] → AreFormed m (row_of own bound ts)
    row_apart seen bound tree.none most well e = tt
    row_apart seen bound (tree.more t ts) most well e =
        let here = faults_in functions seen t in
        let later = faults_apart functions seen ts in (
          formed seen bound t well.1 (left_empty here later e),
          row_apart seen (with_names bound (binds t)) ts most well.2 (right_empty here later e),
        )

    parts_in_turn : (seen bound : Names) (shape : Shape) (ts : Trees) → ArePartsWell Expression shape ts →
        first_role Expression shape ≡ Expression → faults_in_turn functions seen ts ≡ [] → AreFormed m (row_of own bound ts)
    parts_in_turn seen bound shape tree.none well alike e = tt
    parts_in_turn seen bound shape (tree.more t ts) well alike e =
        let here = faults_in functions seen t in
        let later = faults_in_turn functions (with_names seen (binds t)) ts in (
          formed seen bound t (subst (λ r. IsWell r t) alike well.1) (left_empty here later e),
          row_in_turn (with_names seen (binds t)) (with_names bound (binds t)) ts (other_level Expression shape) well.2
              (right_empty here later e),
        )

    row_in_turn : (seen bound : Names) (ts : Trees) (most : ℕ) → AreWell Expression most ts →
        faults_in_turn functions seen ts ≡ [] → AreFormed m (row_of own bound ts)
    row_in_turn seen bound tree.none most well e = tt
    row_in_turn seen bound (tree.more t ts) most well e =
        let here = faults_in functions seen t in
        let later = faults_in_turn functions (with_names seen (binds t)) ts in (
          formed seen bound t well.1 (left_empty here later e),
          row_in_turn (with_names seen (binds t)) (with_names bound (binds t)) ts most well.2 (right_empty here later e),
        )

    match_formed : (seen bound : Names) (shape : Shape) (ts : Trees) → ArePartsWell Expression shape ts →
        faults_behind functions seen ts ≡ [] → tree_count ts ≡ 2 → IsFormed m (match_of own bound ts)
    match_formed seen bound shape tree.none well e two = absurd (omega (arith, two))
    match_formed seen bound shape (tree.more p ts) well e two =
        (one_or_more (second_counted own bound ts two), row_apart seen bound ts (other_level Expression shape) well.2 e)

    connected_formed : (seen bound : Names) (c : Connective) (shape : Shape) (ts : Trees) → ArePartsWell Expression shape ts →
        first_role Expression shape ≡ Expression → faults_in_turn functions seen ts ≡ [] → tree_count ts ≡ 2 →
        IsFormed m (connected_of own bound c ts)
    connected_formed seen bound c shape tree.none well alike e two = absurd (omega (arith, two))
    connected_formed seen bound c shape (tree.more t ts) well alike e two =
        let here = faults_in functions seen t in
        let later = faults_in_turn functions (with_names seen (binds t)) ts in (
          omega arith,
          (formed seen bound t (subst (λ r. IsWell r t) alike well.1) (left_empty here later e), tt),
          one_or_more (second_counted own (with_names bound (binds t)) ts two),
          row_in_turn (with_names seen (binds t)) (with_names bound (binds t)) ts (other_level Expression shape) well.2
              (right_empty here later e),
        )

    clauses_formed : (seen bound : Names) (cs : tree.Clauses) → AreWellClauses cs → faults_in_clauses functions seen cs ≡ [] →
        AreFormedClauses m (clauses_of own bound cs)
    clauses_formed seen bound tree.no_clauses well e = tt
    clauses_formed seen bound (tree.clause ps gs body cs) well e =
        let names = pattern_names_in ps in
        let inside = with_names bound names in
        let guarding = faults_in_guards functions (with_names seen names) gs in
        let doing = faults_in_turn functions (with_names seen names) body in
        let others = faults_in_clauses functions seen cs in
        let here = left_empty (guarding ++ doing) others e in (
          guards_formed own inside gs well.2,
          body_counted own inside body well.3,
          row_in_turn (with_names seen names) inside body matches well.4 (right_empty guarding doing here),
          clauses_formed seen bound cs well.5 (right_empty (guarding ++ doing) others e),
        )

  -- Functions

  function_formed : (arity : ℕ) (cs : List FunctionClause) → AreClauses arity cs → faults_in_function functions cs ≡ [] →
      AreFormedClauses m (function_clauses own cs)
  function_formed arity [] are e = tt
  function_formed arity (c ∷ cs) are e =
      let inside = with_names [] (pattern_names_in c.clause.patterns) in
      let guarding = faults_in_guards functions inside c.clause.guard in
      let doing = faults_in_turn functions inside c.clause.body in
      let others = faults_in_function functions cs in
      let here = left_empty (guarding ++ doing) others e in (
        guards_formed own inside c.clause.guard are.0.are_guards,
        body_counted own inside c.clause.body are.0.has_body,
        row_in_turn inside inside c.clause.body matches are.0.is_body (right_empty guarding doing here),
        function_formed arity cs are.1 (right_empty (guarding ++ doing) others e),
      )

  abbrev Formed : Key × Function → Type 0
  Formed f = IsFormedFunction m f.1.definition

  form_formed : (exports : List Key) (f : FormTree) (ts rest : List Terminal) → BeginsForm f ts rest →
      faults_in_form functions f ≡ [] →
      All Formed (option_to_list (lowered.function_of own exports f))
  form_formed exports (forms.Function f) ts rest (function_form is written) e =
      All-cons Formed _ [] (function_formed is.0 f.clauses is.2 e) (All-nil Formed)
  form_formed exports (forms.Loop l) ts rest (loop_form is written) e =
      let bound = with_names [] (pattern_names_in l.patterns) in
      let guarding = faults_in_guards functions bound l.guard in
      let receiving = faults_in_clauses functions bound l.receive in
      All-cons Formed _ [] (
        guards_formed own bound l.guard is.are_guards,
        clauses_formed bound bound l.receive is.are_clauses (right_empty guarding receiving e),
      ) (All-nil Formed)
  form_formed exports f ts rest begins e = All-nil Formed

  forms_formed : (exports : List Key) (fs : List FormTree) (ts : List Terminal) → AreForms fs ts →
      faults_in_forms functions fs ≡ [] →
      All Formed (functions_in own exports fs)
  forms_formed exports [] ts are e = All-nil Formed
  forms_formed exports (f ∷ fs) ts are e =
      let here = faults_in_form functions f in
      let later = faults_in_forms functions fs in
      All-append Formed (option_to_list (lowered.function_of own exports f)) (functions_in own exports fs)
      (form_formed exports f ts are.0 are.1 (left_empty here later e))
      (forms_formed exports fs are.0 are.2 (right_empty here later e))

-- The functions that a module defines are those that it has.

abbrev any_of : Key → List (Key × Function) → Bool
any_of k es = list_any (λ e. key_eq k e.0) es

found_by : (b : Bool) (f : Function) (other : Option Function) (any : Bool) → (b || any) ≡ true →
    (any ≡ true → is_some other ≡ true) →
    is_some (cond b (Some f) other) ≡ true
found_by true f other any is later = refl
found_by false f other any is later = later is

found : (k : Key) (es : List (Key × Function)) → any_of k es ≡ true → is_some (lookup (key_eq k) es) ≡ true
found k [] is = absurd (true≢false (sym is))
found k (e ∷ es) is = found_by (key_eq k e.0) e.1 (lookup (key_eq k) es) (any_of k es) is (found k es)

inserted_by : (b : Bool) (acc : List Key) (key k : Key) → is_among (if b then acc else acc ++ key ∷ []) k ≡ true →
    (is_among acc k ≡ true) ⊎ ((key_eq k key || false) ≡ true)
inserted_by true acc key k is = inl is
inserted_by false acc key k is =
    one_of (is_among acc k) (is_among (key ∷ []) k) (sym (list_any-append (key_eq k) acc (key ∷ [])) ∙ is)

module _ (own : List ℕ) (exports : List Key) where
  function_adds : (name : List ℕ) (cs : List FunctionClause) (acc : List Key) (k : Key) →
      is_among (with_heading acc (heading_among name cs)) k ≡ true → (is_among acc k ≡ true) ⊎
      ((key_eq k (key_of name cs) || false) ≡ true)
  function_adds name [] acc k is = inl is
  function_adds name (c ∷ cs) acc k is =
      inserted_by (is_among acc (name, tree_count c.clause.patterns)) acc (name, tree_count c.clause.patterns) k is

  form_adds : (f : FormTree) (acc : List Key) (k : Key) → is_among (with_form acc f) k ≡ true →
      (is_among acc k ≡ true) ⊎ (any_of k (option_to_list (lowered.function_of own exports f)) ≡ true)
  form_adds (forms.Function f) acc k is = function_adds f.name f.clauses acc k is
  form_adds (forms.Loop l) acc k is =
      inserted_by (is_among acc (l.name.name, tree_count l.patterns)) acc (l.name.name, tree_count l.patterns) k is
  form_adds f acc k is = inl is

  joined : (k : Key) (xs ys : List (Key × Function)) → (any_of k xs ≡ true) ⊎ (any_of k ys ≡ true) → any_of k (xs ++ ys) ≡ true
  joined k xs ys (inl is) = list_any-append (λ e. key_eq k e.0) xs ys ∙ ap (λ b. b || any_of k ys) is
  joined k xs ys (inr is) =
      list_any-append (λ e. key_eq k e.0) xs ys ∙ ap (λ b. any_of k xs || b) is ∙ or_true (any_of k xs)
    where
      or_true : (b : Bool) → (b || true) ≡ true
      or_true true = refl
      or_true false = refl

  behind_form : (f : FormTree) (fs : List FormTree) (acc : List Key) (k : Key) →
      (is_among (with_form acc f) k ≡ true) ⊎ (any_of k (functions_in own exports fs) ≡ true) →
      (is_among acc k ≡ true) ⊎ (any_of k (functions_in own exports (f ∷ fs)) ≡ true)
  behind_form f fs acc k (inr is) =
      inr (joined k (option_to_list (lowered.function_of own exports f)) (functions_in own exports fs) (inr is))
  behind_form f fs acc k (inl is) = by (form_adds f acc k is)
    where
      by : (is_among acc k ≡ true) ⊎ (any_of k (option_to_list (lowered.function_of own exports f)) ≡ true) →
          (is_among acc k ≡ true) ⊎ (any_of k (functions_in own exports (f ∷ fs)) ≡ true)
      by (inl there) = inl there
      by (inr there) = inr (joined k (option_to_list (lowered.function_of own exports f)) (functions_in own exports fs)
          (inl there))

  all_added : (fs : List FormTree) (acc : List Key) (k : Key) → is_among (with_forms acc fs) k ≡ true →
      (is_among acc k ≡ true) ⊎ (any_of k (functions_in own exports fs) ≡ true)
  all_added [] acc k is = inl is
  all_added (f ∷ fs) acc k is = behind_form f fs acc k (all_added fs (with_form acc f) k is)

meant_by : (m : ModuleTree) (k : Key) → (is_among [] k ≡ true) ⊎ (any_of k (meaning m).functions ≡ true) →
    is_some (function_of k.0 k.1 (meaning m)) ≡ true
meant_by m k (inl none) = absurd (true≢false (sym none))
meant_by m k (inr there) = found k (meaning m).functions there

has_functions : (m : ModuleTree) → HasAll (functions_of m) (meaning m)
has_functions m name n is =
    meant_by m (name, n) (all_added m.name.name (exports_of m.forms) m.forms [] (name, n) is)

well_formed : (ts : List Terminal) (m : ModuleTree) → IsModule ts m → faults_of m ≡ [] → IsWellFormed (meaning m)
well_formed ts m is none =
    forms_formed m.name.name (functions_of m) (meaning m) (has_functions m) (exports_of m.forms) m.forms is.1 is.3
    (right_empty (duplicates [] m.forms) (faults_in_forms (functions_of m) m.forms) none)

pub sources_are_sound : SourcesAreSound
sources_are_sound bytes m source =
    subst (λ x. IsSound x) (sym source.means.1)
    (record {
      scopes = well_scoped source.tree source.faultless;
      arities = have_arities _ source.tree source.written.is_module;
      formed = well_formed _ source.tree source.written.is_module source.faultless;
    })
