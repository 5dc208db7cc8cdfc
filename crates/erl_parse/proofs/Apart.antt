-- A module in which no function is defined twice has one function of a name and a number of arguments.
use Rattle.std.proofs.Common.{◌≡◌, ℕ, ◌≤◌, Bool, true, false, ◌&&◌, ◌||◌, ◌==◌, if◌then◌else◌, List, [], ◌∷◌, ◌++◌, length, ap, subst, sym, ◌∙◌, refl, arith, true≢false}
use Rattle.std.proofs.lemmas.Bool.{eq-eqb, eqb-true}
use Rattle.std.proofs.lemmas.List.Folds.{list_any-append}
use Rattle.std.proofs.lemmas.Map.Keys.{IsDistinct-cons}
use Rattle.std.proofs.lemmas.Slice.Eq.{bytes_eq-Decides}
use Rattle.std.specs.Prelude.{⊤}
use Rattle.std.specs.List.{IsDistinct, AllByRecursion}
use Rattle.std.specs.Map.{keys_of}
use Rattle.std.specs.Str.{bytes_eq}
use Rattle.erl_ast.specs.declared.form.FunctionClause.{FunctionClause}
use Rattle.erl_ast.specs.declared.form.FormTree.{FormTree}
use Rattle.erl_ast.specs.declared.form.FormTree.TheVariants as forms
use Rattle.erl_ast.specs.declared.form.ModuleTree.{ModuleTree}
use Rattle.erl_ast.specs.Terminal.{Terminal}
use Rattle.erl_ast.specs.Tree.{tree_count}
use Rattle.erl_ast.specs.Forms.{BeginsForm, export_form, version_form, skipped_form, function_form, loop_form, AreForms}
use Rattle.erl_lint.specs.declared.fault.StaticFault.{StaticFault}
use Rattle.erl_lint.specs.declared.fault.StaticFault.TheVariants.{DuplicateFunction}
use Rattle.erl_lint.specs.Keys.{Key, key_eq, is_among, is_built_in, heading_among, heading_faults, with_heading, duplicates}
use Rattle.erl_lint.specs.Faults.{faults_of, faults_in_forms, functions_of}
use Rattle.erl_lower.specs.Meaning.{meaning, key_of, functions_in, exports_of}

-- keys

both : (a b : Bool) → a && b ≡ true → (a ≡ true) × (b ≡ true)
both true true hold = (refl, refl)
both true false hold = absurd (true≢false (sym hold))
both false true hold = absurd (true≢false (sym hold))
both false false hold = absurd (true≢false (sym hold))

key_eq-same : (a b : Key) → key_eq a b ≡ true → a ≡ b
key_eq-same a b found =
    let parts = both (bytes_eq a.0 b.0) (a.1 == b.1) found in
    λ i. ((bytes_eq-Decides a.0 b.0).0 parts.0 i, eqb-true a.1 b.1 parts.1 i)

key_eq-refl : (a : Key) → key_eq a a ≡ true
key_eq-refl a = ap (λ b. b && (a.1 == a.1)) ((bytes_eq-Decides a.0 a.0).1 refl) ∙ eq-eqb a.1 a.1 refl

key_eq-flip : (a b : Key) → key_eq a b ≡ false → key_eq b a ≡ false
key_eq-flip a b other = by (key_eq b a) refl
  where
    by : (found : Bool) → key_eq b a ≡ found → key_eq b a ≡ false
    by false is = is
    by true is = absurd (true≢false (sym (ap (λ k. key_eq a k) (key_eq-same b a is) ∙ key_eq-refl a) ∙ other))

-- keys that are none of some
abbrev Absent : List Key → List Key → Type 0
Absent earlier ks = AllByRecursion (λ q. is_among earlier q ≡ false) ks

-- what is none of some keys with one more is none of them, and is not that one
neither : (a b : Bool) → (a || b) ≡ false → (a ≡ false) × (b ≡ false)
neither true b h = absurd (true≢false h)
neither false b h = (refl, h)

other_than : (ks : List Key) (k q : Key) → is_among (ks ++ k ∷ []) q ≡ false → (is_among ks q ≡ false) × (key_eq k q ≡ false)
other_than ks k q none =
    let parts = neither (is_among ks q) (is_among (k ∷ []) q) (sym (list_any-append (key_eq q) ks (k ∷ [])) ∙ none) in
    (parts.0, key_eq-flip q k (neither (key_eq q k) false parts.1).0)

others_than : (ks : List Key) (k : Key) (qs : List Key) → Absent (ks ++ k ∷ []) qs → Absent ks qs × AllByRecursion (λ q. key_eq k q ≡ false) qs
others_than ks k [] none = (tt, tt)
others_than ks k (q ∷ qs) none =
    let here = other_than ks k q none.0 in
    let there = others_than ks k qs none.1 in
    ((here.0, there.0), (here.1, there.1))

-- one function more

abbrev with_key : List Key → Key → List Key
with_key ks k = if is_among ks k then ks else ks ++ k ∷ []

no_fault : (a b : Bool) (f : StaticFault) (fs : List StaticFault) → (if a || b then f ∷ [] else []) ++ fs ≡ [] → (a ≡ false) × (fs ≡ [])
no_fault true b f fs none = absurd (cc)
no_fault false true f fs none = absurd (cc)
no_fault false false f fs none = (refl, none)

abbrev AreApart : List Key → List Key → Type 0
AreApart earlier ks = IsDistinct key_eq ks × Absent earlier ks

one_more : (earlier : List Key) (k : Key) (at : ℕ) (ks : List Key) (fs : List StaticFault) →
    (if is_among earlier k || is_built_in k then DuplicateFunction at ∷ [] else []) ++ fs ≡ [] →
    (fs ≡ [] → AreApart (with_key earlier k) ks) → AreApart earlier (k ∷ ks)
one_more earlier k at ks fs none later =
    let here = no_fault (is_among earlier k) (is_built_in k) (DuplicateFunction at) fs none in
    let behind = later here.1 in
    let absent : Absent (earlier ++ k ∷ []) ks =
    subst (λ b. Absent (if b then earlier else earlier ++ k ∷ []) ks) here.0 behind.1 in
    let parts = others_than earlier k ks absent in
    (IsDistinct-cons key_eq k ks parts.1 behind.0, (here.0, parts.0))

-- a function has a clause
abbrev HasClauses : FormTree → Type 0
HasClauses (forms.Function f) = 1 ≤ length f.clauses
HasClauses form = ⊤

has_clauses : (form : FormTree) (ts rest : List Terminal) → BeginsForm form ts rest → HasClauses form
has_clauses form ts rest (export_form are is) = tt
has_clauses form ts rest (version_form well most deep is_term is) = tt
has_clauses form ts rest (skipped_form names dot is) = tt
has_clauses form ts rest (function_form is_function is) = is_function.1
has_clauses form ts rest (loop_form is_loop is) = tt

function_more : (earlier : List Key) (name : List ℕ) (cs : List FunctionClause) (ks : List Key) (fs : List FormTree) → 1 ≤ length cs →
    heading_faults earlier (heading_among name cs) ++ duplicates (with_heading earlier (heading_among name cs)) fs ≡ [] →
    ((later : List Key) → duplicates later fs ≡ [] → AreApart later ks) → AreApart earlier (key_of name cs ∷ ks)
function_more earlier name [] ks fs one none later = absurd (omega arith)
function_more earlier name (c ∷ cs) ks fs one none later =
    let k : Key = (name, tree_count c.clause.patterns) in
    one_more earlier k c.at ks (duplicates (with_key earlier k) fs) none (later (with_key earlier k))

are_apart : (own : List ℕ) (exports : List Key) (fs : List FormTree) (ts : List Terminal) → AreForms fs ts → (earlier : List Key) →
    duplicates earlier fs ≡ [] → AreApart earlier (keys_of (functions_in own exports fs))
unfolding IsDistinct
are_apart own exports [] ts are earlier none = (tt, tt)
are_apart own exports (forms.Export es ∷ fs) ts are earlier none = are_apart own exports fs are.0 are.2 earlier none
are_apart own exports (forms.Version t ∷ fs) ts are earlier none = are_apart own exports fs are.0 are.2 earlier none
are_apart own exports (forms.Skipped ∷ fs) ts are earlier none = are_apart own exports fs are.0 are.2 earlier none
are_apart own exports (forms.Function f ∷ fs) ts are earlier none =
    function_more earlier f.name f.clauses (keys_of (functions_in own exports fs)) fs
    (has_clauses (forms.Function f) ts are.0 are.1) none (are_apart own exports fs are.0 are.2)
are_apart own exports (forms.Loop l ∷ fs) ts are earlier none =
    let k : Key = (l.name.name, tree_count l.patterns) in
    one_more earlier k l.name.at (keys_of (functions_in own exports fs)) (duplicates (with_key earlier k) fs) none
    (are_apart own exports fs are.0 are.2 (with_key earlier k))

front_empty : {X : Type 0} (xs ys : List X) → xs ++ ys ≡ [] → xs ≡ []
front_empty [] ys none = refl
front_empty (x ∷ xs) ys none = absurd (cc)

pub functions_apart : (tree : ModuleTree) (rest : List Terminal) → AreForms tree.forms rest → faults_of tree ≡ [] →
    IsDistinct key_eq (keys_of (meaning tree).functions)
functions_apart tree rest are none =
    (are_apart tree.name.name (exports_of tree.forms) tree.forms rest are [] (front_empty (duplicates [] tree.forms) (faults_in_forms (functions_of tree) tree.forms) none)).0
