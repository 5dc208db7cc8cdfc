-- Lemmas on rows of trees: none of their items is higher than the row, and what a row gives item by item.
use Rattle.std.proofs.Common.{◌≡◌, ℕ, ◌+◌, ◌<◌, ◌≤◌, max, List, [], ◌∷◌, ◌++◌, length, get_or, take, Option, fold, zero, suc, sym, ap, ◌∙◌, subst, refl, arith}
use Rattle.std.proofs.lemmas.List.{take_more}
use Rattle.erl_ast.specs.declared.tree.SyntaxTree.{SyntaxTree}
use Rattle.erl_ast.specs.declared.tree.ClauseTree.{ClauseTree}
use Rattle.erl_ast.specs.declared.form.FormTree.{FormTree}
use Rattle.erl_ast.specs.Tree.{Trees, tree_count}
use Rattle.erl_ast.specs.TreeForms.{tree, trees, guards, clauses}
use Rattle.erl_ast.specs.Heights.{tree_height, trees_height, guards_height, clauses_height}
use Rattle.erl_lint.specs.declared.fault.StaticFault.{StaticFault}
use Rattle.erl_lint.specs.First.{sooner, soonest}
use Rattle.erl_lint.specs.Keys.{Key, heading_of, heading_faults, with_form, with_forms, duplicates}
use Rattle.erl_lint.specs.Scopes.{pattern_names, pattern_names_in, binds, binds_in}

-- heights

tree_at : (items : List SyntaxTree) (i : ℕ) (t : SyntaxTree) → i < length items →
    tree_height (tree (get_or items i t)) ≤ trees_height (trees items)
tree_at [] i t within = absurd (omega arith)
tree_at (u ∷ us) zero t within = omega arith
tree_at (u ∷ us) (suc i) t within = omega (arith, tree_at us i t (omega arith))

pub tree_in : (items : List SyntaxTree) (i : ℕ) (t : SyntaxTree) → i < length items → t ≡ get_or items i t →
    tree_height (tree t) ≤ trees_height (trees items)
tree_in items i t within is = subst (λ u. tree_height (tree u) ≤ trees_height (trees items)) (sym is) (tree_at items i t within)

tests_at : (items : List Trees) (i : ℕ) (tests : Trees) → i < length items →
    1 + trees_height (get_or items i tests) ≤ guards_height (guards items)
tests_at [] i tests within = absurd (omega arith)
tests_at (g ∷ gs) zero tests within = omega arith
tests_at (g ∷ gs) (suc i) tests within = omega (arith, tests_at gs i tests (omega arith))

pub tests_in : (items : List Trees) (i : ℕ) (tests : Trees) → i < length items → tests ≡ get_or items i tests →
    1 + trees_height tests ≤ guards_height (guards items)
tests_in items i tests within is =
    subst (λ g. 1 + trees_height g ≤ guards_height (guards items)) (sym is) (tests_at items i tests within)

-- how high a clause stands over its guard sequence and its body
abbrev pub clause_height : ClauseTree → ℕ
clause_height c = max (1 + guards_height c.guard) (1 + trees_height c.body)

clause_at : (items : List ClauseTree) (i : ℕ) (c : ClauseTree) → i < length items →
    clause_height (get_or items i c) ≤ clauses_height (clauses items)
clause_at [] i c within = absurd (omega arith)
clause_at (d ∷ ds) zero c within = omega arith
clause_at (d ∷ ds) (suc i) c within = omega (arith, clause_at ds i c (omega arith))

pub clause_in : (items : List ClauseTree) (i : ℕ) (c : ClauseTree) → i < length items → c ≡ get_or items i c →
    clause_height c ≤ clauses_height (clauses items)
clause_in items i c within is =
    subst (λ d. clause_height d ≤ clauses_height (clauses items)) (sym is) (clause_at items i c within)

-- what is taken in turn

pub joined : {A B : Type 0} (f : B → A → B) (b : B) (xs ys : List A) → fold f (fold f b xs) ys ≡ fold f b (xs ++ ys)
joined f b [] ys = refl
joined f b (x ∷ xs) ys = joined f (f b x) xs ys

pub then : {A B : Type 0} (f : B → A → B) (before between after : B) (xs ys : List A) →
    between ≡ fold f before xs → after ≡ fold f between ys → after ≡ fold f before (xs ++ ys)
then f before between after xs ys first second = second ∙ ap (λ b. fold f b ys) first ∙ joined f before xs ys

pub here : {A : Type 0} (items : List A) (i : ℕ) (x : A) → i < length items → x ≡ get_or items i x → take (i + 1) items ≡ take i items ++ x ∷ []
here items i x within is = take_more items i x within ∙ ap (λ y. take i items ++ y ∷ []) (sym is)

-- one item more of a list that gives parts in turn
pub grown : {A B X : Type 0} (f : B → A → B) (g : List X → List A) (h : X → List A) →
    ((xs : List X) (x : X) → g (xs ++ x ∷ []) ≡ g xs ++ h x) →
    (items : List X) (i : ℕ) (x : X) (before between after : B) → i < length items → x ≡ get_or items i x →
    between ≡ fold f before (g (take i items)) → after ≡ fold f between (h x) → after ≡ fold f before (g (take (i + 1) items))
grown f g h push items i x before between after within is first second =
    then f before between after (g (take i items)) (h x) first second ∙
    ap (fold f before) (sym (ap g (here items i x within is) ∙ push (take i items) x))

pub append-assoc : {A : Type 0} (xs ys zs : List A) → xs ++ ys ++ zs ≡ xs ++ (ys ++ zs)
append-assoc [] ys zs = refl
append-assoc (x ∷ xs) ys zs = ap (λ ws. x ∷ ws) (append-assoc xs ys zs)

pub append-none : {A : Type 0} (xs : List A) → xs ++ [] ≡ xs
append-none [] = refl
append-none (x ∷ xs) = ap (λ ws. x ∷ ws) (append-none xs)

-- one part more, behind a first one
pub behind : {A : Type 0} (front whole xs ys : List A) → whole ≡ xs ++ ys → front ++ whole ≡ front ++ xs ++ ys
behind front whole xs ys is = ap (λ zs. front ++ zs) is ∙ sym (append-assoc front xs ys)

-- names

pub patterns_push : (ps : List SyntaxTree) (p : SyntaxTree) →
    pattern_names_in (trees (ps ++ p ∷ [])) ≡ pattern_names_in (trees ps) ++ pattern_names (tree p)
patterns_push [] p = append-none (pattern_names (tree p))
patterns_push (q ∷ qs) p =
    behind (pattern_names (tree q)) (pattern_names_in (trees (qs ++ p ∷ []))) (pattern_names_in (trees qs)) (pattern_names (tree p)) (patterns_push qs p)

pub binds_push : (ts : List SyntaxTree) (t : SyntaxTree) → binds_in (trees (ts ++ t ∷ [])) ≡ binds_in (trees ts) ++ binds (tree t)
binds_push [] t = append-none (binds (tree t))
binds_push (u ∷ us) t =
    behind (binds (tree u)) (binds_in (trees (us ++ t ∷ []))) (binds_in (trees us)) (binds (tree t)) (binds_push us t)

-- what a function that takes from each item and goes on from its own state gives, one item more
pub in_turn : {A B S X : Type 0} (f : B → A → B) (out : S → List X → List A) (last : S → X → List A) (step : S → List X → S) (s : S) →
    ((xs : List X) (x : X) → out s (xs ++ x ∷ []) ≡ out s xs ++ last (step s xs) x) →
    (items : List X) (i : ℕ) (x : X) (before between after : B) (now : S) → i < length items → x ≡ get_or items i x →
    now ≡ step s (take i items) → between ≡ fold f before (out s (take i items)) → after ≡ fold f between (last now x) →
    after ≡ fold f before (out s (take (i + 1) items))
in_turn f out last step s push items i x before between after now within is state first second =
    then f before between after (out s (take i items)) (last (step s (take i items)) x) first (second ∙ ap (λ n. fold f between (last n x)) state) ∙
    ap (fold f before) (sym (ap (out s) (here items i x within is) ∙ push (take i items) x))

-- a row has as many trees as its slice has items
pub counted : (ts : List SyntaxTree) → length ts ≡ tree_count (trees ts)
counted [] = refl
counted (t ∷ ts) = omega (arith, counted ts)

-- forms

forms_push : (functions : List Key) (fs : List FormTree) (form : FormTree) →
    duplicates functions (fs ++ form ∷ []) ≡ duplicates functions fs ++ heading_faults (with_forms functions fs) (heading_of form)
forms_push functions [] form = append-none (heading_faults functions (heading_of form))
forms_push functions (g ∷ gs) form =
    behind (heading_faults functions (heading_of g)) (duplicates (with_form functions g) (gs ++ form ∷ [])) (duplicates (with_form functions g) gs)
    (heading_faults (with_forms (with_form functions g) gs) (heading_of form)) (forms_push (with_form functions g) gs form)

pub form_found : (items : List FormTree) (i : ℕ) (form : FormTree) (functions now : List Key) (before between after : Option StaticFault) →
    i < length items → form ≡ get_or items i form → now ≡ with_forms functions (take i items) →
    between ≡ soonest before (duplicates functions (take i items)) → after ≡ soonest between (heading_faults now (heading_of form)) →
    after ≡ soonest before (duplicates functions (take (i + 1) items))
form_found items i form functions now before between after within is state first second =
    in_turn sooner duplicates (λ s f. heading_faults s (heading_of f)) with_forms functions (forms_push functions) items i form before between after now within is state first second

pub form_noted : (items : List FormTree) (i : ℕ) (form : FormTree) (functions now after : List Key) →
    i < length items → form ≡ get_or items i form → now ≡ with_forms functions (take i items) → after ≡ with_form now form →
    after ≡ with_forms functions (take (i + 1) items)
form_noted items i form functions now after within is first second =
    grown with_form (λ fs. fs) (λ f. f ∷ []) (λ fs f. refl) items i form functions now after within is first second
