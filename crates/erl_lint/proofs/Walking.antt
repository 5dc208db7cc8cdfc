-- Lemmas on the faults of rows, guards and clauses: what one more of them gives, and that a scope is kept.
use Rattle.std.proofs.Common.{◌≡◌, ℕ, ◌+◌, ◌<◌, Bool, true, false, if◌then◌else◌, List, [], ◌∷◌, ◌++◌, Option, length, get_or, take, sym, ap, ◌∙◌}
use Rattle.std.proofs.Math.Seq.{take-append_seam}
use Rattle.std.specs.List.{list_any}
use Rattle.std.specs.Str.{bytes_eq}
use Rattle.indexmap.specs.IndexSet.{insert_key}
use Rattle.erl_ast.specs.declared.tree.SyntaxTree.{SyntaxTree}
use Rattle.erl_ast.specs.declared.tree.ClauseTree.{ClauseTree}
use Rattle.erl_ast.specs.declared.form.Exported.{Exported}
use Rattle.erl_ast.specs.declared.form.FunctionClause.{FunctionClause}
use Rattle.erl_ast.specs.Tree.{Trees}
use Rattle.erl_ast.specs.TreeForms.{tree, trees, guards, clauses}
use Rattle.erl_lint.specs.declared.fault.StaticFault.{StaticFault}
use Rattle.erl_lint.specs.First.{sooner, soonest}
use Rattle.erl_lint.specs.Keys.{Key}
use Rattle.erl_lint.specs.Scopes.{Names, with_names, binds, binds_in}
use Rattle.erl_lint.specs.Faults.{faults_in, faults_apart, faults_in_turn, faults_in_guards, faults_in_clause, faults_in_clauses, faults_in_function, export_faults, exports_faults}
use Rattle.erl_lint.proofs.Rows.{grown, in_turn, behind, append-assoc, append-none, joined, binds_push}

-- what was bound first is found again

keep_key : (before rest : Names) (name : List ℕ) (names : Names) (b : Bool) →
    ((more : Names) → take (length before) (with_names (before ++ more) names) ≡ before) →
    take (length before) (with_names (if b then before ++ rest else before ++ rest ++ name ∷ []) names) ≡ before
keep_key before rest name names true kept = kept rest
keep_key before rest name names false kept =
    ap (λ ns. take (length before) (with_names ns names)) (append-assoc before rest (name ∷ [])) ∙ kept (rest ++ name ∷ [])

keep_first : (before rest names : Names) → take (length before) (with_names (before ++ rest) names) ≡ before
keep_first before rest [] = take-append_seam before rest
keep_first before rest (n ∷ ns) =
    keep_key before rest n ns (list_any (bytes_eq n) (before ++ rest)) (λ more. keep_first before more ns)

pub kept : (before names now after : Names) (n : ℕ) → n ≡ length before → now ≡ with_names before names → after ≡ take n now → after ≡ before
kept before names now after n count bound cut =
    cut ∙ ap (λ k. take k now) count ∙ ap (take (length before)) (bound ∙ ap (λ ns. with_names ns names) (sym (append-none before))) ∙
    keep_first before [] names

-- rows

apart_push : (functions : List Key) (bound : Names) (ts : List SyntaxTree) (t : SyntaxTree) →
    faults_apart functions bound (trees (ts ++ t ∷ [])) ≡ faults_apart functions bound (trees ts) ++ faults_in functions bound (tree t)
apart_push functions bound [] t = append-none (faults_in functions bound (tree t))
apart_push functions bound (u ∷ us) t =
    behind (faults_in functions bound (tree u)) (faults_apart functions bound (trees (us ++ t ∷ []))) (faults_apart functions bound (trees us))
    (faults_in functions bound (tree t)) (apart_push functions bound us t)

pub row_found : (functions : List Key) (bound now : Names) (items : List SyntaxTree) (i : ℕ) (t : SyntaxTree) (before between after : Option StaticFault) →
    now ≡ bound → i < length items → t ≡ get_or items i t → between ≡ soonest before (faults_apart functions bound (trees (take i items))) →
    after ≡ soonest between (faults_in functions now (tree t)) → after ≡ soonest before (faults_apart functions bound (trees (take (i + 1) items)))
row_found functions bound now items i t before between after same within is first second =
    grown sooner (λ ts. faults_apart functions bound (trees ts)) (λ u. faults_in functions bound (tree u)) (apart_push functions bound)
    items i t before between after within is first (second ∙ ap (λ ns. soonest between (faults_in functions ns (tree t))) same)

turn_push : (functions : List Key) (bound : Names) (ts : List SyntaxTree) (t : SyntaxTree) →
    faults_in_turn functions bound (trees (ts ++ t ∷ [])) ≡
    faults_in_turn functions bound (trees ts) ++ faults_in functions (with_names bound (binds_in (trees ts))) (tree t)
turn_push functions bound [] t = append-none (faults_in functions bound (tree t))
turn_push functions bound (u ∷ us) t =
    behind (faults_in functions bound (tree u)) (faults_in_turn functions (with_names bound (binds (tree u))) (trees (us ++ t ∷ [])))
    (faults_in_turn functions (with_names bound (binds (tree u))) (trees us)) (faults_in functions (with_names bound (binds_in (trees (u ∷ us)))) (tree t))
    (turn_push functions (with_names bound (binds (tree u))) us t ∙
    ap (λ ns. faults_in_turn functions (with_names bound (binds (tree u))) (trees us) ++ faults_in functions ns (tree t))
    (joined (insert_key bytes_eq) bound (binds (tree u)) (binds_in (trees us))))

pub turn_found : (functions : List Key) (bound now : Names) (items : List SyntaxTree) (i : ℕ) (t : SyntaxTree) (before between after : Option StaticFault) →
    now ≡ with_names bound (binds_in (trees (take i items))) → i < length items → t ≡ get_or items i t →
    between ≡ soonest before (faults_in_turn functions bound (trees (take i items))) →
    after ≡ soonest between (faults_in functions now (tree t)) → after ≡ soonest before (faults_in_turn functions bound (trees (take (i + 1) items)))
turn_found functions bound now items i t before between after state within is first second =
    in_turn sooner (λ ns ts. faults_in_turn functions ns (trees ts)) (λ ns u. faults_in functions ns (tree u)) (λ ns ts. with_names ns (binds_in (trees ts)))
    bound (turn_push functions bound) items i t before between after now within is state first second

pub turn_bound : (bound now then' after : Names) (items : List SyntaxTree) (i : ℕ) (t : SyntaxTree) →
    now ≡ with_names bound (binds_in (trees (take i items))) → i < length items → t ≡ get_or items i t → then' ≡ now →
    after ≡ with_names then' (binds (tree t)) → after ≡ with_names bound (binds_in (trees (take (i + 1) items)))
turn_bound bound now then' after items i t state within is same second =
    grown (insert_key bytes_eq) (λ ts. binds_in (trees ts)) (λ u. binds (tree u)) binds_push items i t bound now after within is state
    (second ∙ ap (λ ns. with_names ns (binds (tree t))) same)

-- guards and clauses

guards_push : (functions : List Key) (bound : Names) (gs : List Trees) (tests : Trees) →
    faults_in_guards functions bound (guards (gs ++ tests ∷ [])) ≡ faults_in_guards functions bound (guards gs) ++ faults_apart functions bound tests
guards_push functions bound [] tests = append-none (faults_apart functions bound tests)
guards_push functions bound (g ∷ gs) tests =
    behind (faults_apart functions bound g) (faults_in_guards functions bound (guards (gs ++ tests ∷ []))) (faults_in_guards functions bound (guards gs))
    (faults_apart functions bound tests) (guards_push functions bound gs tests)

pub guards_found : (functions : List Key) (bound now : Names) (items : List Trees) (i : ℕ) (tests : Trees) (before between after : Option StaticFault) →
    now ≡ bound → i < length items → tests ≡ get_or items i tests → between ≡ soonest before (faults_in_guards functions bound (guards (take i items))) →
    after ≡ soonest between (faults_apart functions now tests) → after ≡ soonest before (faults_in_guards functions bound (guards (take (i + 1) items)))
guards_found functions bound now items i tests before between after same within is first second =
    grown sooner (λ gs. faults_in_guards functions bound (guards gs)) (λ g. faults_apart functions bound g) (guards_push functions bound)
    items i tests before between after within is first (second ∙ ap (λ ns. soonest between (faults_apart functions ns tests)) same)

clauses_push : (functions : List Key) (bound : Names) (cs : List ClauseTree) (c : ClauseTree) →
    faults_in_clauses functions bound (clauses (cs ++ c ∷ [])) ≡ faults_in_clauses functions bound (clauses cs) ++ faults_in_clause functions bound c
clauses_push functions bound [] c = append-none (faults_in_clause functions bound c)
clauses_push functions bound (d ∷ ds) c =
    behind (faults_in_clause functions bound d) (faults_in_clauses functions bound (clauses (ds ++ c ∷ []))) (faults_in_clauses functions bound (clauses ds))
    (faults_in_clause functions bound c) (clauses_push functions bound ds c)

pub clauses_found : (functions : List Key) (bound now : Names) (items : List ClauseTree) (i : ℕ) (c : ClauseTree) (before between after : Option StaticFault) →
    now ≡ bound → i < length items → c ≡ get_or items i c → between ≡ soonest before (faults_in_clauses functions bound (clauses (take i items))) →
    after ≡ soonest between (faults_in_clause functions now c) → after ≡ soonest before (faults_in_clauses functions bound (clauses (take (i + 1) items)))
clauses_found functions bound now items i c before between after same within is first second =
    grown sooner (λ cs. faults_in_clauses functions bound (clauses cs)) (λ d. faults_in_clause functions bound d) (clauses_push functions bound)
    items i c before between after within is first (second ∙ ap (λ ns. soonest between (faults_in_clause functions ns c)) same)

-- functions, exports and forms

function_push : (functions : List Key) (cs : List FunctionClause) (c : FunctionClause) →
    faults_in_function functions (cs ++ c ∷ []) ≡ faults_in_function functions cs ++ faults_in_clause functions [] c.clause
function_push functions [] c = append-none (faults_in_clause functions [] c.clause)
function_push functions (d ∷ ds) c =
    behind (faults_in_clause functions [] d.clause) (faults_in_function functions (ds ++ c ∷ [])) (faults_in_function functions ds)
    (faults_in_clause functions [] c.clause) (function_push functions ds c)

pub function_found : (functions : List Key) (now : Names) (items : List FunctionClause) (i : ℕ) (c : FunctionClause) (before between after : Option StaticFault) →
    now ≡ [] → i < length items → c ≡ get_or items i c → between ≡ soonest before (faults_in_function functions (take i items)) →
    after ≡ soonest between (faults_in_clause functions now c.clause) → after ≡ soonest before (faults_in_function functions (take (i + 1) items))
function_found functions now items i c before between after same within is first second =
    grown sooner (faults_in_function functions) (λ d. faults_in_clause functions [] d.clause) (function_push functions)
    items i c before between after within is first (second ∙ ap (λ ns. soonest between (faults_in_clause functions ns c.clause)) same)

exports_push : (functions : List Key) (es : List Exported) (e : Exported) →
    exports_faults functions (es ++ e ∷ []) ≡ exports_faults functions es ++ export_faults functions e
exports_push functions [] e = append-none (export_faults functions e)
exports_push functions (f ∷ fs) e =
    behind (export_faults functions f) (exports_faults functions (fs ++ e ∷ [])) (exports_faults functions fs) (export_faults functions e)
    (exports_push functions fs e)

pub exports_found : (functions : List Key) (items : List Exported) (i : ℕ) (e : Exported) (before between after : Option StaticFault) →
    i < length items → e ≡ get_or items i e → between ≡ soonest before (exports_faults functions (take i items)) →
    after ≡ soonest between (export_faults functions e) → after ≡ soonest before (exports_faults functions (take (i + 1) items))
exports_found functions = grown sooner (exports_faults functions) (export_faults functions) (exports_push functions)
