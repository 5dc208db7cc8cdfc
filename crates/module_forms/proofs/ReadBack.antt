-- What is written of a form is read as that form.
use Rattle.std.proofs.Common.{◌≡◌, ℕ, zero, suc, ◌+◌, ◌-◌, ◌<◌, ◌≤◌, ◌==◌, nat_le, Bool, true, false, ◌&&◌, if◌then◌else◌, IsTrue, List, [], ◌∷◌, ◌++◌, length, codes, Option, Some, None, ap, subst, sym, ◌∙◌, refl, arith, rules, true≢false, append_assoc, append-nil}
use Rattle.std.proofs.lemmas.Option.{none-some, same_Some}
use Rattle.std.proofs.lemmas.Slice.Eq.{bytes_eq-Decides}
use Rattle.std.specs.Str.{bytes_eq}
use Rattle.erl_scan.specs.declared.mark.Mark.TheVariants as marks
use Rattle.erl_scan.specs.declared.word.Word.TheVariants as words
use Rattle.erl_ast.specs.declared.leaf.Named.{Named}
use Rattle.erl_ast.specs.declared.leaf.Leaf.{Leaf}
use Rattle.erl_ast.specs.declared.leaf.Leaf.TheVariants as leaves
use Rattle.erl_ast.specs.declared.leaf.Sign.TheVariants as signs
use Rattle.erl_ast.specs.declared.shape.Shape.TheVariants as shapes
use Rattle.erl_ast.specs.declared.shape.Qualifier.TheVariants as qualifier
use Rattle.erl_ast.specs.declared.shape.Prefix.TheVariants.{Negate, Not}
use Rattle.erl_expressions.proofs.Lengths.{two_parts, row_longer, guards_longer}
use Rattle.erl_ast.specs.declared.role.Role.{Role}
use Rattle.erl_ast.specs.declared.role.Role.TheVariants.{Expression, Pattern}
use Rattle.erl_ast.specs.declared.form.Exported.{Exported}
use Rattle.erl_ast.specs.declared.form.FunctionClause.{FunctionClause}
use Rattle.erl_ast.specs.declared.form.FormTree.{FormTree}
use Rattle.erl_ast.specs.declared.form.FormTree.TheVariants as forms
use Rattle.erl_ast.specs.declared.form.LoopTree.{LoopTree}
use Rattle.erl_ast.specs.Terminal.{Terminal, integer, atom, word, mark, dot}
use Rattle.erl_ast.specs.Tree.{Tree, Trees, Guards, Clauses, leaf, node, case, none, more, tree_count, tree_depth, trees_depth, guards_depth}
use Rattle.erl_ast.specs.Grammar.{matches, level, is_leaf, first_role, has_operator, IsWell, AreWell, AreWellGuards}
use Rattle.erl_ast.specs.Written.{written, leaf_written, other_parts_written, row_written, others_written, guards_written, clauses_written}
use Rattle.erl_ast.specs.Forms.{Attribute, skipped, attribute, is_term, after_dot, are_arities, entry_written, entries_written, other_entries_written, head_written, clause_written, function_written, other_function_written, IsFunctionClause, AreClauses, IsFunction, IsLoop, loop_written, attribute_written, BeginsForm, export_form, version_form, skipped_form, function_form, loop_form}
use Rattle.erl_expressions.specs.declared.delimiter.Delimiter.TheVariants.{Comma, Semicolon, Arrow, CloseParen, CloseBracket}
use Rattle.erl_expressions.specs.Delimiters.{after}
use Rattle.erl_expressions.specs.Reading.{Found, and_then, separated, parts, guarded, row, clauses_to_end, read}
use Rattle.erl_expressions.specs.Readings.{Stops}
use Rattle.erl_expressions.proofs.Inversion.{both}
use Rattle.erl_expressions.proofs.Levels.{stops_before}
use Rattle.erl_expressions.proofs.SoundRows.{Things, only, then_more}
use Rattle.erl_expressions.proofs.WholeRows.{Reads, things_whole, row_whole}
use Rattle.erl_expressions.proofs.WholeClauses.{guarded_whole, clauses_whole}
use Rattle.erl_expressions.proofs.Matches.{read_whole}
use Rattle.erl_expressions.proofs.ReadBack.{parts_whole, if_true}
use Rattle.module_forms.specs.declared.opening.Opening.TheVariants as openings
use Rattle.module_forms.specs.Openings.{opening, is_opening, behind}
use Rattle.module_forms.specs.FormReading.{named_ahead, closed_form, arity_ahead, entry, closed_entries, rest_of_entries, some_entries, entries_by, exported, version_form as version_read, versioned, head, front, clause_of, one_clause, if_same, clause_like, more_by, clauses_like, ended, rest_of_function, function_from, looped, function_by, function, by_attribute, form_by, form}
use Rattle.module_forms.proofs.Sound.{front_found, clause_found, function_found, loop_found, function_of, loop_of}

-- Exports

abbrev entry_found : Exported → List Terminal → Found Exported
entry_found e rest = Some (e, rest)

entry_whole : (e : Exported) (rest : List Terminal) → IsTrue (nat_le e.arity 9223372036854775807) → entry (entry_written e rest) ≡ Some (e, rest)
unfolding entry
entry_whole e rest is = if_true (nat_le e.arity 9223372036854775807) (entry_found e rest) is

entries_read : (es : List Exported) (e : Exported) (rest : List Terminal) → IsTrue (are_arities (e ∷ es)) →
    Things Comma (Reads Comma entry) (entries_written (e ∷ es) (mark marks.CloseBracket ∷ rest)) (e ∷ es) (mark marks.CloseBracket ∷ rest)
entries_read [] e rest is = only (entry_whole e (mark marks.CloseBracket ∷ rest) (both (nat_le e.arity 9223372036854775807) true is).0)
entries_read (f ∷ fs) e rest is =
    let parts = both (nat_le e.arity 9223372036854775807) (are_arities (f ∷ fs)) is in
    then_more (entry_whole e (other_entries_written (f ∷ fs) (mark marks.CloseBracket ∷ rest)) parts.0) (entries_read fs f rest parts.1)

few_entries : (es : List Exported) (rest : List Terminal) → length es ≤ length (other_entries_written es rest)
few_entries [] rest = omega arith
few_entries (e ∷ es) rest = omega (arith, few_entries es rest)

abbrev entries_found : List Exported → List Terminal → Found (List Exported)
entries_found es rest = Some (es, rest)

entries_whole : (es : List Exported) (rest : List Terminal) → IsTrue (are_arities es) →
    entries_by (after CloseBracket (entries_written es (mark marks.CloseBracket ∷ rest))) (entries_written es (mark marks.CloseBracket ∷ rest)) ≡ Some (es, rest)
unfolding some_entries
entries_whole [] rest is = refl
entries_whole (e ∷ es) rest is =
    let text = entries_written (e ∷ es) (mark marks.CloseBracket ∷ rest) in
    ap (λ o. and_then o (rest_of_entries [])) (things_whole Comma entry (length text) (entries_read es e rest is)
    (omega (arith, few_entries es (mark marks.CloseBracket ∷ rest))) refl)

abbrev form_found : FormTree → List Terminal → Found FormTree
form_found f rest = Some (f, rest)

abbrev export_found : List Exported × List Terminal → Found FormTree
export_found g = and_then (closed_form g.1) (form_found (forms.Export g.0))

exported_whole : (es : List Exported) (rest : List Terminal) → IsTrue (are_arities es) →
    exported (mark marks.OpenParen ∷ mark marks.OpenBracket ∷ entries_written es (mark marks.CloseBracket ∷ mark marks.CloseParen ∷ dot ∷ rest)) ≡ Some (forms.Export es, rest)
unfolding exported
exported_whole es rest is = ap (λ o. and_then o export_found) (entries_whole es (mark marks.CloseParen ∷ dot ∷ rest) is)

-- `-vsn`

abbrev version_found : Tree × List Terminal → Found FormTree
version_found g = version_read g.0 g.1

versioned_whole : (t : Tree) (rest : List Terminal) → IsWell Pattern t → level t ≤ matches →
    tree_depth t ≤ 256 → IsTrue (is_term t) →
    versioned (mark marks.OpenParen ∷ written t (mark marks.CloseParen ∷ dot ∷ rest)) ≡ Some (forms.Version (more t none), rest)
unfolding versioned
versioned_whole t rest well low deep is =
    ap (λ o. and_then o version_found) (read_whole 256 Pattern matches t (mark marks.CloseParen ∷ dot ∷ rest) well low deep
    (stops_before CloseParen matches (dot ∷ rest))) ∙
    if_true (is_term t) (form_found (forms.Version (more t none)) rest) is

-- Functions

front_whole : (ps : Trees) (gs : Guards) (rest : List Terminal) → AreWell Pattern matches ps → AreWellGuards gs →
    trees_depth ps ≤ 256 → guards_depth gs ≤ 256 →
    front (mark marks.OpenParen ∷ row_written ps (mark marks.CloseParen ∷ guards_written gs (mark marks.Arrow ∷ rest))) ≡ Some ((ps, gs), rest)
unfolding front
front_whole ps gs rest well wells deep deeps =
    ap (λ o. and_then o (λ f. and_then (guarded (read 256) f.1) (λ g. and_then (after Arrow g.1) (front_found f.0 g.0))))
    (parts_whole (read 256) 256 (read_whole 256) Pattern matches CloseParen ps (guards_written gs (mark marks.Arrow ∷ rest)) well deep refl) ∙
    ap (λ o. and_then o (λ g. and_then (after Arrow g.1) (front_found ps g.0))) (guarded_whole (read 256) 256 (read_whole 256) gs rest wells deeps)

one_clause_whole : (arity : ℕ) (c : FunctionClause) (rest : List Terminal) → IsFunctionClause arity c → Stops matches rest → after Comma rest ≡ None →
    one_clause c.at (mark marks.OpenParen ∷ row_written c.clause.patterns (mark marks.CloseParen ∷ guards_written c.clause.guard (mark marks.Arrow ∷ row_written c.clause.body rest))) ≡ Some (c, rest)
unfolding one_clause
one_clause_whole arity c rest is stops ends =
    ap (λ o. and_then o (λ f. and_then (row (read 256 Expression matches) f.1) (clause_found c.at f.0.0 f.0.1)))
    (front_whole c.clause.patterns c.clause.guard (row_written c.clause.body rest) is.are_patterns is.are_guards is.patterns_deep is.guards_deep) ∙
    ap (λ o. and_then o (clause_found c.at c.clause.patterns c.clause.guard))
    (row_whole (read 256) 256 (read_whole 256) Expression matches c.clause.body rest is.has_body is.is_body is.body_deep stops ends)

same_bytes : (name : List ℕ) → IsTrue (bytes_eq name name)
same_bytes name = (bytes_eq-Decides name name).1 refl

equal_numbers : (a b : ℕ) → a ≡ b → IsTrue (a == b)
equal_numbers a b is = search rules

abbrev like_then : ℕ → FunctionClause × List Terminal → Found FunctionClause
like_then arity d = if_same (tree_count d.0.clause.patterns == arity) d.0 d.1

clause_like_whole : (name : List ℕ) (arity : ℕ) (c : FunctionClause) (rest : List Terminal) → IsFunctionClause arity c → Stops matches rest →
    after Comma rest ≡ None → clause_like name arity (clause_written name c rest) ≡ Some (c, rest)
unfolding clause_like
clause_like_whole name arity c rest is stops ends =
    let text = mark marks.OpenParen ∷ row_written c.clause.patterns (mark marks.CloseParen ∷ guards_written c.clause.guard (mark marks.Arrow ∷ row_written c.clause.body rest)) in
    if_true (bytes_eq name name) (and_then (one_clause c.at text) (like_then arity)) (same_bytes name) ∙
    ap (λ o. and_then o (like_then arity)) (one_clause_whole arity c rest is stops ends) ∙
    ap (λ b. if_same b c rest) (equal_numbers (tree_count c.clause.patterns) arity is.has_arity)

stops_function : (name : List ℕ) (cs : List FunctionClause) (rest : List Terminal) → Stops matches (other_function_written name cs (dot ∷ rest))
stops_function name [] rest = record { quiet = refl; above = refl }
stops_function name (c ∷ cs) rest = stops_before Semicolon matches (clause_written name c (other_function_written name cs (dot ∷ rest)))

no_comma_function : (name : List ℕ) (cs : List FunctionClause) (rest : List Terminal) → after Comma (other_function_written name cs (dot ∷ rest)) ≡ None
no_comma_function name [] rest = refl
no_comma_function name (c ∷ cs) rest = refl

abbrev like_more : FunctionClause → List FunctionClause × List Terminal → Found (List FunctionClause)
like_more c ds = Some (c ∷ ds.0, ds.1)

clauses_like_whole : (k : ℕ) (name : List ℕ) (arity : ℕ) (cs : List FunctionClause) (rest : List Terminal) → AreClauses arity cs →
    length cs < k → clauses_like k name arity (other_function_written name cs (dot ∷ rest)) ≡ Some (cs, dot ∷ rest)
clauses_like_whole zero name arity cs rest are few = absurd (omega (arith, few))
clauses_like_whole (suc k) name arity [] rest are few = refl
clauses_like_whole (suc k) name arity (c ∷ cs) rest are few =
    ap (λ o. and_then o (λ d. and_then (clauses_like k name arity d.1) (like_more d.0)))
    (clause_like_whole name arity c (other_function_written name cs (dot ∷ rest)) are.0 (stops_function name cs rest) (no_comma_function name cs rest)) ∙
    ap (λ o. and_then o (like_more c)) (clauses_like_whole k name arity cs rest are.1 (omega (arith, few)))

-- No body begins with `receive`.

leaf_no_receive : (l : Leaf) (rest : List Terminal) → IsTrue (is_leaf l) → behind openings.Receive (leaf_written l rest) ≡ None
leaf_no_receive (leaves.Strings []) rest is = absurd (true≢false (sym is))
leaf_no_receive (leaves.Integer signs.Unsigned n) rest is = refl
leaf_no_receive (leaves.Integer signs.Plus n) rest is = refl
leaf_no_receive (leaves.Integer signs.Minus n) rest is = refl
leaf_no_receive (leaves.Atom named) rest is = refl
leaf_no_receive (leaves.Strings (s ∷ ss)) rest is = refl
leaf_no_receive (leaves.Variable name at) rest is = refl
leaf_no_receive (leaves.ModuleName at) rest is = refl

no_receive : (role : Role) (t : Tree) (rest : List Terminal) → IsWell role t → behind openings.Receive (written t rest) ≡ None
no_receive role (leaf l) rest is = leaf_no_receive l rest is
no_receive role (node (shapes.Infix op) none) rest is = absurd (omega (arith, two_parts (has_operator role op) 0 is.0))
no_receive role (node (shapes.Infix op) (more t us)) rest is =
    no_receive (first_role role (shapes.Infix op)) t (other_parts_written (shapes.Infix op) us rest) is.2.1
no_receive role (node shapes.Tuple us) rest is = refl
no_receive role (node shapes.List us) rest is = refl
no_receive role (node shapes.Cons us) rest is = refl
no_receive role (node shapes.Parenthesized us) rest is = refl
no_receive role (node shapes.Block us) rest is = refl
no_receive role (node (shapes.Local f) us) rest is = refl
no_receive role (node (shapes.Remote (qualifier.Module m) f) us) rest is = refl
no_receive role (node (shapes.Remote (qualifier.ModuleName at) f) us) rest is = refl
no_receive role (node (shapes.Prefix Negate) us) rest is = refl
no_receive role (node (shapes.Prefix Not) us) rest is = refl
no_receive role (case subject cs) rest is = refl

body_no_receive : (body : Trees) (rest : List Terminal) → 1 ≤ tree_count body → AreWell Expression matches body →
    behind openings.Receive (row_written body rest) ≡ None
body_no_receive none rest some well = absurd (omega (arith, some))
body_no_receive (more t us) rest some well = no_receive Expression t (others_written us rest) well.1

few_clauses : (name : List ℕ) (cs : List FunctionClause) (rest : List Terminal) → length cs ≤ length (other_function_written name cs rest)
few_clauses name [] rest = omega arith
few_clauses name (c ∷ cs) rest =
    let others = other_function_written name cs rest in
    let body = row_written c.clause.body others in
    let guards = guards_written c.clause.guard (mark marks.Arrow ∷ body) in
    omega (
      arith,
      few_clauses name cs rest,
      row_longer c.clause.body others,
      guards_longer c.clause.guard (mark marks.Arrow ∷ body),
      row_longer c.clause.patterns (mark marks.CloseParen ∷ guards),
    )

function_from_whole : (n : Named) (c : FunctionClause) (cs : List FunctionClause) (rest : List Terminal) →
    AreClauses (tree_count c.clause.patterns) cs →
    function_from n c (other_function_written n.name cs (dot ∷ rest)) ≡ Some (function_of n.name (c ∷ cs), rest)
unfolding function_from
function_from_whole n c cs rest are =
    let text = other_function_written n.name cs (dot ∷ rest) in
    ap (λ o. and_then o (rest_of_function n.name (c ∷ []))) (clauses_like_whole (suc (length text)) n.name (tree_count c.clause.patterns) cs rest are
    (omega (arith, few_clauses n.name cs (dot ∷ rest))))

with_count : (arity n : ℕ) (cs : List FunctionClause) → n ≡ arity → AreClauses arity cs → AreClauses n cs
with_count arity n cs same are = subst (λ k. AreClauses k cs) (sym same) are

abbrev by_front : Named → (Trees × Guards) × List Terminal → Found FormTree
by_front n f = function_by (behind openings.Receive f.1) n f.0.0 f.0.1 f.1

function_whole : (name : List ℕ) (arity : ℕ) (c : FunctionClause) (cs : List FunctionClause) (rest : List Terminal) →
    IsFunctionClause arity c → AreClauses arity cs → (n : Named) → n.name ≡ name → n.at ≡ c.at →
    function n (mark marks.OpenParen ∷ row_written c.clause.patterns (mark marks.CloseParen ∷ guards_written c.clause.guard (mark marks.Arrow ∷ row_written c.clause.body (other_function_written name cs (dot ∷ rest))))) ≡ Some (function_of name (c ∷ cs), rest)
unfolding function
function_whole name arity c cs rest is are n name_is at_is =
    let others = other_function_written name cs (dot ∷ rest) in
    let body = row_written c.clause.body others in
    ap (λ o. and_then o (by_front n)) (front_whole c.clause.patterns c.clause.guard body is.are_patterns is.are_guards is.patterns_deep is.guards_deep) ∙
    ap (λ o. function_by o n c.clause.patterns c.clause.guard body) (body_no_receive c.clause.body others is.has_body is.is_body) ∙
    ap (λ o. and_then o (λ b. function_from n (clause_of n.at c.clause.patterns c.clause.guard b.0) b.1))
    (row_whole (read 256) 256 (read_whole 256) Expression matches c.clause.body others is.has_body is.is_body is.body_deep
    (stops_function name cs rest) (no_comma_function name cs rest)) ∙
    ap (λ k. function_from n (clause_of k c.clause.patterns c.clause.guard c.clause.body) others) at_is ∙
    ap (λ m. function_from n c (other_function_written m cs (dot ∷ rest))) (sym name_is) ∙
    function_from_whole n c cs rest (with_count arity (tree_count c.clause.patterns) cs is.has_arity are) ∙
    ap (λ m. form_found (function_of m (c ∷ cs)) rest) name_is

looped_whole : (l : LoopTree) (rest : List Terminal) → IsLoop l →
    function l.name (mark marks.OpenParen ∷ row_written l.patterns (mark marks.CloseParen ∷ guards_written l.guard (mark marks.Arrow ∷ word words.Receive ∷ clauses_written l.receive (word words.End ∷ dot ∷ rest)))) ≡ Some (forms.Loop l, rest)
unfolding function looped
looped_whole l rest is =
    let text = clauses_written l.receive (word words.End ∷ dot ∷ rest) in
    ap (λ o. and_then o (by_front l.name)) (front_whole l.patterns l.guard (word words.Receive ∷ text) is.are_patterns is.are_guards is.patterns_deep is.guards_deep) ∙
    ap (λ o. and_then o (λ cs. and_then (behind openings.Dot cs.1) (loop_found l.name l.patterns l.guard cs.0)))
    (clauses_whole (read 255) 255 (read_whole 255) l.receive (dot ∷ rest) is.has_clauses is.are_clauses is.clauses_deep)

-- Forms

abbrev by_name : Named × List Terminal → Found FormTree
by_name n = by_attribute (attribute n.0.name) n.1

abbrev form_of : List Terminal → Found FormTree
form_of ts = form_by (behind openings.Minus ts) ts

function_forms : (name : List ℕ) (cs : List FunctionClause) (rest : List Terminal) → IsFunction cs →
    form_of (function_written name cs (dot ∷ rest)) ≡ Some (function_of name cs, rest)
function_forms name [] rest is = absurd (omega (arith, is.1))
function_forms name (c ∷ cs) rest is =
    let n : Named = record { name = name; at = c.at } in
    function_whole name is.0 c cs rest is.2.0 is.2.1 n refl refl

pub form_whole : (f : FormTree) (ts rest : List Terminal) → BeginsForm f ts rest → form ts ≡ Some (f, rest)
unfolding form
form_whole (forms.Export es) ts rest (export_form {at = at} range text) = ap form_of text ∙ exported_whole es rest range
form_whole (forms.Version _) ts rest (version_form {t = t} {at = at} well low deep is text) = ap form_of text ∙ versioned_whole t rest well low deep is
form_whole forms.Skipped ts rest (skipped_form {name = name} {at = at} {others = others} kind dotted text) = ap form_of text ∙
    ap (λ a. by_attribute a others) kind ∙ ap (λ o. and_then o (form_found forms.Skipped)) dotted
form_whole (forms.Function f) ts rest (function_form is text) = ap form_of text ∙ function_forms f.name f.clauses rest is
form_whole (forms.Loop l) ts rest (loop_form is text) = ap form_of text ∙ looped_whole l rest is
