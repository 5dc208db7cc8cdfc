-- Rows that are read in turns.
use Rattle.std.proofs.Common.{◌≡◌, ℕ, zero, suc, ◌+◌, ◌-◌, ◌<◌, ◌≤◌, ◌==◌, Bool, true, false, List, [], ◌∷◌, ◌++◌, length, Option, Some, None, ap, subst, sym, ◌∙◌, refl, arith, append_assoc, append-nil}
use Rattle.erl_scan.specs.declared.token.Spot.{Spot}
use Rattle.erl_ast.specs.declared.tree.SyntaxTree.{SyntaxTree}
use Rattle.erl_ast.specs.declared.form.Exported.{Exported}
use Rattle.erl_ast.specs.declared.form.FunctionClause.{FunctionClause}
use Rattle.erl_ast.specs.declared.form.FormTree.{FormTree}
use Rattle.erl_ast.specs.Terminal.{Terminal, integer, float, atom, word, variable, string, mark, dot, terminals}
use Rattle.erl_ast.specs.Forms.{after_dot}
use Rattle.erl_ast.specs.Tree.{tree_count}
use Rattle.erl_ast.specs.TreeForms.{trees}
use Rattle.erl_expressions.specs.declared.delimiter.Delimiter.TheVariants.{Comma, Semicolon}
use Rattle.erl_expressions.specs.Delimiters.{after}
use Rattle.erl_expressions.specs.Reading.{Found, and_then, separated, other_things}
use Rattle.erl_expressions.proofs.Rows.{trees_count}
use Rattle.erl_expressions.proofs.Strings.{terminals_length}
use Rattle.erl_expressions.proofs.Things.{things_more, things_last, things_not, things_out}
use Rattle.module_forms.specs.FormReading.{entry, some_entries, closed_entries, rest_of_entries, clause_like, clauses_like, more_by, ended, rest_of_function, function_from, form, all_forms, forms_from, forms_by, is_end, clause_of}
use Rattle.erl_ast.specs.declared.leaf.Named.{Named}

pub count_of : (ts : List SyntaxTree) → tree_count (trees ts) ≡ length ts
count_of ts = trees_count ts

-- Entries

same_then : {A B : Type 0} (o : Option A) (f g : A → Option B) → ((x : A) → f x ≡ g x) → and_then o f ≡ and_then o g
same_then None f g same = refl
same_then (Some x) f g same = same x

entries_same : (es : List Exported) (e : Exported) (f : List Exported × List Terminal) →
    rest_of_entries es (e ∷ f.0, f.1) ≡ rest_of_entries (es ++ e ∷ []) f
entries_same es e f = ap (λ xs. closed_entries xs f.1) (sym (append_assoc es (e ∷ []) f.0))

pub entries_begin : (ss : List Spot) →
    some_entries (terminals ss) ≡ and_then (separated Comma (length ss - 0) entry (terminals ss)) (rest_of_entries [])
unfolding some_entries
entries_begin ss = ap (λ k. and_then (separated Comma k entry (terminals ss)) (rest_of_entries []))
    {x = length (terminals ss)} {y = length ss - 0} (omega (arith, terminals_length ss))

module _ (n i : ℕ) (ts : List Terminal) (es : List Exported) where
  pub entries_more : (e : Exported) (rest more : List Terminal) → i < n → entry ts ≡ Some (e, rest) → after Comma rest ≡ Some more →
      and_then (separated Comma (n - i) entry ts) (rest_of_entries es) ≡
      and_then (separated Comma (n - (i + 1)) entry more) (rest_of_entries (es ++ e ∷ []))
  entries_more e rest more within found others =
      things_more Comma n i entry ts (rest_of_entries es) e rest more within found others ∙
      same_then (separated Comma (n - (i + 1)) entry more) (λ f. rest_of_entries es (e ∷ f.0, f.1)) (rest_of_entries (es ++ e ∷ []))
      (entries_same es e)

  pub entries_last : (e : Exported) (rest : List Terminal) → i < n → entry ts ≡ Some (e, rest) → after Comma rest ≡ None →
      and_then (separated Comma (n - i) entry ts) (rest_of_entries es) ≡ closed_entries (es ++ e ∷ []) rest
  entries_last e rest within found others = things_last Comma n i entry ts (rest_of_entries es) e rest within found others

  pub entries_not : i < n → entry ts ≡ None → and_then (separated Comma (n - i) entry ts) (rest_of_entries es) ≡ None
  entries_not within found = things_not Comma n i entry ts (rest_of_entries es) within found

  pub entries_out : n ≤ i → and_then (separated Comma (n - i) entry ts) (rest_of_entries es) ≡ None
  entries_out is = things_out Comma n i entry ts (rest_of_entries es) is

-- Clauses of a function

twice : {A B : Type 0} (o : Found (List A)) (x : A) (go : List A × List Terminal → Option B) →
    and_then (and_then o (λ g. Some (x ∷ g.0, g.1))) go ≡ and_then o (λ f. go (x ∷ f.0, f.1))
twice None x go = refl
twice (Some f) x go = refl

left : (n i : ℕ) → i < n → n - i ≡ suc (n - (i + 1))
left n i within = omega (arith, within)

clauses_same : (name : List ℕ) (cs : List FunctionClause) (c : FunctionClause) (f : List FunctionClause × List Terminal) →
    rest_of_function name cs (c ∷ f.0, f.1) ≡ rest_of_function name (cs ++ c ∷ []) f
clauses_same name cs c f = ap (λ xs. ended name xs f.1) (sym (append_assoc cs (c ∷ []) f.0))

pub clauses_begin : (n : Named) (c : FunctionClause) (ss : List Spot) (arity : ℕ) (cs : List FunctionClause) →
    arity ≡ tree_count c.clause.patterns → cs ≡ c ∷ [] →
    function_from n c (terminals ss) ≡
    and_then (clauses_like (length ss + 1 - 0) n.name arity (terminals ss)) (rest_of_function n.name cs)
unfolding function_from
clauses_begin n c ss arity cs is one =
    ap (λ k. and_then (clauses_like k n.name (tree_count c.clause.patterns) (terminals ss)) (rest_of_function n.name (c ∷ [])))
    {x = suc (length (terminals ss))} {y = length ss + 1 - 0} (omega (arith, terminals_length ss)) ∙
    ap (λ k. and_then (clauses_like (length ss + 1 - 0) n.name k (terminals ss)) (rest_of_function n.name (c ∷ []))) (sym is) ∙
    ap (λ ds. and_then (clauses_like (length ss + 1 - 0) n.name arity (terminals ss)) (rest_of_function n.name ds)) (sym one)

module _ (n i : ℕ) (name : List ℕ) (arity : ℕ) (ts : List Terminal) (cs : List FunctionClause) where
  pub clauses_more : (us : List Terminal) (c : FunctionClause) (rest : List Terminal) → i < n → after Semicolon ts ≡ Some us →
      clause_like name arity us ≡ Some (c, rest) →
      and_then (clauses_like (n - i) name arity ts) (rest_of_function name cs) ≡
      and_then (clauses_like (n - (i + 1)) name arity rest) (rest_of_function name (cs ++ c ∷ []))
  clauses_more us c rest within goes found =
      ap (λ k. and_then (clauses_like k name arity ts) (rest_of_function name cs)) (left n i within) ∙
      ap (λ o. and_then (more_by o ts (clause_like name arity) (clauses_like (n - (i + 1)) name arity)) (rest_of_function name cs)) goes ∙
      ap (λ o. and_then (and_then o (λ d. and_then (clauses_like (n - (i + 1)) name arity d.1) (λ ds. Some (d.0 ∷ ds.0, ds.1)))) (rest_of_function name cs)) found ∙
      twice (clauses_like (n - (i + 1)) name arity rest) c (rest_of_function name cs) ∙
      same_then (clauses_like (n - (i + 1)) name arity rest) (λ f. rest_of_function name cs (c ∷ f.0, f.1)) (rest_of_function name (cs ++ c ∷ []))
      (clauses_same name cs c)

  pub clauses_last : i < n → after Semicolon ts ≡ None →
      and_then (clauses_like (n - i) name arity ts) (rest_of_function name cs) ≡ ended name cs ts
  clauses_last within ends =
      ap (λ k. and_then (clauses_like k name arity ts) (rest_of_function name cs)) (left n i within) ∙
      ap (λ o. and_then (more_by o ts (clause_like name arity) (clauses_like (n - (i + 1)) name arity)) (rest_of_function name cs)) ends ∙
      ap (λ xs. ended name xs ts) (append-nil cs)

  pub clauses_not : (us : List Terminal) → i < n → after Semicolon ts ≡ Some us → clause_like name arity us ≡ None →
      and_then (clauses_like (n - i) name arity ts) (rest_of_function name cs) ≡ None
  clauses_not us within goes found =
      ap (λ k. and_then (clauses_like k name arity ts) (rest_of_function name cs)) (left n i within) ∙
      ap (λ o. and_then (more_by o ts (clause_like name arity) (clauses_like (n - (i + 1)) name arity)) (rest_of_function name cs)) goes ∙
      ap (λ o. and_then (and_then o (λ d. and_then (clauses_like (n - (i + 1)) name arity d.1) (λ ds. Some (d.0 ∷ ds.0, ds.1)))) (rest_of_function name cs)) found

  pub clauses_out : n ≤ i → and_then (clauses_like (n - i) name arity ts) (rest_of_function name cs) ≡ None
  clauses_out is = ap (λ k. and_then (clauses_like k name arity ts) (rest_of_function name cs)) {x = n - i} {y = zero} (omega (arith, is))

-- Forms

pub forms_begin : (ss : List Spot) → all_forms (terminals ss) ≡ forms_from (length ss + 1 - 0) [] (terminals ss)
unfolding all_forms
forms_begin ss = ap (λ k. forms_from k [] (terminals ss)) {x = suc (length (terminals ss))} {y = length ss + 1 - 0}
    (omega (arith, terminals_length ss))

module _ (n i : ℕ) (fs : List FormTree) (ts : List Terminal) where
  pub forms_end : i < n → is_end ts ≡ true → forms_from (n - i) fs ts ≡ Some fs
  forms_end within ends = ap (λ k. forms_from k fs ts) (left n i within) ∙
      ap (λ b. forms_by b fs (form ts) (forms_from (n - (i + 1)))) ends

  pub forms_next : (f : FormTree) (rest : List Terminal) → i < n → is_end ts ≡ false → form ts ≡ Some (f, rest) →
      forms_from (n - i) fs ts ≡ forms_from (n - (i + 1)) (fs ++ f ∷ []) rest
  forms_next f rest within goes found = ap (λ k. forms_from k fs ts) (left n i within) ∙
      ap (λ b. forms_by b fs (form ts) (forms_from (n - (i + 1)))) goes ∙
      ap (λ o. and_then o (λ g. forms_from (n - (i + 1)) (fs ++ g.0 ∷ []) g.1)) found

  pub forms_not : i < n → is_end ts ≡ false → form ts ≡ None → forms_from (n - i) fs ts ≡ None
  forms_not within goes found = ap (λ k. forms_from k fs ts) (left n i within) ∙
      ap (λ b. forms_by b fs (form ts) (forms_from (n - (i + 1)))) goes ∙
      ap (λ o. and_then o (λ g. forms_from (n - (i + 1)) (fs ++ g.0 ∷ []) g.1)) found

  pub forms_out : n ≤ i → forms_from (n - i) fs ts ≡ None
  forms_out is = ap (λ k. forms_from k fs ts) {x = n - i} {y = zero} (omega (arith, is))
