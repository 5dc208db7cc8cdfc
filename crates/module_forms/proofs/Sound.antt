-- What is read as a form is written as that form.
use Rattle.std.proofs.Common.{◌≡◌, ℕ, zero, suc, ◌+◌, ◌-◌, ◌<◌, ◌≤◌, ◌==◌, nat_le, Bool, true, false, ◌&&◌, if◌then◌else◌, IsTrue, List, [], ◌∷◌, ◌++◌, length, codes, Option, Some, None, ap, subst, sym, ◌∙◌, refl, arith, rules, true≢false, append_assoc, append-nil}
use Rattle.std.proofs.lemmas.Option.{none-some, same_Some}
use Rattle.std.proofs.lemmas.Slice.Eq.{bytes_eq-Decides}
use Rattle.std.specs.Str.{bytes_eq}
use Rattle.erl_scan.specs.declared.mark.Mark.TheVariants as marks
use Rattle.erl_scan.specs.declared.word.Word.TheVariants as words
use Rattle.erl_ast.specs.declared.leaf.Named.{Named}
use Rattle.erl_ast.specs.declared.role.Role.TheVariants.{Expression, Pattern}
use Rattle.erl_ast.specs.declared.form.Exported.{Exported}
use Rattle.erl_ast.specs.declared.form.FunctionClause.{FunctionClause}
use Rattle.erl_ast.specs.declared.form.FormTree.{FormTree}
use Rattle.erl_ast.specs.declared.form.FormTree.TheVariants as forms
use Rattle.erl_ast.specs.declared.form.ModuleTree.{ModuleTree}
use Rattle.erl_ast.specs.Terminal.{Terminal, integer, float, atom, word, variable, string, mark, dot}
use Rattle.erl_ast.specs.Tree.{Tree, Trees, Guards, Clauses, none, more, tree_count, trees_depth, guards_depth}
use Rattle.erl_ast.specs.Grammar.{matches, AreWell, AreWellGuards}
use Rattle.erl_ast.specs.Written.{written, row_written, guards_written, clauses_written}
use Rattle.erl_ast.specs.Forms.{Attribute, module_name, export, version, unsupported, skipped, attribute, is_among, unsupported_names, is_term, after_dot, are_arities, entry_written, entries_written, other_entries_written, head_written, clause_written, function_written, other_function_written, IsFunctionClause, AreClauses, IsFunction, IsLoop, loop_written, attribute_written, module_written, BeginsForm, export_form, version_form, skipped_form, function_form, loop_form, AreForms, IsModule}
use Rattle.erl_expressions.specs.declared.delimiter.Delimiter.TheVariants.{Comma, Semicolon, Arrow, CloseParen, CloseBracket}
use Rattle.erl_expressions.specs.Delimiters.{after}
use Rattle.erl_expressions.specs.Reading.{Found, and_then, separated, parts, guarded, row, clauses_to_end, read}
use Rattle.erl_expressions.proofs.Inversion.{inverts, if_some, both, after_is}
use Rattle.erl_expressions.proofs.Sound.{read_sound}
use Rattle.erl_expressions.proofs.SoundRows.{Things, only, then_more, things_sound, row_sound}
use Rattle.erl_expressions.proofs.SoundClauses.{guarded_sound, clauses_sound}
use Rattle.erl_expressions.proofs.SoundNodes.{AreParts, parts_sound}
use Rattle.module_forms.specs.declared.opening.Opening.{Opening}
use Rattle.module_forms.specs.declared.opening.Opening.TheVariants as openings
use Rattle.module_forms.specs.Openings.{opening, is_opening, behind}
use Rattle.module_forms.specs.FormReading.{named_ahead, closed_form, arity_ahead, entry, closed_entries, rest_of_entries, some_entries, entries_by, exported, version_form as version_read, versioned, head, front, clause_of, one_clause, if_same, clause_like, more_by, clauses_like, ended, rest_of_function, function_from, looped, function_by, function, by_attribute, form_by, form, is_end, forms_by, forms_from, all_forms, if_module, module_head, whole_module}

opening_is : (o : Opening) (t : Terminal) → is_opening o t ≡ true → t ≡ opening o
opening_is openings.Minus (mark marks.Minus) is = refl
opening_is openings.OpenParen (mark marks.OpenParen) is = refl
opening_is openings.OpenBracket (mark marks.OpenBracket) is = refl
opening_is openings.Slash (mark marks.Divide) is = refl
opening_is openings.Receive (word words.Receive) is = refl
opening_is openings.Dot dot is = refl
opening_is _ _ is = absurd (true≢false (sym is))

pub behind_is : (o : Opening) (ts rest : List Terminal) → behind o ts ≡ Some rest → ts ≡ opening o ∷ rest
behind_is o [] rest is = absurd (none-some rest is)
behind_is o (t ∷ ts) rest is =
    let found = if_some (is_opening o t) (Some ts) rest is in
    λ i. opening_is o t found.0 i ∷ same_Some ts rest found.1 i

pub named_is : (ts : List Terminal) (n : Named) (rest : List Terminal) → named_ahead ts ≡ Some (n, rest) → ts ≡ atom n.name n.at ∷ rest
named_is (atom name at ∷ ts) n rest is =
    let it : Named = record { name = name; at = at } in
    ap (λ f. atom f.0.name f.0.at ∷ f.1) (same_Some {A = Named × List Terminal} (it, ts) (n, rest) is)
named_is [] n rest is = absurd (none-some (n, rest) is)
named_is (_ ∷ ts) n rest is = absurd (none-some (n, rest) is)

pub closed_is : (ts rest : List Terminal) → closed_form ts ≡ Some rest → ts ≡ mark marks.CloseParen ∷ dot ∷ rest
closed_is ts rest is =
    let a = inverts (after CloseParen ts) (λ us. behind openings.Dot us) rest is in
    after_is CloseParen ts a.0 a.1 ∙ ap (λ us. mark marks.CloseParen ∷ us) (behind_is openings.Dot a.0 rest a.2)

-- Exports

record IsEntry (ts : List Terminal) (e : Exported) (rest : List Terminal) : Type 0 where
  pub is_written : ts ≡ entry_written e rest
  pub is_arity : IsTrue (nat_le e.arity 9223372036854775807)

arity_sound : (n : Named) (ts us : List Terminal) → ts ≡ atom n.name n.at ∷ mark marks.Divide ∷ us → (e : Exported) (rest : List Terminal) →
    arity_ahead n us ≡ Some (e, rest) → IsEntry ts e rest
arity_sound n ts (integer k ∷ us) text e rest is =
    let it : Exported = record { function = n; arity = k } in
    let found = if_some (nat_le k 9223372036854775807) (Some (it, us)) (e, rest) is in
    subst (λ f. IsEntry ts f.0 f.1) (same_Some {A = Exported × List Terminal} (it, us) (e, rest) found.1)
    (record { is_written = text; is_arity = found.0 })
arity_sound n ts [] text e rest is = absurd (none-some (e, rest) is)
arity_sound n ts (_ ∷ us) text e rest is = absurd (none-some (e, rest) is)

entry_sound : (ts : List Terminal) (e : Exported) (rest : List Terminal) → entry ts ≡ Some (e, rest) → IsEntry ts e rest
unfolding entry
entry_sound ts e rest is =
    let n = inverts (named_ahead ts) (λ n. and_then (behind openings.Slash n.1) (λ us. arity_ahead n.0 us)) (e, rest) is in
    let s = inverts (behind openings.Slash n.0.1) (λ us. arity_ahead n.0.0 us) (e, rest) n.2 in
    arity_sound n.0.0 ts s.0 (named_is ts n.0.0 n.0.1 n.1 ∙ ap (λ us. atom n.0.0.name n.0.0.at ∷ us) (behind_is openings.Slash n.0.1 s.0 s.1)) e rest s.2

record AreEntries (ts : List Terminal) (es : List Exported) (rest : List Terminal) : Type 0 where
  pub are_written : ts ≡ entries_written es rest
  pub are_others : mark marks.Comma ∷ ts ≡ other_entries_written es rest
  pub are_in_range : IsTrue (are_arities es)

and_true : (a b : Bool) → IsTrue a → IsTrue b → IsTrue (a && b)
and_true true b one two = two
and_true false b one two = one

entries_sound : {ts : List Terminal} {es : List Exported} {rest : List Terminal} → Things Comma IsEntry ts es rest → AreEntries ts es rest
entries_sound (only {x = e} first) = record {
  are_written = first.is_written;
  are_others = ap (λ us. mark marks.Comma ∷ us) first.is_written;
  are_in_range = and_true (nat_le e.arity 9223372036854775807) true first.is_arity refl;
}
entries_sound (then_more {x = e} {xs = es} first things) =
    let others = entries_sound things in
    let text = first.is_written ∙ ap (λ us. entry_written e us) others.are_others in
    record {
      are_written = text;
      are_others = ap (λ us. mark marks.Comma ∷ us) text;
      are_in_range = and_true (nat_le e.arity 9223372036854775807) (are_arities es) first.is_arity others.are_in_range;
    }

record AreListed (ts : List Terminal) (es : List Exported) (rest : List Terminal) : Type 0 where
  pub are_written : ts ≡ entries_written es (mark marks.CloseBracket ∷ rest)
  pub are_in_range : IsTrue (are_arities es)

some_entries_sound : (ts : List Terminal) (es : List Exported) (rest : List Terminal) → some_entries ts ≡ Some (es, rest) → AreListed ts es rest
unfolding some_entries
some_entries_sound ts es rest is =
    let f = inverts (separated Comma (length ts) entry ts) (rest_of_entries []) (es, rest) is in
    let c = inverts (after CloseBracket f.0.1) (λ us. Some (f.0.0, us)) (es, rest) f.2 in
    let there = entries_sound (things_sound Comma entry IsEntry entry_sound (length ts) ts f.0.0 f.0.1 f.1) in
    subst (λ g. AreListed ts g.0 g.1) (same_Some {A = List Exported × List Terminal} (f.0.0, c.0) (es, rest) c.2)
    (record {
      are_written = there.are_written ∙ ap (λ us. entries_written f.0.0 us) (after_is CloseBracket f.0.1 c.0 c.1);
      are_in_range = there.are_in_range;
    })

entries_by_sound : (ts : List Terminal) (o : Option (List Terminal)) → after CloseBracket ts ≡ o → (es : List Exported) (rest : List Terminal) →
    entries_by o ts ≡ Some (es, rest) → AreListed ts es rest
entries_by_sound ts (Some us) ends es rest is =
    subst (λ g. AreListed ts g.0 g.1) (same_Some {A = List Exported × List Terminal} ([], us) (es, rest) is)
    (record { are_written = after_is CloseBracket ts us ends; are_in_range = refl })
entries_by_sound ts None ends es rest is = some_entries_sound ts es rest is

exported_sound : (at : ℕ) (ts : List Terminal) (f : FormTree) (rest : List Terminal) → exported ts ≡ Some (f, rest) →
    BeginsForm f (attribute_written (codes "export") at ts) rest
unfolding exported
exported_sound at ts f rest is =
    let a = inverts (behind openings.OpenParen ts) (λ a. and_then (behind openings.OpenBracket a) (λ b. and_then (entries_by (after CloseBracket b) b) (λ g. and_then (closed_form g.1) (λ us. Some (forms.Export g.0, us))))) (f, rest) is in
    let b = inverts (behind openings.OpenBracket a.0) (λ b. and_then (entries_by (after CloseBracket b) b) (λ g. and_then (closed_form g.1) (λ us. Some (forms.Export g.0, us)))) (f, rest) a.2 in
    let e = inverts (entries_by (after CloseBracket b.0) b.0) (λ g. and_then (closed_form g.1) (λ us. Some (forms.Export g.0, us))) (f, rest) b.2 in
    let c = inverts (closed_form e.0.1) (λ us. Some (forms.Export e.0.0, us)) (f, rest) e.2 in
    let listed = entries_by_sound b.0 (after CloseBracket b.0) refl e.0.0 e.0.1 e.1 in
    subst (λ g. BeginsForm g.0 (attribute_written (codes "export") at ts) g.1)
    (same_Some {A = FormTree × List Terminal} (forms.Export e.0.0, c.0) (f, rest) c.2)
    (export_form {at = at} listed.are_in_range (ap (λ us. attribute_written (codes "export") at us)
    (behind_is openings.OpenParen ts a.0 a.1 ∙ ap (λ us. mark marks.OpenParen ∷ us)
    (behind_is openings.OpenBracket a.0 b.0 b.1 ∙ ap (λ us. mark marks.OpenBracket ∷ us)
    (listed.are_written ∙ ap (λ us. entries_written e.0.0 (mark marks.CloseBracket ∷ us)) (closed_is e.0.1 c.0 c.1))))))

versioned_sound : (at : ℕ) (ts : List Terminal) (f : FormTree) (rest : List Terminal) → versioned ts ≡ Some (f, rest) →
    BeginsForm f (attribute_written (codes "vsn") at ts) rest
unfolding versioned
versioned_sound at ts f rest is =
    let a = inverts (behind openings.OpenParen ts) (λ a. and_then (read 256 Pattern matches a) (λ g. version_read g.0 g.1)) (f, rest) is in
    let t = inverts (read 256 Pattern matches a.0) (λ g. version_read g.0 g.1) (f, rest) a.2 in
    let term = if_some (is_term t.0.0) (and_then (closed_form t.0.1) (λ us. Some (forms.Version (more t.0.0 none), us))) (f, rest) t.2 in
    let c = inverts (closed_form t.0.1) (λ us. Some (forms.Version (more t.0.0 none), us)) (f, rest) term.1 in
    let there = read_sound 256 Pattern matches a.0 t.0.0 t.0.1 (omega arith) t.1 in
    subst (λ g. BeginsForm g.0 (attribute_written (codes "vsn") at ts) g.1)
    (same_Some {A = FormTree × List Terminal} (forms.Version (more t.0.0 none), c.0) (f, rest) c.2)
    (version_form {at = at} there.is_well there.is_level there.is_deep term.0 (ap (λ us. attribute_written (codes "vsn") at us)
    (behind_is openings.OpenParen ts a.0 a.1 ∙ ap (λ us. mark marks.OpenParen ∷ us)
    (there.is_written ∙ ap (λ us. written t.0.0 us) (closed_is t.0.1 c.0 c.1)))))

-- Functions

-- patterns, a guard sequence and an arrow, behind a name
record IsFront (ts : List Terminal) (ps : Trees) (gs : Guards) (rest : List Terminal) : Type 0 where
  pub is_written : ts ≡ mark marks.OpenParen ∷ row_written ps (mark marks.CloseParen ∷ guards_written gs (mark marks.Arrow ∷ rest))
  pub are_patterns : AreWell Pattern matches ps
  pub are_guards : AreWellGuards gs
  pub patterns_deep : trees_depth ps ≤ 256
  pub guards_deep : guards_depth gs ≤ 256

abbrev pub front_found : Trees → Guards → List Terminal → Found (Trees × Guards)
front_found ps gs us = Some ((ps, gs), us)

abbrev pub clause_found : ℕ → Trees → Guards → Trees × List Terminal → Found FunctionClause
clause_found at ps gs b = Some (clause_of at ps gs b.0, b.1)

abbrev like_found : FunctionClause → List Terminal → Found FunctionClause
like_found c ts = Some (c, ts)

front_sound : (ts : List Terminal) (ps : Trees) (gs : Guards) (rest : List Terminal) → front ts ≡ Some ((ps, gs), rest) → IsFront ts ps gs rest
unfolding front
front_sound ts ps gs rest is =
    let f = inverts (head ts) (λ f. and_then (guarded (read 256) f.1) (λ g. and_then (after Arrow g.1) (front_found f.0 g.0))) ((ps, gs), rest) is in
    let o = inverts (behind openings.OpenParen ts) (λ a. parts (read 256 Pattern matches) CloseParen a) f.0 f.1 in
    let g = inverts (guarded (read 256) f.0.1) (λ g. and_then (after Arrow g.1) (front_found f.0.0 g.0)) ((ps, gs), rest) f.2 in
    let a = inverts (after Arrow g.0.1) (front_found f.0.0 g.0.0) ((ps, gs), rest) g.2 in
    let patterns = parts_sound (read 256) 256 (read_sound 256) Pattern matches (omega arith) CloseParen o.0 f.0.0 f.0.1 o.2 in
    let guards = guarded_sound (read 256) 256 (read_sound 256) f.0.1 g.0.0 g.0.1 g.1 in
    subst (λ h. IsFront ts h.0.0 h.0.1 h.1)
    (same_Some {A = (Trees × Guards) × List Terminal} ((f.0.0, g.0.0), a.0) ((ps, gs), rest) a.2)
    (record {
      is_written = behind_is openings.OpenParen ts o.0 o.1 ∙ ap (λ us. mark marks.OpenParen ∷ us)
          (patterns.are_written ∙ ap (λ us. row_written f.0.0 (mark marks.CloseParen ∷ us))
          (guards.are_written ∙ ap (λ us. guards_written g.0.0 us) (after_is Arrow g.0.1 a.0 a.1)));
      are_patterns = patterns.are_well;
      are_guards = guards.are_well;
      patterns_deep = patterns.are_deep;
      guards_deep = guards.are_deep;
    })

-- a clause behind its name
record IsClauseBehind (at : ℕ) (ts : List Terminal) (c : FunctionClause) (rest : List Terminal) : Type 0 where
  pub is_written : (name : List ℕ) → atom name at ∷ ts ≡ clause_written name c rest
  pub is_clause : IsFunctionClause (tree_count c.clause.patterns) c
  pub is_at : c.at ≡ at

clause_from : (at : ℕ) (ts : List Terminal) (ps : Trees) (gs : Guards) (us : List Terminal) → IsFront ts ps gs us →
    (body : Trees) (left : List Terminal) → row (read 256 Expression matches) us ≡ Some (body, left) →
    (c : FunctionClause) (rest : List Terminal) → clause_found at ps gs (body, left) ≡ Some (c, rest) → IsClauseBehind at ts c rest
clause_from at ts ps gs us there body left is c rest same =
    let read_body = row_sound (read 256) 256 (read_sound 256) Expression matches (omega arith) us body left is in
    subst (λ h. IsClauseBehind at ts h.0 h.1) (same_Some {A = FunctionClause × List Terminal} (clause_of at ps gs body, left) (c, rest) same)
    (record {
      is_written = λ name. ap (λ vs. atom name at ∷ vs) (there.is_written ∙
          ap (λ vs. mark marks.OpenParen ∷ row_written ps (mark marks.CloseParen ∷ guards_written gs (mark marks.Arrow ∷ vs))) read_body.is_written);
      is_clause = record {
        has_arity = refl;
        are_patterns = there.are_patterns;
        are_guards = there.are_guards;
        has_body = read_body.is_some;
        is_body = read_body.are_well;
        patterns_deep = there.patterns_deep;
        guards_deep = there.guards_deep;
        body_deep = read_body.are_deep;
      };
      is_at = refl;
    })

one_clause_sound : (at : ℕ) (ts : List Terminal) (c : FunctionClause) (rest : List Terminal) → one_clause at ts ≡ Some (c, rest) →
    IsClauseBehind at ts c rest
unfolding one_clause
one_clause_sound at ts c rest is =
    let f = inverts (front ts) (λ f. and_then (row (read 256 Expression matches) f.1) (clause_found at f.0.0 f.0.1)) (c, rest) is in
    let b = inverts (row (read 256 Expression matches) f.0.1) (clause_found at f.0.0.0 f.0.0.1) (c, rest) f.2 in
    let there = front_sound ts f.0.0.0 f.0.0.1 f.0.1 f.1 in
    clause_from at ts f.0.0.0 f.0.0.1 f.0.1 there b.0.0 b.0.1 b.1 c rest b.2

record IsLike (name : List ℕ) (arity : ℕ) (ts : List Terminal) (c : FunctionClause) (rest : List Terminal) : Type 0 where
  pub is_written : ts ≡ clause_written name c rest
  pub is_clause : IsFunctionClause arity c

same_number : (a b : ℕ) → IsTrue (a == b) → a ≡ b
same_number a b is = search rules

if_same_is : (b : Bool) (c : FunctionClause) (ts : List Terminal) (d : FunctionClause) (rest : List Terminal) →
    if_same b c ts ≡ Some (d, rest) → IsTrue b × (like_found c ts ≡ like_found d rest)
if_same_is true c ts d rest is = (refl, is)
if_same_is false c ts d rest is = absurd (none-some (d, rest) is)

with_arity : (n arity : ℕ) (c : FunctionClause) → n ≡ arity → IsFunctionClause n c → IsFunctionClause arity c
with_arity n arity c same is = subst (λ k. IsFunctionClause k c) same is

clause_like_sound : (name : List ℕ) (arity : ℕ) (ts : List Terminal) (c : FunctionClause) (rest : List Terminal) →
    clause_like name arity ts ≡ Some (c, rest) → IsLike name arity ts c rest
unfolding clause_like
clause_like_sound name arity ts c rest is =
    let n = inverts (named_ahead ts) (λ n. if bytes_eq n.0.name name then and_then (one_clause n.0.at n.1) (λ d. if_same (tree_count d.0.clause.patterns == arity) d.0 d.1) else None) (c, rest) is in
    let named = if_some (bytes_eq n.0.0.name name) (and_then (one_clause n.0.0.at n.0.1) (λ d. if_same (tree_count d.0.clause.patterns == arity) d.0 d.1)) (c, rest) n.2 in
    let d = inverts (one_clause n.0.0.at n.0.1) (λ d. if_same (tree_count d.0.clause.patterns == arity) d.0 d.1) (c, rest) named.1 in
    let same = if_same_is (tree_count d.0.0.clause.patterns == arity) d.0.0 d.0.1 c rest d.2 in
    let there = one_clause_sound n.0.0.at n.0.1 d.0.0 d.0.1 d.1 in
    let name_is = (bytes_eq-Decides n.0.0.name name).0 named.0 in
    subst (λ h. IsLike name arity ts h.0 h.1) (same_Some {A = FunctionClause × List Terminal} (d.0.0, d.0.1) (c, rest) same.1)
    (record {
      is_written = named_is ts n.0.0 n.0.1 n.1 ∙ ap (λ m. atom m n.0.0.at ∷ n.0.1) name_is ∙ there.is_written name;
      is_clause = with_arity (tree_count d.0.0.clause.patterns) arity d.0.0 (same_number (tree_count d.0.0.clause.patterns) arity same.0) there.is_clause;
    })

record AreLike (name : List ℕ) (arity : ℕ) (ts : List Terminal) (cs : List FunctionClause) (rest : List Terminal) : Type 0 where
  pub are_written : ts ≡ other_function_written name cs rest
  pub are_clauses : AreClauses arity cs

more_by_sound : (name : List ℕ) (arity : ℕ) (others : List Terminal → Found (List FunctionClause))
    (goes : (us : List Terminal) (cs : List FunctionClause) (rest : List Terminal) → others us ≡ Some (cs, rest) → AreLike name arity us cs rest)
    (ts : List Terminal) (o : Option (List Terminal)) → after Semicolon ts ≡ o → (cs : List FunctionClause) (rest : List Terminal) →
    more_by o ts (clause_like name arity) others ≡ Some (cs, rest) → AreLike name arity ts cs rest
more_by_sound name arity others goes ts None ends cs rest is =
    subst (λ h. AreLike name arity ts h.0 h.1) (same_Some {A = List FunctionClause × List Terminal} ([], ts) (cs, rest) is)
    (record { are_written = refl; are_clauses = tt })
more_by_sound name arity others goes ts (Some us) begins cs rest is =
    let c = inverts (clause_like name arity us) (λ c. and_then (others c.1) (λ ds. Some (c.0 ∷ ds.0, ds.1))) (cs, rest) is in
    let ds = inverts (others c.0.1) (λ ds. Some (c.0.0 ∷ ds.0, ds.1)) (cs, rest) c.2 in
    let first = clause_like_sound name arity us c.0.0 c.0.1 c.1 in
    let behind_it = goes c.0.1 ds.0.0 ds.0.1 ds.1 in
    subst (λ h. AreLike name arity ts h.0 h.1) (same_Some {A = List FunctionClause × List Terminal} (c.0.0 ∷ ds.0.0, ds.0.1) (cs, rest) ds.2)
    (record {
      are_written = after_is Semicolon ts us begins ∙ ap (λ vs. mark marks.Semicolon ∷ vs)
          (first.is_written ∙ ap (λ vs. clause_written name c.0.0 vs) behind_it.are_written);
      are_clauses = (first.is_clause, behind_it.are_clauses);
    })

clauses_like_sound : (k : ℕ) (name : List ℕ) (arity : ℕ) (ts : List Terminal) (cs : List FunctionClause) (rest : List Terminal) →
    clauses_like k name arity ts ≡ Some (cs, rest) → AreLike name arity ts cs rest
clauses_like_sound zero name arity ts cs rest is = absurd (none-some (cs, rest) is)
clauses_like_sound (suc k) name arity ts cs rest is =
    more_by_sound name arity (clauses_like k name arity) (clauses_like_sound k name arity) ts (after Semicolon ts) refl cs rest is

abbrev pub function_of : List ℕ → List FunctionClause → FormTree
function_of name cs = forms.Function (record { name = name; clauses = cs })

abbrev pub function_found : List ℕ → List FunctionClause → List Terminal → Found FormTree
function_found name cs us = Some (function_of name cs, us)

abbrev pub loop_of : Named → Trees → Guards → Clauses → FormTree
loop_of n ps gs cs = forms.Loop (record { name = n; patterns = ps; guard = gs; receive = cs })

abbrev pub loop_found : Named → Trees → Guards → Clauses → List Terminal → Found FormTree
loop_found n ps gs cs us = Some (loop_of n ps gs cs, us)

abbrev skip_found : FormTree → List Terminal → Found FormTree
skip_found f us = Some (f, us)

-- the names of attributes that are used

abbrev kind_number : Attribute → ℕ
kind_number module_name = 0
kind_number export = 1
kind_number version = 2
kind_number unsupported = 3
kind_number skipped = 4

abbrev attribute_by : (m e v u : Bool) → Attribute
attribute_by m e v u = if m then module_name else (if e then export else (if v then version else (if u then unsupported else skipped)))

names_export : (m e v u : Bool) → attribute_by m e v u ≡ export → IsTrue e
names_export true e v u is = absurd (omega (arith, ap kind_number is))
names_export false true v u is = refl
names_export false false true u is = absurd (omega (arith, ap kind_number is))
names_export false false false true is = absurd (omega (arith, ap kind_number is))
names_export false false false false is = absurd (omega (arith, ap kind_number is))

names_version : (m e v u : Bool) → attribute_by m e v u ≡ version → IsTrue v
names_version true e v u is = absurd (omega (arith, ap kind_number is))
names_version false true v u is = absurd (omega (arith, ap kind_number is))
names_version false false true u is = refl
names_version false false false true is = absurd (omega (arith, ap kind_number is))
names_version false false false false is = absurd (omega (arith, ap kind_number is))

is_export : (name : List ℕ) → attribute name ≡ export → name ≡ codes "export"
is_export name is = (bytes_eq-Decides name (codes "export")).0 (names_export (bytes_eq name (codes "module")) (bytes_eq name (codes "export"))
    (bytes_eq name (codes "vsn")) (is_among unsupported_names name) is)

is_version : (name : List ℕ) → attribute name ≡ version → name ≡ codes "vsn"
is_version name is = (bytes_eq-Decides name (codes "vsn")).0 (names_version (bytes_eq name (codes "module")) (bytes_eq name (codes "export"))
    (bytes_eq name (codes "vsn")) (is_among unsupported_names name) is)

function_from_sound : (n : Named) (c : FunctionClause) (us ts : List Terminal) → IsClauseBehind n.at us c ts → (f : FormTree) (rest : List Terminal) →
    function_from n c ts ≡ Some (f, rest) → BeginsForm f (atom n.name n.at ∷ us) rest
unfolding function_from
function_from_sound n c us ts first f rest is =
    let cs = inverts (clauses_like (suc (length ts)) n.name (tree_count c.clause.patterns) ts) (rest_of_function n.name (c ∷ [])) (f, rest) is in
    let d = inverts (behind openings.Dot cs.0.1) (function_found n.name (c ∷ cs.0.0)) (f, rest) cs.2 in
    let others = clauses_like_sound (suc (length ts)) n.name (tree_count c.clause.patterns) ts cs.0.0 cs.0.1 cs.1 in
    subst (λ h. BeginsForm h.0 (atom n.name n.at ∷ us) h.1) (same_Some {A = FormTree × List Terminal} (function_of n.name (c ∷ cs.0.0), d.0) (f, rest) d.2)
    (function_form (tree_count c.clause.patterns, omega arith, (first.is_clause, others.are_clauses))
    (first.is_written n.name ∙ ap (λ vs. clause_written n.name c vs)
    (others.are_written ∙ ap (λ vs. other_function_written n.name cs.0.0 vs) (behind_is openings.Dot cs.0.1 d.0 d.1))))

looped_sound : (n : Named) (ps : Trees) (gs : Guards) (us ts : List Terminal) →
    IsFront us ps gs (word words.Receive ∷ ts) → (f : FormTree) (rest : List Terminal) →
    looped n ps gs ts ≡ Some (f, rest) → BeginsForm f (atom n.name n.at ∷ us) rest
unfolding looped
looped_sound n ps gs us ts there f rest is =
    let cs = inverts (clauses_to_end (read 255) ts) (λ cs. and_then (behind openings.Dot cs.1) (loop_found n ps gs cs.0)) (f, rest) is in
    let d = inverts (behind openings.Dot cs.0.1) (loop_found n ps gs cs.0.0) (f, rest) cs.2 in
    let clauses = clauses_sound (read 255) 255 (read_sound 255) ts cs.0.0 cs.0.1 cs.1 in
    subst (λ h. BeginsForm h.0 (atom n.name n.at ∷ us) h.1) (same_Some {A = FormTree × List Terminal} (loop_of n ps gs cs.0.0, d.0) (f, rest) d.2)
    (loop_form (record {
      are_patterns = there.are_patterns;
      are_guards = there.are_guards;
      has_clauses = clauses.are_some;
      are_clauses = clauses.are_well;
      patterns_deep = there.patterns_deep;
      guards_deep = there.guards_deep;
      clauses_deep = clauses.are_deep;
    }) (ap (λ vs. atom n.name n.at ∷ vs) (there.is_written ∙
    ap (λ vs. mark marks.OpenParen ∷ row_written ps (mark marks.CloseParen ∷ guards_written gs (mark marks.Arrow ∷ word words.Receive ∷ vs)))
    (clauses.are_written ∙ ap (λ vs. clauses_written cs.0.0 (word words.End ∷ vs)) (behind_is openings.Dot cs.0.1 d.0 d.1)))))

function_by_sound : (n : Named) (ps : Trees) (gs : Guards) (us ts : List Terminal) → IsFront us ps gs ts →
    (o : Option (List Terminal)) → behind openings.Receive ts ≡ o → (f : FormTree) (rest : List Terminal) →
    function_by o n ps gs ts ≡ Some (f, rest) → BeginsForm f (atom n.name n.at ∷ us) rest
function_by_sound n ps gs us ts there (Some vs) begins f rest is =
    looped_sound n ps gs us vs (subst (λ ws. IsFront us ps gs ws) (behind_is openings.Receive ts vs begins) there) f rest is
function_by_sound n ps gs us ts there None begins f rest is =
    let b = inverts (row (read 256 Expression matches) ts) (λ b. function_from n (clause_of n.at ps gs b.0) b.1) (f, rest) is in
    function_from_sound n (clause_of n.at ps gs b.0.0) us b.0.1
    (clause_from n.at us ps gs ts there b.0.0 b.0.1 b.1 (clause_of n.at ps gs b.0.0) b.0.1 refl) f rest b.2

function_sound : (n : Named) (ts : List Terminal) (f : FormTree) (rest : List Terminal) → function n ts ≡ Some (f, rest) →
    BeginsForm f (atom n.name n.at ∷ ts) rest
unfolding function
function_sound n ts f rest is =
    let g = inverts (front ts) (λ g. function_by (behind openings.Receive g.1) n g.0.0 g.0.1 g.1) (f, rest) is in
    function_by_sound n g.0.0.0 g.0.0.1 ts g.0.1 (front_sound ts g.0.0.0 g.0.0.1 g.0.1 g.1) (behind openings.Receive g.0.1) refl f rest g.2

-- Forms

attribute_sound : (name : List ℕ) (at : ℕ) (a : Attribute) → attribute name ≡ a → (ts : List Terminal) (f : FormTree) (rest : List Terminal) →
    by_attribute a ts ≡ Some (f, rest) → BeginsForm f (attribute_written name at ts) rest
attribute_sound name at module_name kind ts f rest is = absurd (none-some (f, rest) is)
attribute_sound name at unsupported kind ts f rest is = absurd (none-some (f, rest) is)
attribute_sound name at export kind ts f rest is =
    subst (λ n. BeginsForm f (attribute_written n at ts) rest) (sym (is_export name kind)) (exported_sound at ts f rest is)
attribute_sound name at version kind ts f rest is =
    subst (λ n. BeginsForm f (attribute_written n at ts) rest) (sym (is_version name kind)) (versioned_sound at ts f rest is)
attribute_sound name at skipped kind ts f rest is =
    let d = inverts (after_dot ts) (skip_found forms.Skipped) (f, rest) is in
    subst (λ h. BeginsForm h.0 (attribute_written name at ts) h.1) (same_Some {A = FormTree × List Terminal} (forms.Skipped, d.0) (f, rest) d.2)
    (skipped_form {name = name} {at = at} kind d.1 refl)

form_by_sound : (ts : List Terminal) (o : Option (List Terminal)) → behind openings.Minus ts ≡ o → (f : FormTree) (rest : List Terminal) →
    form_by o ts ≡ Some (f, rest) → BeginsForm f ts rest
form_by_sound ts (Some us) begins f rest is =
    let n = inverts (named_ahead us) (λ n. by_attribute (attribute n.0.name) n.1) (f, rest) is in
    subst (λ vs. BeginsForm f vs rest) (sym (behind_is openings.Minus ts us begins ∙ ap (λ vs. mark marks.Minus ∷ vs) (named_is us n.0.0 n.0.1 n.1)))
    (attribute_sound n.0.0.name n.0.0.at (attribute n.0.0.name) refl n.0.1 f rest n.2)
form_by_sound ts None begins f rest is =
    let n = inverts (named_ahead ts) (λ n. function n.0 n.1) (f, rest) is in
    subst (λ vs. BeginsForm f vs rest) (sym (named_is ts n.0.0 n.0.1 n.1)) (function_sound n.0.0 n.0.1 f rest n.2)

pub form_sound : (ts : List Terminal) (f : FormTree) (rest : List Terminal) → form ts ≡ Some (f, rest) → BeginsForm f ts rest
unfolding form
form_sound ts f rest is = form_by_sound ts (behind openings.Minus ts) refl f rest is
