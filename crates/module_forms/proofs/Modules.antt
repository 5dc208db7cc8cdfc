-- What is read as a module is written as that module, and what is written so is read.
use Rattle.std.proofs.Common.{◌≡◌, ℕ, zero, suc, ◌+◌, ◌<◌, ◌≤◌, Bool, true, false, if◌then◌else◌, IsTrue, List, [], ◌∷◌, ◌++◌, length, codes, Option, Some, None, ap, subst, sym, ◌∙◌, refl, arith, rules, true≢false, append_assoc, append-nil}
use Rattle.std.proofs.lemmas.Option.{none-some, same_Some}
use Rattle.std.proofs.lemmas.Slice.Eq.{bytes_eq-Decides}
use Rattle.std.specs.Str.{bytes_eq}
use Rattle.erl_scan.specs.declared.mark.Mark.TheVariants as marks
use Rattle.erl_ast.specs.declared.leaf.Named.{Named}
use Rattle.erl_scan.specs.declared.word.Word.TheVariants as words
use Rattle.erl_ast.specs.declared.form.Exported.{Exported}
use Rattle.erl_ast.specs.declared.form.FunctionClause.{FunctionClause}
use Rattle.erl_ast.specs.declared.form.FormTree.TheVariants as forms
use Rattle.erl_ast.specs.Written.{row_written, guards_written, clauses_written}
use Rattle.erl_expressions.proofs.Lengths.{tree_longer, row_longer, guards_longer, clauses_longer}
use Rattle.erl_ast.specs.declared.form.FormTree.{FormTree}
use Rattle.erl_ast.specs.declared.form.ModuleTree.{ModuleTree}
use Rattle.erl_ast.specs.Terminal.{Terminal, atom, word, mark, dot}
use Rattle.erl_ast.specs.Forms.{after_dot, is_dot, module_written, BeginsForm, export_form, version_form, skipped_form, function_form, loop_form, AreForms, IsModule, OneModule, function_written, other_function_written, loop_written, clause_written, entries_written, other_entries_written}
use Rattle.erl_expressions.specs.Reading.{Found, and_then}
use Rattle.erl_expressions.proofs.Inversion.{inverts}
use Rattle.module_forms.specs.declared.opening.Opening.TheVariants as openings
use Rattle.module_forms.specs.Openings.{behind}
use Rattle.module_forms.specs.FormReading.{named_ahead, closed_form, form, is_end, forms_by, forms_from, all_forms, if_module, module_head, whole_module}
use Rattle.module_forms.proofs.Sound.{behind_is, named_is, closed_is, form_sound}
use Rattle.module_forms.proofs.ReadBack.{form_whole}

-- Forms

record AreBehind (fs : List FormTree) (ts : List Terminal) (all : List FormTree) : Type 0 where
  pub others : List FormTree
  pub are_all : fs ++ others ≡ all
  pub are_forms : AreForms others ts

by_sound : (go : List FormTree → List Terminal → Option (List FormTree))
    (goes : (gs : List FormTree) (us : List Terminal) (all : List FormTree) → go gs us ≡ Some all → AreBehind gs us all)
    (fs : List FormTree) (ts : List Terminal) (b : Bool) → is_end ts ≡ b → (all : List FormTree) →
    forms_by b fs (form ts) go ≡ Some all → AreBehind fs ts all
by_sound go goes fs [] true ends all is = record { others = []; are_all = append-nil fs ∙ same_Some fs all is; are_forms = refl }
by_sound go goes fs (t ∷ ts) true ends all is = absurd (true≢false (sym ends))
by_sound go goes fs ts false ends all is =
    let f = inverts (form ts) (λ f. go (fs ++ f.0 ∷ []) f.1) all is in
    let there = goes (fs ++ f.0.0 ∷ []) f.0.1 all f.2 in
    record {
      others = f.0.0 ∷ there.others;
      are_all = sym (append_assoc fs (f.0.0 ∷ []) there.others) ∙ there.are_all;
      are_forms = (f.0.1, form_sound ts f.0.0 f.0.1 f.1, there.are_forms);
    }

forms_sound : (k : ℕ) (fs : List FormTree) (ts : List Terminal) (all : List FormTree) → forms_from k fs ts ≡ Some all → AreBehind fs ts all
forms_sound zero fs ts all is = absurd (none-some all is)
forms_sound (suc k) fs ts all is = by_sound (forms_from k) (forms_sound k) fs ts (is_end ts) refl all is

all_sound : (ts : List Terminal) (all : List FormTree) → all_forms ts ≡ Some all → AreForms all ts
unfolding all_forms
all_sound ts all is =
    let there = forms_sound (suc (length ts)) [] ts all is in
    subst (λ fs. AreForms fs ts) there.are_all there.are_forms

-- A form has tokens of its own.

abbrev forms_of : List FormTree → Option (List FormTree)
forms_of fs = Some fs

nothing : form [] ≡ None
unfolding form
nothing = refl

no_form : (f : FormTree) (rest : List Terminal) → BeginsForm f [] rest → ⊥
no_form f rest is = none-some (f, rest) (sym nothing ∙ form_whole f [] rest is)

forms_whole : (k : ℕ) (fs gs : List FormTree) (ts : List Terminal) → AreForms gs ts → length gs < k → forms_from k fs ts ≡ Some (fs ++ gs)
forms_whole zero fs gs ts are few = absurd (omega (arith, few))
forms_whole (suc k) fs [] ts are few =
    ap (λ us. forms_by (is_end us) fs (form us) (forms_from k)) are ∙ ap (λ xs. forms_of xs) (sym (append-nil fs))
forms_whole (suc k) fs (g ∷ gs) [] are few = absurd (no_form g are.0 are.1)
forms_whole (suc k) fs (g ∷ gs) (t ∷ ts) are few =
    ap (λ o. and_then o (λ f. forms_from k (fs ++ f.0 ∷ []) f.1)) (form_whole g (t ∷ ts) are.0 are.1) ∙
    forms_whole k (fs ++ g ∷ []) gs are.0 are.2 (omega (arith, few)) ∙
    ap (λ xs. forms_of xs) (append_assoc fs (g ∷ []) gs)

dot_by : (ts : List Terminal) → ((us : List Terminal) → after_dot ts ≡ Some us → length us < length ts) → (b : Bool) (rest : List Terminal) →
    (if b then Some ts else after_dot ts) ≡ Some rest → length rest < suc (length ts)
dot_by ts goes true rest is = omega (arith, ap length (same_Some ts rest is))
dot_by ts goes false rest is = omega (arith, goes rest is)

dot_shorter : (ts rest : List Terminal) → after_dot ts ≡ Some rest → length rest < length ts
dot_shorter [] rest is = absurd (none-some rest is)
dot_shorter (t ∷ ts) rest is = dot_by ts (dot_shorter ts) (is_dot t) rest is

entries_longer : (es : List Exported) (ts : List Terminal) → length ts ≤ length (other_entries_written es ts)
entries_longer [] ts = omega arith
entries_longer (e ∷ es) ts = omega (arith, entries_longer es ts)

all_entries_longer : (es : List Exported) (ts : List Terminal) → length ts ≤ length (entries_written es ts)
all_entries_longer [] ts = omega arith
all_entries_longer (e ∷ es) ts = omega (arith, entries_longer es ts)

clause_longer : (name : List ℕ) (c : FunctionClause) (ts : List Terminal) → length ts < length (clause_written name c ts)
clause_longer name c ts =
    let body = row_written c.clause.body ts in
    let guards = guards_written c.clause.guard (mark marks.Arrow ∷ body) in
    omega (arith, row_longer c.clause.body ts, guards_longer c.clause.guard (mark marks.Arrow ∷ body), row_longer c.clause.patterns (mark marks.CloseParen ∷ guards))

others_longer : (name : List ℕ) (cs : List FunctionClause) (ts : List Terminal) → length ts ≤ length (other_function_written name cs ts)
others_longer name [] ts = omega arith
others_longer name (c ∷ cs) ts = omega (arith, others_longer name cs ts, clause_longer name c (other_function_written name cs ts))

function_longer : (name : List ℕ) (cs : List FunctionClause) (ts : List Terminal) → length ts ≤ length (function_written name cs ts)
function_longer name [] ts = omega arith
function_longer name (c ∷ cs) ts = omega (arith, others_longer name cs ts, clause_longer name c (other_function_written name cs ts))

pub form_shorter : (f : FormTree) (ts rest : List Terminal) → BeginsForm f ts rest → length rest < length ts
form_shorter (forms.Export es) ts rest (export_form range text) =
    omega (arith, ap length text, all_entries_longer es (mark marks.CloseBracket ∷ mark marks.CloseParen ∷ dot ∷ rest))
form_shorter (forms.Version _) ts rest (version_form {t = t} well low deep is text) =
    omega (arith, ap length text, tree_longer t (mark marks.CloseParen ∷ dot ∷ rest))
form_shorter forms.Skipped ts rest (skipped_form {others = others} kind dotted text) = omega (arith, ap length text, dot_shorter others rest dotted)
form_shorter (forms.Function f) ts rest (function_form is text) = omega (arith, ap length text, function_longer f.name f.clauses (dot ∷ rest))
form_shorter (forms.Loop l) ts rest (loop_form is text) =
    let clauses = clauses_written l.receive (word words.End ∷ dot ∷ rest) in
    let guards = guards_written l.guard (mark marks.Arrow ∷ word words.Receive ∷ clauses) in
    omega (
      arith,
      ap length text,
      clauses_longer l.receive (word words.End ∷ dot ∷ rest),
      guards_longer l.guard (mark marks.Arrow ∷ word words.Receive ∷ clauses),
      row_longer l.patterns (mark marks.CloseParen ∷ guards),
    )

shorter : (f : FormTree) (ts rest : List Terminal) → BeginsForm f ts rest → length rest < length ts
shorter f ts rest is = form_shorter f ts rest is

enough : (fs : List FormTree) (ts : List Terminal) → AreForms fs ts → length fs < suc (length ts)
enough [] ts are = omega arith
enough (f ∷ fs) ts are = omega (arith, enough fs are.0 are.2, shorter f ts are.0 are.1)

-- `-module(M).`

abbrev name_found : Named → List Terminal → Found Named
name_found n us = Some (n, us)

if_module_sound : (b : Bool) (ts : List Terminal) (n : Named) (rest : List Terminal) → if_module b ts ≡ Some (n, rest) →
    IsTrue b × (ts ≡ mark marks.OpenParen ∷ atom n.name n.at ∷ mark marks.CloseParen ∷ dot ∷ rest)
if_module_sound false ts n rest is = absurd (none-some (n, rest) is)
if_module_sound true ts n rest is =
    let a = inverts (behind openings.OpenParen ts) (λ a. and_then (named_ahead a) (λ m. and_then (closed_form m.1) (name_found m.0))) (n, rest) is in
    let m = inverts (named_ahead a.0) (λ m. and_then (closed_form m.1) (name_found m.0)) (n, rest) a.2 in
    let c = inverts (closed_form m.0.1) (name_found m.0.0) (n, rest) m.2 in
    let text = behind_is openings.OpenParen ts a.0 a.1 ∙ ap (λ us. mark marks.OpenParen ∷ us)
    (named_is a.0 m.0.0 m.0.1 m.1 ∙ ap (λ us. atom m.0.0.name m.0.0.at ∷ us) (closed_is m.0.1 c.0 c.1)) in (
      refl,
      text ∙ ap (λ f. mark marks.OpenParen ∷ atom f.0.name f.0.at ∷ mark marks.CloseParen ∷ dot ∷ f.1)
          (same_Some {A = Named × List Terminal} (m.0.0, c.0) (n, rest) c.2),
    )

pub head_sound : (ts : List Terminal) (n : Named) (rest : List Terminal) → module_head ts ≡ Some (n, rest) →
    (at : ℕ) × (ts ≡ module_written n.name n.at at rest)
unfolding module_head
head_sound ts n rest is =
    let m = inverts (behind openings.Minus ts) (λ a. and_then (named_ahead a) (λ w. if_module (bytes_eq w.0.name (codes "module")) w.1)) (n, rest) is in
    let w = inverts (named_ahead m.0) (λ w. if_module (bytes_eq w.0.name (codes "module")) w.1) (n, rest) m.2 in
    let there = if_module_sound (bytes_eq w.0.0.name (codes "module")) w.0.1 n rest w.2 in
    let word_is = (bytes_eq-Decides w.0.0.name (codes "module")).0 there.0 in (
      w.0.0.at,
      behind_is openings.Minus ts m.0 m.1 ∙ ap (λ us. mark marks.Minus ∷ us)
          (named_is m.0 w.0.0 w.0.1 w.1 ∙ λ i. atom (word_is i) w.0.0.at ∷ there.1 i),
    )

-- Modules

abbrev module_of : Named → List FormTree → ModuleTree
module_of n fs = record { name = n; forms = fs }

abbrev module_found : Named → List FormTree → Option ModuleTree
module_found n fs = Some (module_of n fs)

pub is_module : (ts : List Terminal) (m : ModuleTree) → whole_module ts ≡ Some m → IsModule ts m
unfolding whole_module
is_module ts m is =
    let h = inverts (module_head ts) (λ h. and_then (all_forms h.1) (module_found h.0)) m is in
    let fs = inverts (all_forms h.0.1) (module_found h.0.0) m h.2 in
    let head = head_sound ts h.0.0 h.0.1 h.1 in
    subst (λ n. IsModule ts n) (same_Some (module_of h.0.0 fs.0) m fs.2)
    (head.0, h.0.1, head.1, all_sound h.0.1 fs.0 fs.1)

pub head_whole : (n : Named) (at : ℕ) (rest : List Terminal) → module_head (module_written n.name n.at at rest) ≡ Some (n, rest)
unfolding module_head
head_whole n at rest = refl

pub is_read : (ts : List Terminal) (m : ModuleTree) → IsModule ts m → whole_module ts ≡ Some m
unfolding whole_module all_forms
is_read ts m is =
    ap (λ us. and_then (module_head us) (λ h. and_then (all_forms h.1) (module_found h.0))) is.2 ∙
    ap (λ o. and_then o (λ h. and_then (all_forms h.1) (module_found h.0))) (head_whole m.name is.0 is.1) ∙
    ap (λ o. and_then o (module_found m.name)) (forms_whole (suc (length is.1)) [] m.forms is.1 is.3 (enough m.forms is.1 is.3))

pub none_read : (ts : List Terminal) → whole_module ts ≡ None → (m : ModuleTree) → IsModule ts m → ⊥
none_read ts nothing_read m is = none-some m (sym nothing_read ∙ is_read ts m is)

pub one_module : OneModule
one_module ts m n one other = same_Some m n (sym (is_read ts m one) ∙ is_read ts n other)
