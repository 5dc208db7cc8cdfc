-- Names that are noted call by call.
use Rattle.std.proofs.Common.{◌≡◌, ℕ, ◌+◌, ◌<◌, Bool, true, false, cond, List, [], ◌∷◌, ◌++◌, Any, Contains, ◌⊎◌, inl, inr, length, get_or, take, sym, ap, subst, ◌∙◌, refl, arith}
use Rattle.std.proofs.lemmas.List.{take_more}
use Rattle.std.proofs.lemmas.List.Elements.{Contains-get_or, Contains-append_left, Contains-append_right, Contains-append_cases, Contains-push_cases}
use Rattle.std.proofs.lemmas.Map.Keys.{IsDistinct-push}
use Rattle.std.proofs.lemmas.Slice.Eq.{bytes_eq-Decides}
use Rattle.std.specs.Cmp.Lexicographic.{nat_list_eq_equiv}
use Rattle.std.specs.List.{IsDistinct, list_any}
use Rattle.std.specs.Str.{bytes_eq}
use Rattle.indexmap.proofs.CallerLemmas.{Contains-insert_key}
use Rattle.indexmap.specs.IndexSet.{insert_key, insert_all}
use Rattle.erl_ir.specs.declared.expression.Expression.{Expression}
use Rattle.erl_ir.specs.declared.expression.Clause.{Clause}
use Rattle.erl_ir.specs.ExpressionForms.{expr, exprs, guards, clauses}
use Rattle.erl_ir.specs.Expression.{Exprs}
use Rattle.erl_ir.specs.declared.function.Function.{Function}
use Rattle.erl_ir.specs.Module.{Key, called_in, called_in_row, called_in_guards, called_in_clauses, called_in_definition, called_in_functions, AreNamesOf}

-- the names noted, of these and then of those
abbrev pub noted : List (List ℕ) → List (List ℕ) → List (List ℕ)
noted names calls = insert_all bytes_eq names calls

join : (names xs ys : List (List ℕ)) → noted (noted names xs) ys ≡ noted names (xs ++ ys)
join names [] ys = refl
join names (x ∷ xs) ys = join (insert_key bytes_eq names x) xs ys

pub noted_then : (before between after xs ys : List (List ℕ)) → between ≡ noted before xs → after ≡ noted between ys →
    after ≡ noted before (xs ++ ys)
noted_then before between after xs ys first second = second ∙ ap (λ ns. noted ns ys) first ∙ join before xs ys

append-assoc : (xs ys zs : List (List ℕ)) → xs ++ ys ++ zs ≡ xs ++ (ys ++ zs)
append-assoc [] ys zs = refl
append-assoc (x ∷ xs) ys zs = ap (λ ws. x ∷ ws) (append-assoc xs ys zs)

front-same : (front xs ys : List (List ℕ)) → xs ≡ ys → front ++ xs ≡ front ++ ys
front-same front xs ys same = ap (λ zs. front ++ zs) same

append-none : (xs : List (List ℕ)) → xs ++ [] ≡ xs
append-none [] = refl
append-none (x ∷ xs) = ap (λ ws. x ∷ ws) (append-none xs)

row_push : (es : List Expression) (e : Expression) → called_in_row (exprs (es ++ e ∷ [])) ≡ called_in_row (exprs es) ++ called_in (expr e)
row_push [] e = append-none (called_in (expr e))
row_push (f ∷ fs) e =
    front-same (called_in (expr f)) (called_in_row (exprs (fs ++ e ∷ []))) (called_in_row (exprs fs) ++ called_in (expr e)) (row_push fs e) ∙ sym (append-assoc (called_in (expr f)) (called_in_row (exprs fs)) (called_in (expr e)))

pub row_noted : (items : List Expression) (i : ℕ) (e : Expression) (before between after : List (List ℕ)) →
    i < length items → e ≡ get_or items i e → between ≡ noted before (called_in_row (exprs (take i items))) →
    after ≡ noted between (called_in (expr e)) → after ≡ noted before (called_in_row (exprs (take (i + 1) items)))
row_noted items i e before between after within is first second =
    noted_then before between after (called_in_row (exprs (take i items))) (called_in (expr e)) first second ∙
    ap (noted before) (sym (ap (λ es. called_in_row (exprs es)) (take_more items i e within ∙ ap (λ f. take i items ++ f ∷ []) (sym is)) ∙ row_push (take i items) e))

guards_push : (gs : List Exprs) (tests : Exprs) → called_in_guards (guards (gs ++ tests ∷ [])) ≡ called_in_guards (guards gs) ++ called_in_row tests
guards_push [] tests = append-none (called_in_row tests)
guards_push (g ∷ gs) tests =
    front-same (called_in_row g) (called_in_guards (guards (gs ++ tests ∷ []))) (called_in_guards (guards gs) ++ called_in_row tests) (guards_push gs tests) ∙ sym (append-assoc (called_in_row g) (called_in_guards (guards gs)) (called_in_row tests))

pub guards_noted : (items : List Exprs) (i : ℕ) (tests : Exprs) (before between after : List (List ℕ)) →
    i < length items → tests ≡ get_or items i tests → between ≡ noted before (called_in_guards (guards (take i items))) →
    after ≡ noted between (called_in_row tests) → after ≡ noted before (called_in_guards (guards (take (i + 1) items)))
guards_noted items i tests before between after within is first second =
    noted_then before between after (called_in_guards (guards (take i items))) (called_in_row tests) first second ∙
    ap (noted before) (sym (ap (λ gs. called_in_guards (guards gs)) (take_more items i tests within ∙ ap (λ g. take i items ++ g ∷ []) (sym is)) ∙ guards_push (take i items) tests))

-- of one clause: of its guard, and then of its body
abbrev pub called_in_clause : Clause → List (List ℕ)
called_in_clause c = called_in_guards c.guard ++ called_in_row c.body

clauses_push : (cs : List Clause) (c : Clause) → called_in_clauses (clauses (cs ++ c ∷ [])) ≡ called_in_clauses (clauses cs) ++ called_in_clause c
clauses_push [] c = append-none (called_in_clause c)
clauses_push (d ∷ ds) c =
    front-same (called_in_clause d) (called_in_clauses (clauses (ds ++ c ∷ []))) (called_in_clauses (clauses ds) ++ called_in_clause c) (clauses_push ds c) ∙ sym (append-assoc (called_in_clause d) (called_in_clauses (clauses ds)) (called_in_clause c))

pub clauses_noted : (items : List Clause) (i : ℕ) (c : Clause) (before between after : List (List ℕ)) →
    i < length items → c ≡ get_or items i c → between ≡ noted before (called_in_clauses (clauses (take i items))) →
    after ≡ noted between (called_in_clause c) → after ≡ noted before (called_in_clauses (clauses (take (i + 1) items)))
clauses_noted items i c before between after within is first second =
    noted_then before between after (called_in_clauses (clauses (take i items))) (called_in_clause c) first second ∙
    ap (noted before) (sym (ap (λ cs. called_in_clauses (clauses cs)) (take_more items i c within ∙ ap (λ d. take i items ++ d ∷ []) (sym is)) ∙ clauses_push (take i items) c))

pub functions_push : (fs : List (Key × Function)) (f : Key × Function) →
    called_in_functions (fs ++ f ∷ []) ≡ called_in_functions fs ++ called_in_definition f.1.definition
functions_push [] f = append-none (called_in_definition f.1.definition)
functions_push (g ∷ gs) f =
    front-same (called_in_definition g.1.definition) (called_in_functions (gs ++ f ∷ [])) (called_in_functions gs ++ called_in_definition f.1.definition) (functions_push gs f) ∙ sym (append-assoc (called_in_definition g.1.definition) (called_in_functions gs) (called_in_definition f.1.definition))

-- What is noted is each name once: no name is lost, and none is made up.

distinct_none : IsDistinct bytes_eq []
unfolding IsDistinct
distinct_none = tt

distinct_key : (names : List (List ℕ)) (name : List ℕ) (b : Bool) → list_any (bytes_eq name) names ≡ b → IsDistinct bytes_eq names →
    IsDistinct bytes_eq (cond b names (names ++ name ∷ []))
distinct_key names name true there distinct = distinct
distinct_key names name false absent distinct = IsDistinct-push nat_list_eq_equiv names name distinct absent

distinct_noted : (names calls : List (List ℕ)) → IsDistinct bytes_eq names → IsDistinct bytes_eq (noted names calls)
distinct_noted names [] distinct = distinct
distinct_noted names (c ∷ cs) distinct = distinct_noted (insert_key bytes_eq names c) cs (distinct_key names c (list_any (bytes_eq c) names) refl distinct)

key_keeps : (names : List (List ℕ)) (name n : List ℕ) (b : Bool) → Contains names n → Contains (cond b names (names ++ name ∷ [])) n
key_keeps names name n true there = there
key_keeps names name n false there = Contains-append_left names (name ∷ []) n there

keeps : (names calls : List (List ℕ)) (n : List ℕ) → Contains names n → Contains (noted names calls) n
keeps names [] n there = there
keeps names (c ∷ cs) n there = keeps (insert_key bytes_eq names c) cs n (key_keeps names c n (list_any (bytes_eq c) names) there)

first_there : (c : List ℕ) (cs : List (List ℕ)) (n : List ℕ) → Contains (c ∷ []) n → c ≡ n
first_there c cs n there = elim (Contains-push_cases [] c n there) [ inl none ↦ absurd (omega (arith, none.1)) | inr same ↦ same ]

takes : (names calls : List (List ℕ)) (n : List ℕ) → Contains calls n → Contains (noted names calls) n
takes names [] n there = absurd (omega (arith, there.1))
takes names (c ∷ cs) n there = elim (Contains-append_cases (c ∷ []) cs n there) [
  | inl first ↦ keeps (insert_key bytes_eq names c) cs n
      (subst (Contains (insert_key bytes_eq names c)) (first_there c cs n first)
      (Contains-insert_key bytes_eq (λ x y. (bytes_eq-Decides x y).0) names c))
  | inr later ↦ takes (insert_key bytes_eq names c) cs n later
]

key_cases : (names : List (List ℕ)) (name n : List ℕ) (b : Bool) → Contains (cond b names (names ++ name ∷ [])) n → Contains names n ⊎ (name ≡ n)
key_cases names name n true there = inl there
key_cases names name n false there = Contains-push_cases names name n there

had : (names calls : List (List ℕ)) (n : List ℕ) → Contains (noted names calls) n → Contains names n ⊎ Contains calls n
had names [] n there = inl there
had names (c ∷ cs) n there = elim (had (insert_key bytes_eq names c) cs n there) [
  | inl before ↦ elim (key_cases names c n (list_any (bytes_eq c) names) before) [
    | inl old ↦ inl old
    | inr same ↦ inr (subst (Contains (c ∷ cs)) same (Contains-get_or (c ∷ cs) 0 c (omega arith)))
  ]
  | inr later ↦ inr (Contains-append_right (c ∷ []) cs n later)
]

any_from : (xs : List (List ℕ)) (n : List ℕ) → Contains xs n → Any (λ m. m ≡ n) xs
any_from xs n there = (there.0, n, there.1, there.2, refl)

from_any : (xs : List (List ℕ)) (n : List ℕ) → Any (λ m. m ≡ n) xs → Contains xs n
from_any xs n any = subst (Contains xs) any.4 (any.0, any.2, any.3)

pub names_of : (calls names : List (List ℕ)) → names ≡ noted [] calls → AreNamesOf names calls
names_of calls names is = subst (λ ns. AreNamesOf ns calls) (sym is) (record {
  once = distinct_noted [] calls distinct_none;
  same = λ n. (
    (λ any. elim (had [] calls n (from_any (noted [] calls) n any)) [ inl none ↦ absurd (omega (arith, none.1)) | inr there ↦ any_from calls n there ]),
    (λ any. any_from (noted [] calls) n (takes [] calls n (from_any calls n any))),
  );
})
