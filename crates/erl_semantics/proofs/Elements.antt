-- Elements of tuples and lists: terms of the code by their indices.
use Rattle.std.specs.Prelude.{◌≡◌, ℕ, zero, suc, pos, negsuc, List, [], ◌∷◌, ◌++◌, refl, Option, None, Some, option_map, slice_get}
use Rattle.std.specs.Prelude.{reverse, ◌<◌, ◌≤◌, length, Bool, true, false, if◌then◌else◌, ◌==◌, set, MatchOption}
use Rattle.std.proofs.Common.{arith, ap, sym, subst, ◌∙◌}
use Rattle.std.proofs.lemmas.List.{reverse-append, append-nil, append_assoc}
use Rattle.erl_term.specs.declared.term.Term.{Term}
use Rattle.erl_term.specs.declared.term.Term.TheVariants as variants
use Rattle.erl_term.specs.Accessors.{first_of}
use Rattle.erl_term.specs.Term.{tree, trees}
use Rattle.erl_semantics.specs.State.{made}
use Rattle.erl_term.specs.Tree.{Tree, Trees, int, atom, pid, tuple, list, none, more}
use Rattle.erl_semantics.specs.BuiltIns.{nth, with_nth, element_of, with_element, has_member, reversed_onto, reversed}
use Rattle.std.specs.Borrow.{Bor}
use Rattle.std.specs.declared.cmp.Ordering.TheVariants.{Equal}
use Rattle.erl_semantics.specs.Operators.{is_equal}
use Rattle.erl_semantics.proofs.Options.{some_none, some_injective}
use Rattle.erl_semantics.proofs.Uniqueness.{ap2}
use Rattle.erl_term.specs.Order.{tree_cmp}

nth_is : (ts : List Term) (index : ℕ) → nth (suc index) (trees ts) ≡ option_map tree (slice_get ts index)
nth_is [] index = refl
nth_is (t ∷ ts) zero = refl
nth_is (t ∷ ts) (suc index) = nth_is ts index

nth_zero : (ts : Trees) → nth 0 ts ≡ None
nth_zero none = refl
nth_zero (more t ts) = refl

with_nth_zero : (u : Tree) (ts : Trees) → with_nth 0 u ts ≡ None
with_nth_zero u none = refl
with_nth_zero u (more t ts) = refl

pub element_at : (x : Tree) (ts : List Term) (index : ℕ) (o : Option Term) → x ≡ int (pos (suc index)) →
    slice_get ts index ≡ o → element_of x (trees ts) ≡ option_map tree o
element_at x ts index o e f = ap (λ y. element_of y (trees ts)) e ∙ nth_is ts index ∙ ap (λ p. option_map tree p) f

pub element_nowhere : (x : Tree) (ts : Trees) → ((n : ℕ) → x ≡ int (pos n) → n ≡ 0) → element_of x ts ≡ None
element_nowhere (int (pos n)) ts nowhere = ap (λ k. nth k ts) (nowhere n refl) ∙ nth_zero ts
element_nowhere (int (negsuc n)) ts nowhere = refl
element_nowhere (atom cs) ts nowhere = refl
element_nowhere (pid n) ts nowhere = refl
element_nowhere (tuple us) ts nowhere = refl
element_nowhere (list us) ts nowhere = refl

pub with_element_nowhere : (x u : Tree) (ts : Trees) → ((n : ℕ) → x ≡ int (pos n) → n ≡ 0) → with_element x u ts ≡ None
with_element_nowhere (int (pos n)) u ts nowhere = ap (λ k. with_nth k u ts) (nowhere n refl) ∙ with_nth_zero u ts
with_element_nowhere (int (negsuc n)) u ts nowhere = refl
with_element_nowhere (atom cs) u ts nowhere = refl
with_element_nowhere (pid n) u ts nowhere = refl
with_element_nowhere (tuple us) u ts nowhere = refl
with_element_nowhere (list us) u ts nowhere = refl

-- what stands at an index of the code's terms

pub nth_matches : (x : Tree) (row : Trees) (ts : List Term) (index : ℕ) (o : Option (Bor Term)) → trees ts ≡ row →
    x ≡ int (pos (suc index)) → MatchOption o (slice_get ts index ≡ None) (λ t. slice_get ts index ≡ Some t.now) →
    MatchOption o (element_of x row ≡ None) (λ t. element_of x row ≡ Some (tree t.now))
nth_matches x row ts index None e f m = ap (λ r. element_of x r) (sym e) ∙ element_at x ts index None f m
nth_matches x row ts index (Some t) e f m = ap (λ r. element_of x r) (sym e) ∙ element_at x ts index (Some t.now) f m

with_nth_is : (ts : List Term) (index : ℕ) (v : Term) → index < length ts →
    with_nth (suc index) (tree v) (trees ts) ≡ Some (trees (set ts index v))
with_nth_is [] index v within = absurd (omega (arith, within))
with_nth_is (t ∷ ts) zero v within = refl
with_nth_is (t ∷ ts) (suc index) v within = ap (λ o. option_map (λ us. more (tree t) us) o) (with_nth_is ts index v (omega (arith, within)))

with_nth_past : (ts : List Term) (index : ℕ) (u : Tree) → length ts ≤ index → with_nth (suc index) u (trees ts) ≡ None
with_nth_past [] index u past = refl
with_nth_past (t ∷ ts) zero u past = absurd (omega (arith, past))
with_nth_past (t ∷ ts) (suc index) u past =
    ap (λ o. option_map (λ us. more (tree t) us) o) (with_nth_past ts index u (omega (arith, past)))

pub with_element_at : (x : Tree) (row : Trees) (ts : List Term) (index : ℕ) (v : Term) (made : Trees) → trees ts ≡ row →
    x ≡ int (pos (suc index)) → index < length ts → made ≡ trees (set ts index v) → Some made ≡ with_element x (tree v) row
with_element_at x row ts index v made e f within m =
    ap Some m ∙ sym (ap2 (λ y r. with_element y (tree v) r) f (sym e) ∙ with_nth_is ts index v within)

pub with_element_past : (x u : Tree) (row : Trees) (ts : List Term) (index : ℕ) → trees ts ≡ row →
    x ≡ int (pos (suc index)) → length ts ≤ index → None ≡ with_element x u row
with_element_past x u row ts index e f past =
    sym (ap2 (λ y r. with_element y u r) f (sym e) ∙ with_nth_past ts index u past)

in_either : (b c : Bool) → c ≡ true → (if b then true else c) ≡ true
in_either true c holds = refl
in_either false c holds = holds

in_first : (b c : Bool) → b ≡ true → (if b then true else c) ≡ true
in_first b c holds = ap (λ d. if d then true else c) holds

pub member_at : (x : Tree) (ts : List Term) (index : ℕ) (t : Term) → slice_get ts index ≡ Some t →
    tree_cmp x (tree t) ≡ Equal → has_member x (trees ts) ≡ true
member_at x [] index t e same = absurd (some_none (sym e))
member_at x (u ∷ us) zero t e same =
    in_first _ _ (ap is_equal (ap (λ v. tree_cmp x (tree v)) (some_injective e) ∙ same))
member_at x (u ∷ us) (suc index) t e same = in_either _ _ (member_at x us index t e same)

reverse_onto : (t : Term) (ts us : List Term) → reverse ts ++ t ∷ us ≡ reverse (t ∷ ts) ++ us
reverse_onto t ts us = sym (ap (λ r. r ++ us) (reverse-append (t ∷ []) ts) ∙ append_assoc (reverse ts) (t ∷ []) us)

pub reversed_onto_is : (ts us : List Term) → reversed_onto (trees ts) (trees us) ≡ trees (reverse ts ++ us)
reversed_onto_is [] us = refl
reversed_onto_is (t ∷ ts) us = reversed_onto_is ts (t ∷ us) ∙ ap trees (reverse_onto t ts us)

pub reversed_is : (ts : List Term) → reversed_onto (trees ts) none ≡ trees (reverse ts)
reversed_is ts = reversed_onto_is ts [] ∙ ap trees (append-nil (reverse ts))

pub reversed_gives : (x : Term) (row made_row : Trees) (ts us : List Term) → x ≡ variants.List row → trees ts ≡ row →
    made_row ≡ trees us → us ≡ reverse ts → reversed (tree x) ≡ made (list made_row)
reversed_gives x row made_row ts us e f m r =
    ap (λ y. reversed (tree y)) e ∙ ap (λ u. made (list u))
    (ap (λ v. reversed_onto v none) (sym f) ∙ reversed_is ts ∙ ap trees (sym r) ∙ sym m)

abbrev Fails : Bool → Type 0
Fails false = Unit {0}
Fails true = ⊥

pub some_terms : (ts : List Term) → false ≡ (length ts == 0) → trees ts ≡ none → ⊥
some_terms [] some e = subst (λ b. Fails b) some tt
some_terms (t ∷ ts) some e = some_none (ap first_of e)
