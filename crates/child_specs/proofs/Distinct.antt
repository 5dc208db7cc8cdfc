-- Children by their Ids, seen from the back.
use Rattle.std.proofs.Common.{◌≡◌, ℕ, zero, suc, ◌+◌, ◌-◌, ◌<◌, Bool, true, false, List, [], ◌∷◌, length, get_or, drop, Bor, refl, sym, ap, ◌∙◌, arith}
use Rattle.std.specs.Prelude.{cond, not, ◌&&◌, ◌||◌}
use Rattle.std.specs.BTreeSet.{BTreeSet, Updates, contains}
use Rattle.std.specs.List.{list_any}
use Rattle.std.specs.Ordering.{is_eq, on}
use Rattle.std.specs.declared.cmp.Ordering.{Ordering}
use Rattle.std.proofs.Math.Bool.{and-false}
use Rattle.std.proofs.lemmas.List.{drop_more}
use Rattle.erl_term.specs.declared.term.Term.{Term}
use Rattle.erl_term.specs.Order.{tree_cmp}
use Rattle.erl_term.specs.Term.{tree}
use Rattle.child_specs.specs.declared.child.ChildSpec.{ChildSpec}
use Rattle.child_specs.specs.Reading.{are_distinct, same_id}

-- how the terms that are lent are ordered
abbrev pub lent_cmp : Bor Term → Bor Term → Ordering
lent_cmp x y = on tree tree_cmp x.now y.now

-- a set has just the Ids of these children
abbrev pub HasIds : BTreeSet (Bor Term) → List ChildSpec → Type 0
HasIds set cs = (t : Bor Term) → contains lent_cmp set t ≡ list_any (same_id t.now) cs

-- the children from one index before on
pub one_before : (cs : List ChildSpec) (i : ℕ) (c : ChildSpec) → 0 < i → i - 1 < length cs → c ≡ get_or cs (i - 1) c → drop (i - 1) cs ≡ c ∷ drop i cs
one_before cs i c above within is =
    let back : (i - 1) + 1 ≡ i = omega arith in
    drop_more cs (i - 1) c within ∙ ap (λ u. u ∷ drop (i - 1 + 1) cs) (sym is) ∙ ap (λ j. c ∷ drop j cs) back

or : (b o : Bool) → cond b true o ≡ (b || o)
or true o = refl
or false o = refl

-- one child more in front: its Id, and those that are there already
pub one_more : (old new : BTreeSet (Bor Term)) (key : Bor Term) (c : ChildSpec) (cs all : List ChildSpec) → all ≡ c ∷ cs → key.now ≡ c.id → Updates lent_cmp old new key true → HasIds old cs → HasIds new all
one_more old new key c cs all is same updates so_far t =
    updates.0 t ∙ or (is_eq (lent_cmp key t)) (contains lent_cmp old t) ∙ ap (λ u. is_eq (tree_cmp (tree u) (tree t.now)) || contains lent_cmp old t) same ∙ ap (λ b. same_id t.now c || b) (so_far t) ∙ ap (list_any (same_id t.now)) (sym is)

-- and whether it is another than these
pub told_before : (old : BTreeSet (Bor Term)) (key : Bor Term) (c : ChildSpec) (cs all : List ChildSpec) → all ≡ c ∷ cs → key.now ≡ c.id → HasIds old cs → are_distinct all ≡ (not (contains lent_cmp old key) && are_distinct cs)
told_before old key c cs all is same so_far =
    ap are_distinct is ∙ ap (λ t. not (list_any (same_id t) cs) && are_distinct cs) (sym same) ∙ ap (λ b. not b && are_distinct cs) (sym (so_far key))

-- children of whom some, from an index on, are not distinct
pub not_distinct : (i : ℕ) (cs : List ChildSpec) → are_distinct (drop i cs) ≡ false → are_distinct cs ≡ false
not_distinct zero cs fails = fails
not_distinct (suc i) [] fails = fails
not_distinct (suc i) (c ∷ cs) fails =
    ap (λ b. not (list_any (same_id c.id) cs) && b) (not_distinct i cs fails) ∙ and-false (not (list_any (same_id c.id) cs))
