-- Trees of vertices: what a vertex moved up to its parent's parent leaves, and a root put under another.
use Rattle.std.proofs.Common.{◌≡◌, ◌<◌, ◌≤◌, ◌⊎◌, inl, inr, ℕ, Bool, true, false, ◌+◌, List, [], ◌∷◌, ◌++◌, eqb, length, set, sym, ap, ◌∙◌, refl, subst, arith, length-set, get_or-set_same, get_or-set_other}
use Rattle.std.proofs.lemmas.Bool.{cases_eq, eq-eqb, eqb-true, false≢true, or_cases, or_left, or_right}
use Rattle.dependency_order.specs.Groups.{IsJoined}
use Rattle.dependency_order.specs.Forests.{AreJoining, AreTrees, IsFlatter, IsForest, IsJoining, JoinsOnlyJoined, IsTie, Respects, parent}
use Rattle.dependency_order.specs.Lists.{row}
use Rattle.dependency_order.specs.Orders.{stands}
use Rattle.dependency_order.proofs.Chains.{joined_back, joined_on}

-- what a write leaves at each vertex
data Written (ps : List ℕ) (x a y : ℕ) : Type 0 where
  here : y ≡ x → parent (set ps x a) y ≡ a → Written ps x a y
  elsewhere : (y ≡ x → ⊥) → parent (set ps x a) y ≡ parent ps y → Written ps x a y

written : (ps : List ℕ) (x a y : ℕ) → x < length ps → Written ps x a y
written ps x a y below =
    elim (cases_eq y x) [
      | inl e ↦ Written.here e (rw e (get_or-set_same ps x a 0 below))
      | inr ne ↦ Written.elsewhere ne (get_or-set_other ps x y a 0 ne)
    ]

joined-eq : (names : ℕ → ℕ → Bool) (p q r : ℕ) → q ≡ r → IsJoined names p q → IsJoined names p r
joined-eq names p q r e chain = let P : ℕ → Type 0 = λ s. IsJoined names p s in subst P e chain

joined-eq_from : (names : ℕ → ℕ → Bool) (p q r : ℕ) → p ≡ q → IsJoined names p r → IsJoined names q r
joined-eq_from names p q r e chain = let P : ℕ → Type 0 = λ s. IsJoined names s r in subst P e chain

-- a vertex under one that is not behind it
forest_written : (ps : List ℕ) (x a y : ℕ) → x < length ps → a ≤ x → IsForest ps → y < length ps → parent (set ps x a) y ≤ y
forest_written ps x a y below less forest in' =
    elim (written ps x a y below) [
      | Written.here e is ↦ omega (arith, e, is, less)
      | Written.elsewhere ne is ↦ let before = forest y in' in omega (arith, is, before)
    ]

forest_set : (ps : List ℕ) (x a : ℕ) → x < length ps → a ≤ x → IsForest ps → IsForest (set ps x a)
forest_set ps x a below less forest y in' =
    forest_written ps x a y below less forest (let e = length-set ps x a in omega (arith, e, in'))

sound_written : (names : ℕ → ℕ → Bool) (ps : List ℕ) (x a y : ℕ) → x < length ps → IsJoined names x a → JoinsOnlyJoined names ps → y < length ps → IsJoined names y (parent (set ps x a) y)
sound_written names ps x a y below chain sound in' =
    elim (written ps x a y below) [
      | Written.here e is ↦ joined-eq names y a (parent (set ps x a) y) (sym is) (joined-eq_from names x y a (sym e) chain)
      | Written.elsewhere ne is ↦ joined-eq names y (parent ps y) (parent (set ps x a) y) (sym is) (sound y in')
    ]

sound_set : (names : ℕ → ℕ → Bool) (ps : List ℕ) (x a : ℕ) → x < length ps → IsJoined names x a → JoinsOnlyJoined names ps → JoinsOnlyJoined names (set ps x a)
sound_set names ps x a below chain sound y in' =
    sound_written names ps x a y below chain sound (let e = length-set ps x a in omega (arith, e, in'))

-- Up to the parent's parent

-- what a labelling of the trees with a vertex moved up gives a vertex and its parent
moved_label : (label : ℕ → ℕ) (ps : List ℕ) (x : ℕ) → x < length ps → parent ps x < length ps → Respects label (set ps x (parent ps (parent ps x))) → label (parent ps x) ≡ label x
moved_label label ps x below up respects =
    let a = parent ps (parent ps x) in
    let long = length-set ps x a in
    let here : label a ≡ label x = ap label (sym (get_or-set_same ps x a 0 below)) ∙ respects x (omega (arith, long, below)) in
    elim (cases_eq (parent ps x) x) [
      | inl e ↦ ap label e
      | inr ne ↦ sym (ap label (sym (get_or-set_other ps x (parent ps x) a 0 ne)) ∙ respects (parent ps x) (omega (arith, long, up))) ∙ here
    ]

full_written : (label : ℕ → ℕ) (ps : List ℕ) (x a y : ℕ) → x < length ps → label (parent ps x) ≡ label x → Respects label (set ps x a) → y < length ps → label (parent ps y) ≡ label y
full_written label ps x a y below one respects in' =
    elim (written ps x a y below) [
      | Written.here e is ↦ ap (λ z. label (parent ps z)) e ∙ one ∙ ap label (sym e)
      | Written.elsewhere ne is ↦ ap label (sym is) ∙ respects y (let long = length-set ps x a in omega (arith, long, in'))
    ]

roots_written : (ps : List ℕ) (x y : ℕ) → x < length ps → parent ps y ≡ y → parent (set ps x (parent ps (parent ps x))) y ≡ y
roots_written ps x y below root =
    elim (written ps x (parent ps (parent ps x)) y below) [
      | Written.here e is ↦ is ∙ ap (λ z. parent ps (parent ps z)) (sym e) ∙ ap (parent ps) root ∙ root
      | Written.elsewhere ne is ↦ is ∙ root
    ]

pub moved_up : (ps : List ℕ) (x : ℕ) → x < length ps → IsForest ps → IsFlatter ps (set ps x (parent ps (parent ps x)))
moved_up ps x below forest =
    let first = forest x below in
    let up : parent ps x < length ps = omega (arith, first, below) in
    let second = forest (parent ps x) up in
    let a = parent ps (parent ps x) in
    record {
      many = length-set ps x a;
      forest = forest_set ps x a below (omega (arith, first, second)) forest;
      sound = λ names sound. sound_set names ps x a below (joined_on names x (parent ps x) a (sound x below) (sound (parent ps x) up)) sound;
      full = λ label respects y in'. full_written label ps x a y below (moved_label label ps x below up respects) respects in';
      roots = λ y root. roots_written ps x y below root;
    }

pub flatter_itself : (ps : List ℕ) → IsForest ps → IsFlatter ps ps
flatter_itself ps forest = record {
  many = refl;
  forest = forest;
  sound = λ names sound. sound;
  full = λ label respects. respects;
  roots = λ p root. root;
}

pub flatter_on : (ps qs rs : List ℕ) → IsFlatter ps qs → IsFlatter qs rs → IsFlatter ps rs
flatter_on ps qs rs one other = record {
  many = other.many ∙ one.many;
  forest = other.forest;
  sound = λ names sound. other.sound names (one.sound names sound);
  full = λ label respects. one.full label (other.full label respects);
  roots = λ p root. other.roots p (one.roots p root);
}

-- A root under another

pub linked_under : (ps : List ℕ) (x a : ℕ) → x < length ps → a ≤ x → IsForest ps → parent ps x ≡ x → IsJoining ps (set ps x a) x a
linked_under ps x a below less forest root = record {
  many = length-set ps x a;
  forest = forest_set ps x a below less forest;
  sound = λ names sound chain. sound_set names ps x a below chain sound;
  full = λ label respects y in'. full_written label ps x a y below (ap label root) respects in';
  tied = λ label respects. sym (ap label (sym (get_or-set_same ps x a 0 below)) ∙ respects x (let long = length-set ps x a in omega (arith, long, below)));
}

-- What is flat: each parent is a root

flat_before : (ps : List ℕ) (x a y : ℕ) → x < length ps → IsForest ps → y < x → parent ps (parent ps y) ≡ parent ps y → parent (set ps x a) (parent (set ps x a) y) ≡ parent (set ps x a) y
flat_before ps x a y below forest before flat =
    let up = forest y (omega (arith, below, before)) in
    let ne : y ≡ x → ⊥ = λ e. omega (arith, e, before) in
    let nor : parent ps y ≡ x → ⊥ = λ e. omega (arith, e, before, up) in
    let here : parent (set ps x a) y ≡ parent ps y = get_or-set_other ps x y a 0 ne in
    let above : parent (set ps x a) (parent ps y) ≡ parent ps (parent ps y) = get_or-set_other ps x (parent ps y) a 0 nor in
    ap (parent (set ps x a)) here ∙ above ∙ flat ∙ sym here

flat_here : (ps : List ℕ) (x : ℕ) → x < length ps → IsForest ps → ((y : ℕ) → y < x → parent ps (parent ps y) ≡ parent ps y) →
    let new = set ps x (parent ps (parent ps x)) in parent new (parent new x) ≡ parent new x
flat_here ps x below forest flat =
    let a = parent ps (parent ps x) in
    let new = set ps x a in
    let first = forest x below in
    let here : parent new x ≡ a = get_or-set_same ps x a 0 below in
    elim (cases_eq (parent ps x) x) [
      | inl e ↦
          let top : a ≡ x = ap (parent ps) e ∙ e in
          ap (parent new) (here ∙ top)
      | inr ne ↦
          let second = forest (parent ps x) (omega (arith, first, below)) in
          let apart : a ≡ x → ⊥ = λ e. ne (omega (arith, e, first, second)) in
          let other : parent new a ≡ parent ps a = get_or-set_other ps x a a 0 apart in
          let lower : parent ps x < x = omega (arith, first, ne) in
          ap (parent new) here ∙ other ∙ flat (parent ps x) lower ∙ sym here
    ]

pub flat_more : (ps : List ℕ) (x : ℕ) → x < length ps → IsForest ps → ((y : ℕ) → y < x → parent ps (parent ps y) ≡ parent ps y) →
    let new = set ps x (parent ps (parent ps x)) in (y : ℕ) → y < x + 1 → parent new (parent new y) ≡ parent new y
flat_more ps x below forest flat y before =
    elim (cases_eq y x) [
      | inl e ↦
          let new = set ps x (parent ps (parent ps x)) in
          let P : ℕ → Type 0 = λ z. parent new (parent new z) ≡ parent new z in
          subst P (sym e) (flat_here ps x below forest flat)
      | inr ne ↦
          let lower : y < x = omega (arith, before, ne) in
          flat_before ps x (parent ps (parent ps x)) y below forest lower (flat y lower)
    ]

-- One step up

module _ (ps qs : List ℕ) (p x : ℕ) (below : x < length qs) (flatter : IsFlatter ps qs) where
  pub still_flatter : IsFlatter ps (set qs x (parent qs (parent qs x)))
  still_flatter = flatter_on ps qs (set qs x (parent qs (parent qs x))) flatter (moved_up qs x below flatter.forest)

  pub still_joined : ((names : ℕ → ℕ → Bool) → JoinsOnlyJoined names ps → IsJoined names p x) →
      (names : ℕ → ℕ → Bool) → JoinsOnlyJoined names ps → IsJoined names p (parent qs (parent qs x))
  still_joined chain names sound =
      let first = flatter.forest x below in
      let on = flatter.sound names sound in
      joined_on names p (parent qs x) (parent qs (parent qs x)) (joined_on names p x (parent qs x) (chain names sound) (on x below))
      (on (parent qs x) (omega (arith, first, below)))

  pub still_one : ((label : ℕ → ℕ) → Respects label qs → label p ≡ label x) →
      (label : ℕ → ℕ) → Respects label (set qs x (parent qs (parent qs x))) → label p ≡ label (parent qs (parent qs x))
  still_one one label respects =
      let first = flatter.forest x below in
      let old = (moved_up qs x below flatter.forest).full label respects in
      one label old ∙ sym (old x below) ∙ sym (old (parent qs x) (omega (arith, first, below)))

-- Two trees made one

pub joining_swapped : (ps qs : List ℕ) (one other : ℕ) → IsJoining ps qs one other → IsJoining ps qs other one
joining_swapped ps qs one other is = record {
  many = is.many;
  forest = is.forest;
  sound = λ names sound chain. is.sound names sound (joined_back names other one chain);
  full = is.full;
  tied = λ label respects. sym (is.tied label respects);
}

-- `a` and `b` are the roots of `one` and `other`
pub join_under : (ps qs : List ℕ) (one other a b : ℕ) → IsFlatter ps qs →
    ((names : ℕ → ℕ → Bool) → JoinsOnlyJoined names ps → IsJoined names one a) → ((names : ℕ → ℕ → Bool) → JoinsOnlyJoined names ps → IsJoined names other b) →
    ((label : ℕ → ℕ) → Respects label qs → label one ≡ label a) → ((label : ℕ → ℕ) → Respects label qs → label other ≡ label b) →
    parent qs a ≡ a → a < length qs → b ≤ a → IsJoining ps (set qs a b) one other
join_under ps qs one other a b flatter to_a to_b like_a like_b root below less =
    let last = linked_under qs a b below less flatter.forest root in record {
      many = last.many ∙ flatter.many;
      forest = last.forest;
      sound = λ names sound chain.
          last.sound names (flatter.sound names sound)
          (joined_on names a one b (joined_back names one a (to_a names sound)) (joined_on names one other b chain (to_b names sound)));
      full = λ label respects. flatter.full label (last.full label respects);
      tied = λ label respects.
          let old = last.full label respects in
          like_a label old ∙ last.tied label respects ∙ sym (like_b label old);
    }

-- More and more vertices joined with one

stands-nil : (p : ℕ) → stands p [] ≡ true → ⊥
stands-nil p is = let never : false ≡ true = is in false≢true never

stands-push : (p : ℕ) (ps : List ℕ) (q : ℕ) → stands p (ps ++ q ∷ []) ≡ true → (stands p ps ≡ true) ⊎ (q ≡ p)
stands-push p [] q is = elim (or_cases (eqb q p) false is) [ inl e ↦ inr (eqb-true q p e) | inr never ↦ absurd (false≢true never) ]
stands-push p (r ∷ rs) q is =
    elim (or_cases (eqb r p) (stands p (rs ++ q ∷ [])) is) [
      | inl e ↦ inl (or_left (eqb r p) (stands p rs) e)
      | inr there ↦ elim (stands-push p rs q there) [ inl so ↦ inl (or_right (eqb r p) (stands p rs) so) | inr e ↦ inr e ]
    ]

pub stands-before : (p : ℕ) (ps : List ℕ) (q : ℕ) → stands p ps ≡ true → stands p (ps ++ q ∷ []) ≡ true
stands-before p [] q is = absurd (stands-nil p is)
stands-before p (r ∷ rs) q is =
    elim (or_cases (eqb r p) (stands p rs) is) [
      | inl e ↦ or_left (eqb r p) (stands p (rs ++ q ∷ [])) e
      | inr there ↦ or_right (eqb r p) (stands p (rs ++ q ∷ [])) (stands-before p rs q there)
    ]

pub stands-last : (ps : List ℕ) (q : ℕ) → stands q (ps ++ q ∷ []) ≡ true
stands-last [] q = or_left (eqb q q) false (eq-eqb q q refl)
stands-last (r ∷ rs) q = or_right (eqb r q) (stands q (rs ++ q ∷ [])) (stands-last rs q)

pub none_joining : (ps : List ℕ) (w : ℕ) → IsForest ps → AreJoining ps ps [] w
none_joining ps w forest = record {
  many = refl;
  forest = forest;
  sound = λ names sound chains. sound;
  full = λ label respects. respects;
  tied = λ label respects p is. absurd (stands-nil p is);
}

pub one_more_joining : (ps qs rs xs : List ℕ) (x w : ℕ) → AreJoining ps qs xs w → IsJoining qs rs x w → AreJoining ps rs (xs ++ x ∷ []) w
one_more_joining ps qs rs xs x w are is = record {
  many = is.many ∙ are.many;
  forest = is.forest;
  sound = λ names sound chains. is.sound names (are.sound names sound (λ p there. chains p (stands-before p xs x there))) (chains x (stands-last xs x));
  full = λ label respects. are.full label (is.full label respects);
  tied = λ label respects p there.
      elim (stands-push p xs x there) [
        | inl before ↦ are.tied label (is.full label respects) p before
        | inr e ↦ ap label (sym e) ∙ is.tied label respects
      ];
}

-- Ties

pub tie_of : (ps qs rs some others : List ℕ) (a b : ℕ) → stands a some ≡ true → stands b others ≡ true → AreJoining ps qs some b → AreJoining qs rs others a → IsTie ps rs some others
tie_of ps qs rs some others a b one other first second = record {
  many = second.many ∙ first.many;
  forest = second.forest;
  sound = λ names sound chains.
      second.sound names (first.sound names sound (λ p there. chains p b there other)) (λ q there. joined_back names a q (chains a q one there));
  full = λ label respects. first.full label (second.full label respects);
  tied = λ label respects p q in_some in_others.
      let old = second.full label respects in
      first.tied label old p in_some ∙ sym (first.tied label old a one) ∙ sym (second.tied label respects q in_others);
}

-- Trees of what is tied

pub no_trees : (some others : List (List ℕ)) (count : ℕ) (ps : List ℕ) → length ps ≡ count → ((p : ℕ) → p < length ps → parent ps p ≡ p) → AreTrees some others count 0 ps
no_trees some others count ps many alone = record {
  many = many;
  forest = λ p below. let e = alone p below in omega (arith, e);
  sound = λ names chains p below. joined-eq names p p (parent ps p) (sym (alone p below)) IsJoined.itself;
  tied = λ label respects k p q below one other. absurd (omega (arith, below));
}

pub more_trees : (some others : List (List ℕ)) (count bound : ℕ) (ps qs : List ℕ) → AreTrees some others count bound ps → IsTie ps qs (row some bound) (row others bound) → AreTrees some others count (bound + 1) qs
more_trees some others count bound ps qs are is = record {
  many = is.many ∙ are.many;
  forest = is.forest;
  sound = λ names chains.
      is.sound names (are.sound names (λ k p q below one other. chains k p q (omega (arith, below)) one other))
      (λ p q one other. chains bound p q (omega arith) one other);
  tied = λ label respects k p q below one other.
      elim (cases_eq k bound) [
        | inl e ↦
            let In : List (List ℕ) → ℕ → ℕ → Type 0 = λ lists r j. stands r (row lists j) ≡ true in
            is.tied label respects p q (subst (In some p) e one) (subst (In others q) e other)
        | inr ne ↦ are.tied label (is.full label respects) k p q (omega (arith, below, ne)) one other
      ];
}

pub flat_trees : (some others : List (List ℕ)) (count bound : ℕ) (ps qs : List ℕ) → AreTrees some others count bound ps → IsFlatter ps qs → AreTrees some others count bound qs
flat_trees some others count bound ps qs are is = record {
  many = is.many ∙ are.many;
  forest = is.forest;
  sound = λ names chains. is.sound names (are.sound names chains);
  tied = λ label respects. are.tied label (is.full label respects);
}
