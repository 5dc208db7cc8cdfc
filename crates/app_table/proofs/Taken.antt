-- What is held of children that are specified anew is lost with it; and where they are specified so a second time, nothing is held.
use Rattle.std.proofs.Common.{◌≡◌, ◌+◌, ◌∙◌, ℕ, zero, suc, Bool, true, false, List, [], ◌∷◌, ◌++◌, Option, None, Some, refl, sym, ap, subst, arith, eq-eqb, get_or, position, slice_get}
use Rattle.std.specs.Prelude.{IsPermutation, if◌then◌else◌, ◌||◌, not, option_and_then, remove}
use Rattle.std.specs.Cmp.{Equal-is}
use Rattle.std.specs.List.{AllByRecursion, list_any, sum_by}
use Rattle.std.specs.Ordering.{is_eq}
use Rattle.std.proofs.lemmas.Bool.{and_parts}
use Rattle.std.proofs.lemmas.Cmp.{tied_itself}
use Rattle.std.proofs.lemmas.List.Quantifiers.{position-Some}
use Rattle.std.proofs.lemmas.List.Sorted.{IsPermutation-cons, IsPermutation-map, IsPermutation-middle, IsPermutation-refl, IsPermutation-remove, IsPermutation-sym, IsPermutation-trans, sum_by-IsPermutation}
use Rattle.std.proofs.lemmas.List.Sums.{sum_by-append, sum_by-cons}
use Rattle.std.proofs.lemmas.Option.{same_Some}
use Rattle.erl_term.specs.Order.{tree_cmp}
use Rattle.erl_term.specs.OrderLaws.{tree_cmp-same, tree_cmp-total}
use Rattle.erl_term.specs.Term.{tree, term_of, term_of-tree}
use Rattle.erl_term.specs.Accessors.{all_of}
use Rattle.erl_term.specs.Tree.{Tree, atom, list, more, none}
use Rattle.erl_term.specs.Conversions.{rows}
use Rattle.erl_term.specs.declared.term.Term.{Term}
use Rattle.child_specs.proofs.Apart.{distinct_back}
use Rattle.child_specs.proofs.Children.{children_back}
use Rattle.child_specs.specs.Forms.{AreDistinct, child_tree, listed}
use Rattle.child_specs.specs.Reading.{are_distinct, child_of, same_id}
use Rattle.child_specs.specs.declared.child.ChildSpec.{ChildSpec}
use Rattle.app_table.proofs.Options.{false_true, some_is}
use Rattle.app_table.proofs.Spots.{found}
use Rattle.app_table.specs.Applications.{Application, has_id}
use Rattle.app_table.specs.Pieces.{AreNotAmong, AreSpecsLost, IsNotAmong, children_at, children_in, formers, formers_at, specs_in}
use Rattle.app_table.specs.Renewing.{AreEdits, IsEdit, child_by_id, child_for, renewed, with_renewed, with_spec, without, without_at}
use Rattle.app_table.specs.declared.child.Child.{Child}
use Rattle.app_table.specs.declared.renewing.ChildEdit.{ChildEdit}
use Rattle.app_table.specs.declared.renewing.ChildEdit.TheVariants.{Added, Kept}
use Rattle.app_table.specs.declared.undo.AppsUndo.TheVariants.{Renewed}

-- Ids

id_is : (t : Term) (s : ChildSpec) → same_id t s ≡ true → s.id ≡ t
id_is t s its =
    let trees : tree s.id ≡ tree t = tree_cmp-same (tree s.id) (tree t) ((Equal-is (tree_cmp (tree s.id) (tree t))).0 its) in
    sym (term_of-tree s.id) ∙ ap term_of trees ∙ term_of-tree t

has_its : (t : Term) (s : ChildSpec) → s.id ≡ t → same_id t s ≡ true
has_its t s is = (Equal-is (tree_cmp (tree s.id) (tree t))).1 (ap (λ u. tree_cmp (tree u) (tree t)) is ∙ tied_itself tree_cmp-total (tree t))

-- its Id is that of one of these
abbrev IsOne : List ChildSpec → ChildSpec → Type 0
IsOne specs s = list_any (same_id s.id) specs ≡ true

or_true : (b : Bool) → (b || true) ≡ true
or_true true = refl
or_true false = refl

one_more : (s : ChildSpec) (ss : List ChildSpec) (t : ChildSpec) → IsOne ss t → IsOne (s ∷ ss) t
one_more s ss t one = ap (λ b. same_id t.id s || b) one ∙ or_true (same_id t.id s)

ones_more : (s : ChildSpec) (ss xs : List ChildSpec) → AllByRecursion (IsOne ss) xs → AllByRecursion (IsOne (s ∷ ss)) xs
ones_more s ss [] ones = tt
ones_more s ss (x ∷ xs) ones = (one_more s ss x ones.0, ones_more s ss xs ones.1)

first_one : (s : ChildSpec) (ss : List ChildSpec) (t : ChildSpec) → s.id ≡ t.id → IsOne (s ∷ ss) t
first_one s ss t same = ap (λ b. b || list_any (same_id t.id) ss) (has_its t.id s same)

not_true : (b : Bool) → not b ≡ true → b ≡ false
not_true true holds = sym holds
not_true false holds = refl

-- A specification whose Id is none of these is none of those that have one of these Ids.

module _ (s : ChildSpec) (ss : List ChildSpec) (fresh : list_any (same_id s.id) ss ≡ false) where
  another : (x : ChildSpec) → x.id ≡ s.id → IsOne ss x → ⊥
  another x same one = false_true (sym fresh ∙ ap (λ (t : Term). list_any (same_id t) ss) (sym same) ∙ one)

  pub not_one : (x : ChildSpec) → x.id ≡ s.id → (xs : List ChildSpec) → AllByRecursion (IsOne ss) xs → IsNotAmong xs x
  not_one x same [] ones = tt
  not_one x same (y ∷ xs) ones = (λ is. another y (ap (λ (z : ChildSpec). z.id) is ∙ same) ones.0, not_one x same xs ones.1)

  pub still_apart : (new xs : List ChildSpec) → AllByRecursion (IsOne ss) xs → AreNotAmong new xs → AreNotAmong (s ∷ new) xs
  still_apart new [] ones apart = tt
  still_apart new (x ∷ xs) ones apart =
      ((λ is. another x (ap (λ (z : ChildSpec). z.id) (sym is)) ones.0, apart.0), still_apart new xs ones.1 apart.1)

-- What is held of these specifications, in order, and what is new.
record TakesSpecs (specs held : List ChildSpec) (before after : List Child) : Type 0 where
  stay : List ChildSpec
  new : List ChildSpec
  were : IsPermutation (held ++ stay) (specs_in before)
  are : IsPermutation (new ++ stay) (specs_in after)
  lost : AreNotAmong new held
  ids : AllByRecursion (IsOne specs) held
  news : AllByRecursion (IsOne specs) new

module _ (s : ChildSpec) (ss : List ChildSpec) (fresh : list_any (same_id s.id) ss ≡ false) where
  one_new : (es : List ChildEdit) (before after : List Child) → TakesSpecs ss (formers es) before after → TakesSpecs (s ∷ ss) (formers es) before (child_for s None ∷ after)
  one_new es before after t = record {
    stay = t.stay;
    new = s ∷ t.new;
    were = t.were;
    are = IsPermutation-cons s (t.new ++ t.stay) (specs_in after) t.are;
    lost = still_apart s ss fresh t.new (formers es) t.ids t.lost;
    ids = ones_more s ss (formers es) t.ids;
    news = (first_one s ss s refl, ones_more s ss t.new t.news);
  }

  -- one that is specified as before
  one_same : (es : List ChildEdit) (c : Child) (cs others after : List Child) → c.spec ≡ s → IsPermutation cs (c ∷ others) → TakesSpecs ss (formers es) others after → TakesSpecs (s ∷ ss) (formers es) cs (with_spec s c ∷ after)
  one_same es c cs others after same taken t =
      let held = formers es in
      let back = IsPermutation-sym (specs_in cs) (specs_in (c ∷ others)) (IsPermutation-map (λ (d : Child). d.spec) cs (c ∷ others) taken) in
      record {
        stay = s ∷ t.stay;
        new = t.new;
        were = IsPermutation-trans (held ++ s ∷ t.stay) (s ∷ (held ++ t.stay)) (specs_in cs) (IsPermutation-middle held s t.stay)
            (IsPermutation-trans (s ∷ (held ++ t.stay)) (s ∷ specs_in others) (specs_in cs) (IsPermutation-cons s (held ++ t.stay) (specs_in others) t.were)
            (subst (λ (x : ChildSpec). IsPermutation (x ∷ specs_in others) (specs_in cs)) same back));
        are = IsPermutation-trans (t.new ++ s ∷ t.stay) (s ∷ (t.new ++ t.stay)) (s ∷ specs_in after) (IsPermutation-middle t.new s t.stay)
            (IsPermutation-cons s (t.new ++ t.stay) (specs_in after) t.are);
        lost = t.lost;
        ids = ones_more s ss held t.ids;
        news = ones_more s ss t.new t.news;
      }

  -- one that is specified otherwise
  one_lost : (es : List ChildEdit) (c : Child) (it : ChildSpec) (cs others after : List Child) → it ≡ c.spec → (c.spec ≡ s → ⊥) → has_id s.id c ≡ true → IsPermutation cs (c ∷ others) → TakesSpecs ss (formers es) others after → TakesSpecs (s ∷ ss) (it ∷ formers es) cs (with_spec s c ∷ after)
  one_lost es c it cs others after is other has taken t =
      let held = formers es in
      let id : it.id ≡ s.id = ap (λ (x : ChildSpec). x.id) is ∙ id_is s.id c.spec has in
      let back = IsPermutation-sym (specs_in cs) (specs_in (c ∷ others)) (IsPermutation-map (λ (d : Child). d.spec) cs (c ∷ others) taken) in
      record {
        stay = t.stay;
        new = s ∷ t.new;
        were = IsPermutation-trans (it ∷ (held ++ t.stay)) (it ∷ specs_in others) (specs_in cs) (IsPermutation-cons it (held ++ t.stay) (specs_in others) t.were)
            (subst (λ (x : ChildSpec). IsPermutation (x ∷ specs_in others) (specs_in cs)) (sym is) back);
        are = IsPermutation-cons s (t.new ++ t.stay) (specs_in after) t.are;
        lost = ((λ same. other (sym is ∙ sym same), not_one s ss fresh it id t.new t.news), still_apart s ss fresh t.new held t.ids t.lost);
        ids = (first_one s ss it (sym id), ones_more s ss held t.ids);
        news = (first_one s ss s refl, ones_more s ss t.new t.news);
      }

  one_kept : (e : ChildEdit) (es : List ChildEdit) (c : Child) (cs others after : List Child) → IsEdit s (Some c) e → has_id s.id c ≡ true → IsPermutation cs (c ∷ others) → TakesSpecs ss (formers es) others after → TakesSpecs (s ∷ ss) (formers (e ∷ es)) cs (with_spec s c ∷ after)
  one_kept Added es c cs others after is has taken t = absurd is
  one_kept (Kept from None) es c cs others after is has taken t = one_same es c cs others after is taken t
  one_kept (Kept from (Some it)) es c cs others after is has taken t = one_lost es c it cs others after is.0 is.1 has taken t

  one_added : (e : ChildEdit) (es : List ChildEdit) (cs after : List Child) → IsEdit s None e → TakesSpecs ss (formers es) cs after → TakesSpecs (s ∷ ss) (formers (e ∷ es)) cs (child_for s None ∷ after)
  one_added Added es cs after is t = one_new es cs after t
  one_added (Kept from former) es cs after is t = absurd is

  one_taken : (e : ChildEdit) (es : List ChildEdit) (cs after : List Child) (o : Option ℕ) → position (has_id s.id) cs ≡ o → IsEdit s (option_and_then (slice_get cs) o) e → TakesSpecs ss (formers es) (without_at o cs) after → TakesSpecs (s ∷ ss) (formers (e ∷ es)) cs (child_for s (option_and_then (slice_get cs) o) ∷ after)
  one_taken e es cs after None at is t = one_added e es cs after is t
  one_taken e es cs after (Some k) at is t =
      let (c, here, has) = found (has_id s.id) cs k at in
      let index = position-Some (has_id s.id) cs k c at in
      let taken : IsPermutation cs (c ∷ remove cs k) = IsPermutation-remove cs k c index.0 (got_is cs k c here) in
      subst (λ (x : Option Child). TakesSpecs (s ∷ ss) (formers (e ∷ es)) cs (child_for s x ∷ after)) (sym here)
      (one_kept e es c cs (remove cs k) after (subst (λ (x : Option Child). IsEdit s x e) here is) has taken t)
    where
      got_is : (xs : List Child) (n : ℕ) (x : Child) → slice_get xs n ≡ Some x → x ≡ get_or xs n x
      got_is [] n x there = refl
      got_is (y ∷ xs) zero x there = sym (some_is there)
      got_is (y ∷ xs) (suc n) x there = got_is xs n x there

taken : (specs : List ChildSpec) (cs : List Child) (edits : List ChildEdit) → are_distinct specs ≡ true → AreEdits specs cs edits → TakesSpecs specs (formers edits) cs (renewed specs cs)
taken [] cs [] distinct are = record { stay = specs_in cs; new = []; were = IsPermutation-refl (specs_in cs); are = IsPermutation-refl (specs_in cs); lost = tt; ids = tt; news = tt }
taken [] cs (e ∷ es) distinct are = absurd are
taken (s ∷ ss) cs [] distinct are = absurd are
taken (s ∷ ss) cs (e ∷ es) distinct are =
    let both = and_parts (not (list_any (same_id s.id) ss)) (are_distinct ss) distinct in
    one_taken s ss (not_true _ both.0) e es cs (renewed ss (without s.id cs)) (position (has_id s.id) cs) refl are.0 (taken ss (without s.id cs) es both.1 are.1)

-- What is held is lost.
pub formers_lost : (specs : List ChildSpec) (cs : List Child) (edits : List ChildEdit) → AreDistinct specs → AreEdits specs cs edits → AreSpecsLost (formers edits) cs (renewed specs cs)
formers_lost specs cs edits distinct are =
    let t = taken specs cs edits (distinct_back specs distinct) are in
    record { stay = t.stay; new = t.new; were = t.were; are = t.are; lost = t.lost }

-- So it is of an application at an index.
pub lost_at : (index : ℕ) (specs : List ChildSpec) (edits : List ChildEdit) (apps now : List Application) (a b : Application) → slice_get apps index ≡ Some a → slice_get now index ≡ Some b → b ≡ with_renewed specs a → AreEdits specs a.children edits → AreDistinct specs → AreSpecsLost (formers_at index (Renewed index edits)) (children_at index apps) (children_at index now)
lost_at index specs edits apps now a b stands there is are distinct =
    let lost = formers_lost specs a.children edits distinct are in
    let held : formers edits ≡ formers_at index (Renewed index edits) = sym (ap (λ (yes : Bool). if yes then formers edits else []) (eq-eqb index index refl)) in
    let before : a.children ≡ children_at index apps = sym (ap children_in stands) in
    let after : renewed specs a.children ≡ children_at index now = sym (ap (λ (x : Application). x.children) is) ∙ sym (ap children_in there) in
    subst (λ (xs : List Child). AreSpecsLost (formers_at index (Renewed index edits)) (children_at index apps) xs) after
    (subst (λ (xs : List Child). AreSpecsLost (formers_at index (Renewed index edits)) xs (renewed specs a.children)) before
    (subst (λ (xs : List ChildSpec). AreSpecsLost xs a.children (renewed specs a.children)) held lost))

-- Children that are specified anew a second time, by the same specifications, are as they were.

placed : (p : Child → Bool) (c : Child) (cs : List Child) → p c ≡ true → position p (c ∷ cs) ≡ Some 0
placed p c cs passes = grind (arith, passes)

again : (s : ChildSpec) (o : Option Child) → child_for s (Some (child_for s o)) ≡ child_for s o
again s None = refl
again s (Some c) = refl

specified : (s : ChildSpec) (o : Option Child) → (child_for s o).spec ≡ s
specified s None = refl
specified s (Some c) = refl

pub renewed_again : (specs : List ChildSpec) (cs : List Child) → renewed specs (renewed specs cs) ≡ renewed specs cs
renewed_again [] cs = refl
renewed_again (s ∷ ss) cs =
    let c = child_for s (child_by_id s.id cs) in
    let others = without s.id cs in
    let here = placed (has_id s.id) c (renewed ss others) (has_its s.id c.spec (ap (λ (x : ChildSpec). x.id) (specified s (child_by_id s.id cs)))) in
    ap (λ (o : Option ℕ). child_for s (option_and_then (slice_get (c ∷ renewed ss others)) o) ∷ renewed ss (without_at o (c ∷ renewed ss others))) here
    ∙ ap (λ (x : Child). x ∷ renewed ss (renewed ss others)) (again s (child_by_id s.id cs))
    ∙ ap (λ (xs : List Child). c ∷ xs) (renewed_again ss others)

-- A second time nothing is held: what is held is neither new nor more often there before.

-- a specification as a term, by which two are told apart
as_tree : ChildSpec → Tree
as_tree s = child_tree s (list (rows atom s.modules))

read_back : (s : ChildSpec) → all_of child_of (more (as_tree s) none) ≡ Some (s ∷ [])
unfolding as_tree
read_back s = children_back (more (as_tree s) none) (s ∷ []) ((list (rows atom s.modules), listed refl, refl), tt)

first_or : ChildSpec → List ChildSpec → ChildSpec
first_or s [] = s
first_or s (t ∷ ts) = t

told_apart : (s t : ChildSpec) → as_tree s ≡ as_tree t → s ≡ t
unfolding first_or
told_apart s t same =
    let both : Some (s ∷ []) ≡ Some (t ∷ []) = sym (read_back s) ∙ ap (λ u. all_of child_of (more u none)) same ∙ read_back t in
    ap (first_or s) (same_Some (s ∷ []) (t ∷ []) both)

-- how often it is this one

abbrev one_if : Bool → ℕ
one_if true = 1
one_if false = 0

abbrev weight : ChildSpec → ChildSpec → ℕ
weight s t = one_if (is_eq (tree_cmp (as_tree s) (as_tree t)))

weight_itself : (s : ChildSpec) → weight s s ≡ 1
weight_itself s = ap one_if ((Equal-is (tree_cmp (as_tree s) (as_tree s))).1 (tied_itself tree_cmp-total (as_tree s)))

none_if : (b : Bool) → (b ≡ true → ⊥) → one_if b ≡ 0
none_if true never = absurd (never refl)
none_if false never = refl

weight_other : (s t : ChildSpec) → (t ≡ s → ⊥) → weight s t ≡ 0
weight_other s t other =
    none_if (is_eq (tree_cmp (as_tree s) (as_tree t))) (λ same. other (sym (told_apart s t (tree_cmp-same (as_tree s) (as_tree t) ((Equal-is (tree_cmp (as_tree s) (as_tree t))).0 same)))))

weight_apart : (s : ChildSpec) (ts : List ChildSpec) → IsNotAmong ts s → sum_by (weight s) ts ≡ 0
weight_apart s [] apart = refl
weight_apart s (t ∷ ts) apart =
    sum_by-cons (weight s) t ts ∙ (λ i. weight_other s t apart.0 i + weight_apart s ts apart.1 i)

pub none_lost : (held : List ChildSpec) (cs : List Child) → AreSpecsLost held cs cs → held ≡ []
none_lost [] cs lost = refl
none_lost (s ∷ held) cs lost =
    let f = weight s in
    let before = sum_by-IsPermutation f (s ∷ (held ++ lost.stay)) (specs_in cs) lost.were in
    let after = sum_by-IsPermutation f (lost.new ++ lost.stay) (specs_in cs) lost.are in
    let its = sum_by-cons f s (held ++ lost.stay) in
    let others = sum_by-append f held lost.stay in
    let parts = sum_by-append f lost.new lost.stay in
    let one = weight_itself s in
    let none = weight_apart s lost.new lost.lost.0 in
    absurd (omega (arith, before, after, its, others, parts, one, none))
