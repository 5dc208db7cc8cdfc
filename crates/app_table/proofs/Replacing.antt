-- Specifications that are put in place of others, and put back; and the pieces of applications that are moved.
use Rattle.std.proofs.Common.{◌≡◌, ◌<◌, ◌≤◌, ◌+◌, ◌-◌, ℕ, zero, suc, List, [], ◌∷◌, ◌++◌, Option, Some, refl, sym, ap, ◌∙◌, subst, arith, length, get_or, map, take, drop, slice_set, append_assoc, append-nil, length-append, slice_get, remove}
use Rattle.std.specs.Prelude.{All, IsPermutation}
use Rattle.std.specs.List.{flat_map}
use Rattle.std.proofs.lemmas.List.{drop_more, get_or_at, length-take-le, set_at, take-append-le, take_at, take_more}
use Rattle.std.proofs.lemmas.List.Concat.{flat_map-append}
use Rattle.std.proofs.lemmas.List.Elements.{All-head, All-push, All-tail, All-weaker}
use Rattle.std.proofs.lemmas.List.Sorted.{IsPermutation-append_comm, IsPermutation-append_left, IsPermutation-append_right, IsPermutation-cons, IsPermutation-refl, IsPermutation-trans}
use Rattle.values.proofs.Edits.{changed_at-back, length-changed_at, slice_get-changed_at}
use Rattle.values.specs.Edits.{changed_at}
use Rattle.otp_files.specs.declared.app.AppSpec.{AppSpec}
use Rattle.app_table.proofs.Options.{none_some, some_is}
use Rattle.app_table.specs.Applications.{Application}
use Rattle.app_table.specs.Changes.{all_replaced, put_back, with_spec}
use Rattle.app_table.specs.Pieces.{Piece, app_pieces, child_pieces, held_back, held_former, of_app, pieces}
use Rattle.app_table.specs.Undo.{Fits, GivesBack, IsOfIndex, all_given_up, all_left, all_put, former_of, put_again, with_spec_of}
use Rattle.app_table.specs.declared.specs.FormerSpecs.{FormerSpecs}
use Rattle.app_table.specs.declared.specs.Replaced.{Replaced}

-- ---- lists in another order

module _ {A : Type 0} where
  -- two parts change places
  perm_swap : (us vs ws : List A) → IsPermutation (us ++ (vs ++ ws)) (vs ++ (us ++ ws))
  perm_swap us vs ws =
      subst (λ l. IsPermutation l (vs ++ (us ++ ws))) (append_assoc us vs ws) (subst (λ r. IsPermutation ((us ++ vs) ++ ws) r) (append_assoc vs us ws) (IsPermutation-append_left ws (us ++ vs) (vs ++ us) (IsPermutation-append_comm us vs)))

  pub taken_out : {X : Type 0} (f : X → List A) (xs : List X) (i : ℕ) (x : X) → slice_get xs i ≡ Some x → IsPermutation (f x ++ flat_map f (remove xs i)) (flat_map f xs)
  taken_out f [] i x at = absurd (none_some at)
  taken_out f (y ∷ ys) zero x at =
      subst (λ z. IsPermutation (f z ++ flat_map f ys) (f y ++ flat_map f ys)) (some_is at) (IsPermutation-refl (f y ++ flat_map f ys))
  taken_out f (y ∷ ys) (suc i) x at =
      IsPermutation-trans (f x ++ (f y ++ flat_map f (remove ys i))) (f y ++ (f x ++ flat_map f (remove ys i))) (f y ++ flat_map f ys) (perm_swap (f x) (f y) (flat_map f (remove ys i))) (IsPermutation-append_right (f y) (f x ++ flat_map f (remove ys i)) (flat_map f ys) (taken_out f ys i x at))

-- ---- what stands at an index after a change

module _ {A : Type 0} where
  pub get_append : (xs ys : List A) (p : ℕ) (x : A) → slice_get xs p ≡ Some x → slice_get (xs ++ ys) p ≡ Some x
  get_append [] ys p x at = absurd (none_some at)
  get_append (y ∷ xs) ys zero x at = at
  get_append (y ∷ xs) ys (suc p) x at = get_append xs ys p x at

  pub get_below : (xs : List A) (p : ℕ) (x : A) → slice_get xs p ≡ Some x → p < length xs
  get_below [] p x at = absurd (none_some at)
  get_below (y ∷ xs) zero x at = omega arith
  get_below (y ∷ xs) (suc p) x at = let below : p < length xs = get_below xs p x at in omega (arith, below)

  pub changed_append : (f : A → A) (xs ys : List A) (p : ℕ) (x : A) → slice_get xs p ≡ Some x → changed_at f (xs ++ ys) p ≡ changed_at f xs p ++ ys
  changed_append f [] ys p x at = absurd (none_some at)
  changed_append f (y ∷ xs) ys zero x at = refl
  changed_append f (y ∷ xs) ys (suc p) x at = ap (λ zs. y ∷ zs) (changed_append f xs ys p x at)

-- an application of a name at an index
abbrev OfName : List ℕ → ℕ → List Application → Type 0
OfName name p apps = (a : Application) × (slice_get apps p ≡ Some a) × (a.spec.name ≡ name)

pub name_kept : (name : List ℕ) (p q : ℕ) (spec : AppSpec) (apps : List Application) → OfName name p apps → OfName spec.name q apps → OfName name p (changed_at (with_spec spec) apps q)
name_kept name p q spec [] has other = absurd (none_some has.1)
name_kept name zero zero spec (x ∷ xs) has other =
    (with_spec spec x, refl, sym other.2 ∙ ap (λ (a : Application). a.spec.name) (sym (some_is other.1)) ∙ ap (λ (a : Application). a.spec.name) (some_is has.1) ∙ has.2)
name_kept name zero (suc q) spec (x ∷ xs) has other = (has.0, has.1, has.2)
name_kept name (suc p) zero spec (x ∷ xs) has other = (has.0, has.1, has.2)
name_kept name (suc p) (suc q) spec (x ∷ xs) has other = name_kept name p q spec xs (has.0, has.1, has.2) (other.0, other.1, other.2)

all_kept : (name : List ℕ) (p : ℕ) (rs : List Replaced) (apps : List Application) → OfName name p apps → All (λ r. IsOfIndex r apps) rs → OfName name p (all_replaced rs apps)
all_kept name p [] apps has all = has
all_kept name p (r ∷ rs) apps has all =
    let later = All-tail (λ r. IsOfIndex r apps) r rs all in
    name_kept name p r.index r.spec (all_replaced rs apps) (all_kept name p rs apps has later) (all_kept r.spec.name r.index rs apps (All-head (λ r. IsOfIndex r apps) r rs all) later)

-- the application at the index of the first, when the others are put back
first_there : (r : Replaced) (rs : List Replaced) (apps : List Application) → All (λ r. IsOfIndex r apps) (r ∷ rs) → OfName r.spec.name r.index (all_replaced rs apps)
first_there r rs apps all = all_kept r.spec.name r.index rs apps (All-head (λ r. IsOfIndex r apps) r rs all) (All-tail (λ r. IsOfIndex r apps) r rs all)

pub length-replaced : (rs : List Replaced) (apps : List Application) → length (all_replaced rs apps) ≡ length apps
length-replaced [] apps = refl
length-replaced (r ∷ rs) apps = length-changed_at (with_spec r.spec) (all_replaced rs apps) r.index ∙ length-replaced rs apps

-- ---- they are put in place, and put back

-- one more that is replaced
replaced_push : (rs : List Replaced) (r : Replaced) (apps : List Application) → all_replaced (rs ++ r ∷ []) apps ≡ all_replaced rs (changed_at (with_spec r.spec) apps r.index)
replaced_push [] r apps = refl
replaced_push (s ∷ rs) r apps = ap (λ (v : List Application). changed_at (with_spec s.spec) v s.index) (replaced_push rs r apps)

replaced_append : (rs : List Replaced) (apps ys : List Application) → All (λ r. IsOfIndex r apps) rs → all_replaced rs (apps ++ ys) ≡ all_replaced rs apps ++ ys
replaced_append [] apps ys all = refl
replaced_append (r ∷ rs) apps ys all =
    let there = first_there r rs apps all in
    ap (λ (v : List Application). changed_at (with_spec r.spec) v r.index) (replaced_append rs apps ys (All-tail (λ r. IsOfIndex r apps) r rs all)) ∙ changed_append (with_spec r.spec) (all_replaced rs apps) ys r.index there.0 there.1

pub gives_replaced : (before : List Application) (rs : List Replaced) (apps : List Application) (p : ℕ) (a : Application) (spec : AppSpec) → slice_get apps p ≡ Some a → a.spec.name ≡ spec.name → GivesBack before rs apps → GivesBack before (rs ++ record { index = p; spec = a.spec } ∷ []) (changed_at (with_spec spec) apps p)
gives_replaced before rs apps p a spec at name g =
    let apps' = changed_at (with_spec spec) apps p in
    let r : Replaced = record { index = p; spec = a.spec } in
    let long = length-changed_at (with_spec spec) apps p in
    record {
      added = subst (λ n. length before ≤ n) (sym long) g.added;
      indices = All-push (λ s. IsOfIndex s apps') rs r (All-weaker (λ s. IsOfIndex s apps) (λ s. IsOfIndex s apps') (λ s has. name_kept s.spec.name s.index p spec apps has (a, at, name)) rs g.indices) (with_spec spec a, slice_get-changed_at (with_spec spec) apps p a at, sym name);
      gives = ap (take (length before)) (replaced_push rs r apps' ∙ ap (all_replaced rs) (changed_at-back (with_spec spec) (with_spec a.spec) apps p a at refl)) ∙ g.gives;
    }

pub gives_added : (before : List Application) (rs : List Replaced) (apps : List Application) (x : Application) → GivesBack before rs apps → GivesBack before rs (apps ++ x ∷ [])
gives_added before rs apps x g =
    let long = length-append apps (x ∷ []) in
    let same = length-replaced rs apps in
    let within : length before ≤ length (all_replaced rs apps) = omega (arith, same, g.added) in
    record {
      added = omega (arith, long, g.added);
      indices = All-weaker (λ s. IsOfIndex s apps) (λ s. IsOfIndex s (apps ++ x ∷ [])) (λ s has. (has.0, get_append apps (x ∷ []) s.index has.0 has.1, has.2)) rs g.indices;
      gives = ap (take (length before)) (replaced_append rs apps (x ∷ []) g.indices) ∙ take-append-le (length before) (all_replaced rs apps) (x ∷ []) within ∙ g.gives;
    }

pub gives_all : (before : List Application) (rs : List Replaced) (apps : List Application) (n : ℕ) → n ≡ length apps - length before → GivesBack before rs apps → put_back (record { replaced = rs; added = n }) apps ≡ before
gives_all before rs apps n is g =
    let same = length-replaced rs apps in
    let count : length (all_replaced rs apps) - n ≡ length before = omega (arith, same, is, g.added) in
    ap (λ k. take k (all_replaced rs apps)) count ∙ g.gives

pub gives_itself : (apps : List Application) → GivesBack apps [] apps
gives_itself apps = record {
  added = omega arith;
  indices = λ k d within. absurd (omega (arith, within));
  gives = ap (take (length apps)) (sym (append-nil apps)) ∙ take_at apps [] (length apps) refl;
}

-- ---- they are put back, and put in place again

changed_back : (r : Replaced) (spec : AppSpec) (apps : List Application) (a : Application) → slice_get apps r.index ≡ Some a → changed_at (with_spec a.spec) (changed_at (with_spec r.spec) apps r.index) r.index ≡ apps
changed_back r spec apps a at = changed_at-back (with_spec r.spec) (with_spec a.spec) apps r.index a at refl

pub puts_again : (rs : List Replaced) (apps : List Application) → All (λ r. IsOfIndex r apps) rs → all_put (all_given_up rs apps) (all_replaced rs apps) ≡ apps
puts_again [] apps all = refl
puts_again (r ∷ rs) apps all =
    let there = first_there r rs apps all in
    let rest = all_replaced rs apps in
    let left = all_given_up rs apps in
    subst (λ (o : Option Application). all_put (with_spec_of o r ∷ all_given_up rs apps) (changed_at (with_spec r.spec) (all_replaced rs apps) r.index) ≡ apps) (sym there.1) (
    ap (all_put left) (changed_back r r.spec rest there.0 there.1) ∙ puts_again rs apps (All-tail (λ r. IsOfIndex r apps) r rs all)
    )

pub leaves_again : (rs : List Replaced) (apps : List Application) → All (λ r. IsOfIndex r apps) rs → all_left (all_given_up rs apps) (all_replaced rs apps) ≡ rs
leaves_again [] apps all = refl
leaves_again (r ∷ rs) apps all =
    let there = first_there r rs apps all in
    let rest = all_replaced rs apps in
    let left = all_given_up rs apps in
    let a = there.0 in
    let it : Replaced = record r { spec = a.spec } in
    subst (λ (o : Option Application). all_left (with_spec_of o r ∷ all_given_up rs apps) (changed_at (with_spec r.spec) (all_replaced rs apps) r.index) ≡ r ∷ rs) (sym there.1) (
    ap (λ (o : Option Application). with_spec_of o it ∷ all_left left (changed_at (with_spec a.spec) (changed_at (with_spec r.spec) rest r.index) r.index)) (slice_get-changed_at (with_spec r.spec) rest r.index a there.1) ∙ ap (λ (v : List Application). r ∷ all_left left v) (changed_back r r.spec rest a there.1) ∙ ap (λ (ss : List Replaced). r ∷ ss) (leaves_again rs apps (All-tail (λ r. IsOfIndex r apps) r rs all))
    )

-- ---- pieces

-- a specification changes indices with that of an application
pieces_changed : (apps : List Application) (p : ℕ) (spec : AppSpec) (a : Application) → slice_get apps p ≡ Some a → a.spec.name ≡ spec.name → IsPermutation (of_app a.spec ∷ pieces (changed_at (with_spec spec) apps p)) (of_app spec ∷ pieces apps)
pieces_changed [] p spec a at name = absurd (none_some at)
pieces_changed (x ∷ xs) zero spec a at name =
    let is = some_is at in
    let same : x.spec.name ≡ spec.name = ap (λ (b : Application). b.spec.name) is ∙ name in
    subst (λ (b : Application). IsPermutation (of_app b.spec ∷ of_app spec ∷ (child_pieces spec.name x.children ++ pieces xs)) (of_app spec ∷ of_app x.spec ∷ (child_pieces x.spec.name x.children ++ pieces xs))) is (
    subst (λ (n : List ℕ). IsPermutation (of_app x.spec ∷ of_app spec ∷ (child_pieces n x.children ++ pieces xs)) (of_app spec ∷ of_app x.spec ∷ (child_pieces x.spec.name x.children ++ pieces xs))) same (
    perm_swap (of_app x.spec ∷ []) (of_app spec ∷ []) (child_pieces x.spec.name x.children ++ pieces xs)
    ))
pieces_changed (x ∷ xs) (suc p) spec a at name =
    let old = pieces (changed_at (with_spec spec) xs p) in
    IsPermutation-trans (of_app a.spec ∷ (app_pieces x ++ old)) (app_pieces x ++ (of_app a.spec ∷ old)) (of_app spec ∷ (app_pieces x ++ pieces xs)) (perm_swap (of_app a.spec ∷ []) (app_pieces x) old) (
    IsPermutation-trans (app_pieces x ++ (of_app a.spec ∷ old)) (app_pieces x ++ (of_app spec ∷ pieces xs)) (of_app spec ∷ (app_pieces x ++ pieces xs)) (IsPermutation-append_right (app_pieces x) (of_app a.spec ∷ old) (of_app spec ∷ pieces xs) (pieces_changed xs p spec a at name)) (perm_swap (app_pieces x) (of_app spec ∷ []) (pieces xs))
    )

abbrev kept : Replaced → Piece
kept r = of_app r.spec

pub pieces_back : (rs : List Replaced) (apps : List Application) → All (λ r. IsOfIndex r apps) rs → IsPermutation (map kept (all_given_up rs apps) ++ pieces (all_replaced rs apps)) (map kept rs ++ pieces apps)
pieces_back [] apps all = IsPermutation-refl (pieces apps)
pieces_back (r ∷ rs) apps all =
    let there = first_there r rs apps all in
    let a = there.0 in
    let left = map kept (all_given_up rs apps) in
    let rest = all_replaced rs apps in
    let after = pieces (changed_at (with_spec r.spec) rest r.index) in
    subst (λ (o : Option Application). IsPermutation (of_app (with_spec_of o r).spec ∷ (map kept (all_given_up rs apps) ++ pieces (changed_at (with_spec r.spec) (all_replaced rs apps) r.index))) (of_app r.spec ∷ (map kept rs ++ pieces apps))) (sym there.1) (
    IsPermutation-trans (of_app a.spec ∷ (left ++ after)) (left ++ (of_app a.spec ∷ after)) (of_app r.spec ∷ (map kept rs ++ pieces apps)) (perm_swap (of_app a.spec ∷ []) left after) (
    IsPermutation-trans (left ++ (of_app a.spec ∷ after)) (left ++ (of_app r.spec ∷ pieces rest)) (of_app r.spec ∷ (map kept rs ++ pieces apps)) (IsPermutation-append_right left (of_app a.spec ∷ after) (of_app r.spec ∷ pieces rest) (pieces_changed rest r.index r.spec a there.1 there.2)) (
    IsPermutation-trans (left ++ (of_app r.spec ∷ pieces rest)) (of_app r.spec ∷ (left ++ pieces rest)) (of_app r.spec ∷ (map kept rs ++ pieces apps)) (perm_swap left (of_app r.spec ∷ []) (pieces rest)) (
    IsPermutation-cons (of_app r.spec) (left ++ pieces rest) (map kept rs ++ pieces apps) (pieces_back rs apps (All-tail (λ r. IsOfIndex r apps) r rs all))
    )))
    )

-- the applications that were added are taken out first
pub pieces_split : (left : List Piece) (apps added whole : List Application) (all : List Piece) → apps ++ added ≡ whole → IsPermutation (left ++ pieces whole) all → IsPermutation ((left ++ pieces added) ++ pieces apps) all
pieces_split left apps added whole all is perm =
    let joined : pieces apps ++ pieces added ≡ pieces whole = sym (flat_map-append app_pieces apps added) ∙ ap pieces is in
    let moved = IsPermutation-append_right left (pieces added ++ pieces apps) (pieces apps ++ pieces added) (IsPermutation-append_comm (pieces added) (pieces apps)) in
    subst (λ l. IsPermutation l all) (sym (append_assoc left (pieces added) (pieces apps))) (
    IsPermutation-trans (left ++ (pieces added ++ pieces apps)) (left ++ (pieces apps ++ pieces added)) all moved (subst (λ t. IsPermutation (left ++ t) all) (sym joined) perm)
    )

-- ---- what the calls give

-- one more is put back, from the last to the first
pub back_more : (xs : List Replaced) (apps now after : List Application) (k n : ℕ) (left : List Replaced) (d it : Replaced) → n ≡ k + 1 → n ≤ length xs → now ≡ all_replaced (drop n xs) apps → left ≡ take n xs ++ all_given_up (drop n xs) apps → after ≡ changed_at (with_spec (get_or left k d).spec) now (get_or left k d).index → it ≡ with_spec_of (slice_get now (get_or left k d).index) (get_or left k d) → (after ≡ all_replaced (drop k xs) apps) × (slice_set left k it ≡ take k xs ++ all_given_up (drop k xs) apps)
back_more xs apps now after k n left d it next within now_is left_is done given =
    let below : k < length xs = omega (arith, next, within) in
    let r = get_or xs k d in
    let front = take k xs in
    let rest = drop (k + 1) xs in
    let up = all_given_up rest apps in
    let whole = all_replaced rest apps in
    let left_split : left ≡ front ++ r ∷ up = left_is ∙ ap (λ m. take m xs ++ all_given_up (drop m xs) apps) next ∙ ap (λ (l : List Replaced). l ++ up) (take_more xs k d below) ∙ append_assoc front (r ∷ []) up in
    let long = length-take-le k xs (let less : k ≤ length xs = omega arith in less) in
    let same : get_or left k d ≡ r = ap (λ (l : List Replaced). get_or l k d) left_split ∙ get_or_at front r up d k long in
    let seen : now ≡ whole = now_is ∙ ap (λ m. all_replaced (drop m xs) apps) next in
    let parts = drop_more xs k d below in
    let it_is : it ≡ with_spec_of (slice_get whole r.index) r = given ∙ ap (λ (z : Replaced). with_spec_of (slice_get now z.index) z) same ∙ ap (λ (v : List Application). with_spec_of (slice_get v r.index) r) seen in (
      done ∙ ap (λ (z : Replaced). changed_at (with_spec z.spec) now z.index) same ∙ ap (λ (v : List Application). changed_at (with_spec r.spec) v r.index) seen ∙ sym (ap (λ (l : List Replaced). all_replaced l apps) parts),
      ap (λ (l : List Replaced). slice_set l k it) left_split ∙ set_at front r up it k long ∙ ap (λ (z : Replaced). front ++ z ∷ up) it_is ∙ sym (ap (λ (l : List Replaced). front ++ all_given_up l apps) parts),
    )

module _ (former : FormerSpecs) (apps after : List Application) (left : List Replaced) (added : List Application) (fits : Fits former apps) (left_is : left ≡ all_given_up former.replaced apps) (whole : after ++ added ≡ all_replaced former.replaced apps) where
  pub put_back_is : length added ≡ former.added → after ≡ put_back former apps
  put_back_is count =
      let same = ap length whole in
      let joined = length-append after added in
      let n : length (all_replaced former.replaced apps) - former.added ≡ length after = omega (arith, same, joined, count) in
      sym (take_at after added (length after) refl) ∙ ap (take (length after)) whole ∙ ap (λ m. take m (all_replaced former.replaced apps)) (sym n)

  pub again_is : length added ≡ former.added → (put_again (record { replaced = left; added = added }) after ≡ apps) × (former_of (record { replaced = left; added = added }) after ≡ former)
  again_is count = (
    ap (λ (l : List Replaced). all_put l (after ++ added)) left_is ∙ ap (all_put (all_given_up former.replaced apps)) whole ∙ puts_again former.replaced apps fits.1,
    ap (λ (l : List Replaced). let f : FormerSpecs = record { replaced = l; added = length added } in f) (ap (λ (l : List Replaced). all_left l (after ++ added)) left_is ∙ ap (all_left (all_given_up former.replaced apps)) whole ∙ leaves_again former.replaced apps fits.1) ∙ ap (λ n. let f : FormerSpecs = record { replaced = former.replaced; added = n } in f) count,
  )

  pub back_pieces : IsPermutation (held_back (record { replaced = left; added = added }) ++ pieces after) (held_former former ++ pieces apps)
  back_pieces =
      let perm = pieces_back former.replaced apps fits.1 in
      pieces_split (map kept left) after added (all_replaced former.replaced apps) (map kept former.replaced ++ pieces apps) whole (subst (λ (l : List Replaced). IsPermutation (map kept l ++ pieces (all_replaced former.replaced apps)) (map kept former.replaced ++ pieces apps)) (sym left_is) perm)
