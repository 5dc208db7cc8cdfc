-- Children that are specified anew: where each stands then, and that what takes a specification back gives the children before.
use Rattle.std.proofs.Common.{◌≡◌, ◌<◌, ◌≤◌, ◌+◌, ℕ, zero, suc, List, [], ◌∷◌, ◌++◌, Option, None, Some, refl, sym, ap, ◌∙◌, subst, arith, length, get_or, take, drop, position, slice_get, slice_set, zero-add}
use Rattle.std.specs.Prelude.{insert, option_and_then, option_map, remove}
use Rattle.std.proofs.lemmas.List.Edits.{length-insert, length-remove}
use Rattle.std.proofs.lemmas.Option.{slice_get_past}
use Rattle.values.proofs.Edits.{changed_at-back, changed_at-insert, insert-remove, remove-insert}
use Rattle.values.specs.Edits.{changed_at}
use Rattle.child_specs.specs.declared.child.ChildSpec.{ChildSpec}
use Rattle.app_table.proofs.Options.{none_some, some_is}
use Rattle.app_table.proofs.Spots.{found, got}
use Rattle.app_table.proofs.Writes.{changed_from_write, changed_past}
use Rattle.app_table.specs.Applications.{has_id}
use Rattle.app_table.specs.Renewing.{AreEdits, IsEdit, child_by_id, child_for, moved, moved_if, renewed, unedited, unrenewed, with_former, with_spec, without, without_at}
use Rattle.app_table.specs.declared.child.Child.{Child}
use Rattle.app_table.specs.declared.renewing.ChildEdit.{ChildEdit}
use Rattle.app_table.specs.declared.renewing.ChildEdit.TheVariants.{Added, Kept}

-- what stands at an index
at_index : {A : Type 0} (xs : List A) (k : ℕ) → k < length xs → (x : A) × (slice_get xs k ≡ Some x)
at_index [] k within = absurd (omega (arith, within))
at_index (x ∷ xs) zero within = (x, refl)
at_index (x ∷ xs) (suc k) within = at_index xs k (omega (arith, within))

get_insert : {A : Type 0} (xs : List A) (k : ℕ) (x : A) → k ≤ length xs → slice_get (insert xs k x) k ≡ Some x
get_insert xs zero x within = refl
get_insert [] (suc k) x within = absurd (omega (arith, within))
get_insert (y ∷ xs) (suc k) x within = get_insert xs k x (omega (arith, within))

-- Where a child moves to.

moved_there : (xs : List Child) (from to : ℕ) (c d : Child) → slice_get xs from ≡ Some c → slice_get xs to ≡ Some d → moved from to xs ≡ insert (remove xs from) to c
moved_there xs from to c d at there = λ i. moved_if (at i) (there i) from to xs

pub moved_by : (xs : List Child) (from to : ℕ) (c : Child) → from < length xs → to < length xs → slice_get xs from ≡ Some c → moved from to xs ≡ insert (remove xs from) to c
moved_by xs from to c within there at =
    let (d, is) = at_index xs to there in
    moved_there xs from to c d at is

pub moved_as : (xs : List Child) (from to : ℕ) (c : Child) → from < length xs → to < length xs → c ≡ get_or xs from c → moved from to xs ≡ insert (remove xs from) to c
moved_as xs from to c within there is = moved_by xs from to c within there (got xs from c within ∙ ap Some (sym is))

pub moved_nowhere : (xs : List Child) (from to : ℕ) → from ≡ to → from < length xs → moved from to xs ≡ xs
moved_nowhere xs from to same within =
    let (c, at) = at_index xs from within in
    subst (λ k. moved from k xs ≡ xs) same (moved_by xs from from c within within at ∙ insert-remove xs from c at)

pub moved_past : (xs : List Child) (from to : ℕ) → length xs ≤ to → moved from to xs ≡ xs
moved_past xs from to past =
    ap (λ o. moved_if (slice_get xs from) o from to xs) (slice_get_past xs to past) ∙ nowhere (slice_get xs from)
  where
    nowhere : (o : Option Child) → moved_if o None from to xs ≡ xs
    nowhere None = refl
    nowhere (Some c) = refl

pub moved_from_past : (xs : List Child) (from to : ℕ) → length xs ≤ from → moved from to xs ≡ xs
moved_from_past xs from to past = ap (λ o. moved_if o (slice_get xs to) from to xs) (slice_get_past xs from past)

long_moved : (xs : List Child) (from to : ℕ) (c : Child) → from < length xs → to < length xs → length (insert (remove xs from) to c) ≡ length xs
long_moved xs from to c within there =
    let less = length-remove xs from within in
    length-insert (remove xs from) to c (omega (arith, less, there)) ∙ less

-- it moves back
pub moved_back : (xs : List Child) (from to : ℕ) → from < length xs → to < length xs → moved to from (moved from to xs) ≡ xs
moved_back xs from to within there =
    let (c, at) = at_index xs from within in
    let less = length-remove xs from within in
    let index : to ≤ length (remove xs from) = omega (arith, less, there) in
    let now = insert (remove xs from) to c in
    let long = long_moved xs from to c within there in
    let from_now : from < length now = omega (arith, long, within) in
    let to_now : to < length now = omega (arith, long, there) in
    ap (moved to from) (moved_by xs from to c within there at)
    ∙ moved_by now to from c to_now from_now (get_insert (remove xs from) to c index)
    ∙ ap (λ (ys : List Child). insert ys from c) (remove-insert (remove xs from) to c index)
    ∙ insert-remove xs from c at

-- What a new specification makes of those from an index on.

insert_front : (xs : List Child) (at k : ℕ) (y : Child) → at + k < length xs → insert (remove xs (at + k)) at y ≡ take at xs ++ y ∷ remove (drop at xs) k
insert_front [] at k y within = absurd (omega (arith, within))
insert_front (x ∷ xs) zero k y within = ap (λ n. y ∷ remove (x ∷ xs) n) (zero-add k)
insert_front (x ∷ xs) (suc at) k y within =
    let next : suc at + k ≡ suc (at + k) = omega arith in
    ap (λ n. insert (remove (x ∷ xs) n) (suc at) y) next ∙ ap (λ (ys : List Child). x ∷ ys) (insert_front xs at k y (omega (arith, within)))

insert_behind : (xs : List Child) (at : ℕ) (y : Child) → at ≤ length xs → insert xs at y ≡ take at xs ++ y ∷ drop at xs
insert_behind xs zero y within = refl
insert_behind [] (suc at) y within = absurd (omega (arith, within))
insert_behind (x ∷ xs) (suc at) y within = ap (λ (ys : List Child). x ∷ ys) (insert_behind xs at y (omega (arith, within)))

get_behind : (xs : List Child) (at k : ℕ) → slice_get xs (at + k) ≡ slice_get (drop at xs) k
get_behind xs zero k = ap (slice_get xs) (zero-add k)
get_behind [] (suc at) k = nothing (suc at + k)
  where
    nothing : (n : ℕ) → slice_get (let none : List Child = [] in none) n ≡ slice_get (let none : List Child = [] in none) k
    nothing n = none_at n ∙ sym (none_at k)
      where
        none_at : (m : ℕ) → slice_get (let none : List Child = [] in none) m ≡ None
        none_at zero = refl
        none_at (suc m) = refl
get_behind (x ∷ xs) (suc at) k =
    let next : suc at + k ≡ suc (at + k) = omega arith in
    ap (slice_get (x ∷ xs)) next ∙ get_behind xs at k

within_behind : (xs : List Child) (at k : ℕ) (c : Child) → slice_get (drop at xs) k ≡ Some c → at + k < length xs
within_behind xs at k c is = below xs (at + k) c (get_behind xs at k ∙ is)
  where
    below : (ys : List Child) (n : ℕ) (d : Child) → slice_get ys n ≡ Some d → n < length ys
    below [] n d there = let no : ⊥ = cc in absurd no
    below (y ∷ ys) zero d there = omega arith
    below (y ∷ ys) (suc n) d there = let less = below ys n d there in omega (arith, less)

-- one that is there
pub kept_renewed : (xs now : List Child) (at k : ℕ) (s : ChildSpec) → position (has_id s.id) (drop at xs) ≡ Some k → ((c : Child) → slice_get xs (at + k) ≡ Some c → now ≡ insert (remove xs (at + k)) at (with_spec s c)) → now ≡ take at xs ++ child_for s (child_by_id s.id (drop at xs)) ∷ without s.id (drop at xs)
kept_renewed xs now at k s there kept =
    let (c, is, has) = found (has_id s.id) (drop at xs) k there in
    let by_id : child_by_id s.id (drop at xs) ≡ Some c = ap (option_and_then (slice_get (drop at xs))) there ∙ is in
    kept c (get_behind xs at k ∙ is)
    ∙ insert_front xs at k (with_spec s c) (within_behind xs at k c is)
    ∙ (λ i. take at xs ++ child_for s (sym by_id i) ∷ without_at (sym there i) (drop at xs))

pub index_within : (xs : List Child) (at k : ℕ) (s : ChildSpec) → position (has_id s.id) (drop at xs) ≡ Some k → at + k < length xs
index_within xs at k s there =
    let (c, is, has) = found (has_id s.id) (drop at xs) k there in
    within_behind xs at k c is

-- one that is new
pub added_renewed : (xs now : List Child) (at : ℕ) (s : ChildSpec) → at ≤ length xs → position (has_id s.id) (drop at xs) ≡ None → now ≡ insert xs at (child_for s None) → now ≡ take at xs ++ child_for s (child_by_id s.id (drop at xs)) ∷ without s.id (drop at xs)
added_renewed xs now at s within none is =
    let by_id : child_by_id s.id (drop at xs) ≡ None = ap (option_and_then (slice_get (drop at xs))) none in
    is
    ∙ insert_behind xs at (child_for s None) within
    ∙ (λ i. take at xs ++ child_for s (sym by_id i) ∷ without_at (sym none i) (drop at xs))

-- The front of a list, with one more.

take_front : {A : Type 0} (xs ys : List A) (n : ℕ) (y : A) → n ≤ length xs → take (suc n) (take n xs ++ y ∷ ys) ≡ take n xs ++ y ∷ []
take_front xs ys zero y within = refl
take_front [] ys (suc n) y within = absurd (omega (arith, within))
take_front (x ∷ xs) ys (suc n) y within = ap (λ zs. x ∷ zs) (take_front xs ys n y (omega (arith, within)))

drop_front : {A : Type 0} (xs ys : List A) (n : ℕ) (y : A) → n ≤ length xs → drop (suc n) (take n xs ++ y ∷ ys) ≡ ys
drop_front xs ys zero y within = refl
drop_front [] ys (suc n) y within = absurd (omega (arith, within))
drop_front (x ∷ xs) ys (suc n) y within = drop_front xs ys n y (omega (arith, within))

long_front : {A : Type 0} (xs ys : List A) (n : ℕ) (y : A) → n ≤ length xs → n + 1 ≤ length (take n xs ++ y ∷ ys)
long_front xs ys zero y within = omega arith
long_front [] ys (suc n) y within = absurd (omega (arith, within))
long_front (x ∷ xs) ys (suc n) y within = let less = long_front xs ys n y (omega (arith, within)) in omega (arith, less)

append_one : {A : Type 0} (xs ys : List A) (y : A) → (xs ++ y ∷ []) ++ ys ≡ xs ++ y ∷ ys
append_one [] ys y = refl
append_one (x ∷ xs) ys y = ap (λ zs. x ∷ zs) (append_one xs ys y)

-- One specification more.

pub renewed_more : (row now : List Child) (at : ℕ) (s : ChildSpec) (ss : List ChildSpec) → at ≤ length row → now ≡ take at row ++ child_for s (child_by_id s.id (drop at row)) ∷ without s.id (drop at row) → take (at + 1) now ++ renewed ss (drop (at + 1) now) ≡ take at row ++ renewed (s ∷ ss) (drop at row)
renewed_more row now at s ss within is =
    let c = child_for s (child_by_id s.id (drop at row)) in
    let others = without s.id (drop at row) in
    let next : at + 1 ≡ suc at = omega arith in
    ap (λ (l : List Child). take (at + 1) l ++ renewed ss (drop (at + 1) l)) is
    ∙ ap (λ n. take n (take at row ++ c ∷ others) ++ renewed ss (drop n (take at row ++ c ∷ others))) next
    ∙ (λ i. take_front row others at c within i ++ renewed ss (drop_front row others at c within i))
    ∙ append_one (take at row) (renewed ss others) c

pub within_more : (row now others : List Child) (at : ℕ) (c : Child) → at ≤ length row → now ≡ take at row ++ c ∷ others → at + 1 ≤ length now
within_more row now others at c within is = subst (λ (l : List Child). at + 1 ≤ length l) (sym is) (long_front row others at c within)

pub unrenewed_more : (at : ℕ) (edits : List ChildEdit) (e : ChildEdit) (row : List Child) → unrenewed at (edits ++ e ∷ []) row ≡ unrenewed at edits (unedited (at + length edits) e row)
unrenewed_more at [] e row = ap (λ n. unedited n e row) (let none : at ≡ at + 0 = omega arith in none)
unrenewed_more at (first ∷ edits) e row =
    let next : at + 1 + length edits ≡ at + suc (length edits) = omega arith in
    ap (unedited at first) (unrenewed_more (at + 1) edits e row ∙ ap (λ n. unrenewed (at + 1) edits (unedited n e row)) next)

-- Those behind the front, with one more.
pub left_more : (row now : List Child) (at : ℕ) (s : ChildSpec) → at ≤ length row → now ≡ take at row ++ child_for s (child_by_id s.id (drop at row)) ∷ without s.id (drop at row) → drop (at + 1) now ≡ without s.id (drop at row)
left_more row now at s within is =
    let c = child_for s (child_by_id s.id (drop at row)) in
    let others = without s.id (drop at row) in
    let next : at + 1 ≡ suc at = omega arith in
    ap (drop (at + 1)) is ∙ ap (λ n. drop n (take at row ++ c ∷ others)) next ∙ drop_front row others at c within

-- What is held of those so far, and of one more.
pub edits_more : (specs : List ChildSpec) (first : List Child) (before : List ChildEdit) (e : ChildEdit) (left : List Child) (s : ChildSpec) (ss : List ChildSpec) → ((es : List ChildEdit) → AreEdits (s ∷ ss) left es → AreEdits specs first (before ++ es)) → IsEdit s (child_by_id s.id left) e → (es : List ChildEdit) → AreEdits ss (without s.id left) es → AreEdits specs first ((before ++ e ∷ []) ++ es)
edits_more specs first before e left s ss so_far one es others =
    subst (AreEdits specs first) (sym (append_one before es e)) (so_far (e ∷ es) (one, others))

-- What is taken back of an index where no child stands.

remove_past : (xs : List Child) (k : ℕ) → length xs ≤ k → remove xs k ≡ xs
remove_past [] zero past = refl
remove_past [] (suc k) past = refl
remove_past (x ∷ xs) zero past = absurd (omega (arith, past))
remove_past (x ∷ xs) (suc k) past = ap (λ (ys : List Child). x ∷ ys) (remove_past xs k (omega (arith, past)))

pub unedited_past : (at : ℕ) (e : ChildEdit) (row : List Child) → length row ≤ at → unedited at e row ≡ row
unedited_past at Added row past = remove_past row at past
unedited_past at (Kept from former) row past =
    ap (moved at from) (changed_past (with_former former) row at past) ∙ moved_from_past row at from past

-- A child that is there, specified anew and taken back.

pub long_as_moved : (xs : List Child) (from to : ℕ) → from < length xs → to < length xs → length (moved from to xs) ≡ length xs
long_as_moved xs from to within there =
    let (c, at) = at_index xs from within in
    ap (λ (ys : List Child). length ys) (moved_by xs from to c within there at) ∙ long_moved xs from to c within there

module _ (xs ys : List Child) (at from : ℕ) (old w : Child) (s : ChildSpec) (ordered : at ≤ from) (there : from < length xs) (is : ys ≡ moved from at xs) (reads : old ≡ get_or ys at old) (writes : w ≡ with_spec s old) where
  at_within : at < length xs
  at_within = omega (arith, ordered, there)

  at_moved : at < length ys
  at_moved = subst (λ n. at < n) (sym (ap (λ (zs : List Child). length zs) is ∙ long_as_moved xs from at there at_within)) at_within

  written_at : slice_set ys at w ≡ changed_at (with_spec s) ys at
  written_at = changed_from_write (with_spec s) ys at old w at_moved reads writes

  pub kept_is : (c : Child) → slice_get xs from ≡ Some c → slice_set ys at w ≡ insert (remove xs from) at (with_spec s c)
  kept_is c stands =
      let less = length-remove xs from there in
      let index : at ≤ length (remove xs from) = omega (arith, less, ordered, there) in
      written_at
      ∙ ap (λ (zs : List Child). changed_at (with_spec s) zs at) (is ∙ moved_by xs from at c there at_within stands)
      ∙ changed_at-insert (with_spec s) (remove xs from) at c index

  pub kept_back : (former : Option ChildSpec) → with_former former w ≡ old → moved at from (changed_at (with_former former) (slice_set ys at w) at) ≡ xs
  kept_back former back =
      let stands = got ys at old at_moved ∙ ap Some (sym reads) in
      ap (λ (zs : List Child). moved at from (changed_at (with_former former) zs at)) written_at
      ∙ ap (moved at from) (changed_at-back (with_spec s) (with_former former) ys at old stands (ap (with_former former) (sym writes) ∙ back))
      ∙ ap (moved at from) is
      ∙ moved_back xs from at there at_within

at_found : (o : Option ℕ) (at from : ℕ) → option_map (λ k. at + k) o ≡ Some from → (k : ℕ) × (o ≡ Some k) × (from ≡ at + k)
at_found None at from is = absurd (none_some is)
at_found (Some k) at from is = (k, refl, sym (some_is is))

pub kept_renewed_from : (xs now : List Child) (at from : ℕ) (s : ChildSpec) → option_map (λ k. at + k) (position (has_id s.id) (drop at xs)) ≡ Some from → ((c : Child) → slice_get xs from ≡ Some c → now ≡ insert (remove xs from) at (with_spec s c)) → now ≡ take at xs ++ child_for s (child_by_id s.id (drop at xs)) ∷ without s.id (drop at xs)
kept_renewed_from xs now at from s there kept =
    let (k, stands, is) = at_found (position (has_id s.id) (drop at xs)) at from there in
    kept_renewed xs now at k s stands (subst (λ n. (c : Child) → slice_get xs n ≡ Some c → now ≡ insert (remove xs n) at (with_spec s c)) is kept)

-- what is held of the child that is found
pub kept_edit : (xs : List Child) (at from : ℕ) (s : ChildSpec) (e : ChildEdit) → option_map (λ k. at + k) (position (has_id s.id) (drop at xs)) ≡ Some from → ((c : Child) → slice_get xs from ≡ Some c → IsEdit s (Some c) e) → IsEdit s (child_by_id s.id (drop at xs)) e
kept_edit xs at from s e there kept =
    let (k, stands, is) = at_found (position (has_id s.id) (drop at xs)) at from there in
    let (c, here, has) = found (has_id s.id) (drop at xs) k stands in
    let by_id : child_by_id s.id (drop at xs) ≡ Some c = ap (option_and_then (slice_get (drop at xs))) stands ∙ here in
    subst (λ o. IsEdit s o e) (sym by_id) (kept c (ap (slice_get xs) is ∙ get_behind xs at k ∙ here))

none_found : (o : Option ℕ) (at : ℕ) → option_map (λ k. at + k) o ≡ None → o ≡ None
none_found None at is = refl
none_found (Some k) at is = absurd (none_some (sym is))

-- or of one that is new
pub added_edit : (xs : List Child) (at : ℕ) (s : ChildSpec) (e : ChildEdit) → option_map (λ k. at + k) (position (has_id s.id) (drop at xs)) ≡ None → IsEdit s None e → IsEdit s (child_by_id s.id (drop at xs)) e
added_edit xs at s e none is =
    subst (λ o. IsEdit s o e) (sym (ap (option_and_then (slice_get (drop at xs))) (none_found (position (has_id s.id) (drop at xs)) at none))) is
