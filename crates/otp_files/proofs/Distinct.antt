-- Applications by their names and indices, seen from the back.
use Rattle.std.proofs.Common.{◌≡◌, ℕ, suc, ◌+◌, ◌-◌, ◌<◌, ◌≤◌, Bool, true, false, List, [], ◌∷◌, length, get_or, drop, Option, Some, None, Bor, sym, ap, ◌∙◌, refl, arith}
use Rattle.std.specs.Prelude.{not, ◌&&◌, ◌||◌, if◌then◌else◌, String, string_bytes}
use Rattle.std.specs.List.{list_any, slice_get}
use Rattle.std.specs.Option.{is_some, option_copied}
use Rattle.std.specs.Slice.{IsItemAt}
use Rattle.std.specs.BTreeMap.{BTreeMap, Updates, get, get_by_text}
use Rattle.std.specs.Str.{IsUtf8, bytes_eq, chars}
use Rattle.std.specs.String.{string_cmp}
use Rattle.std.proofs.lemmas.List.{drop_more}
use Rattle.std.proofs.lemmas.Option.{slice_get_past, slice_get_read}
use Rattle.std.proofs.lemmas.Bool.Decides.{same_from_decides}
use Rattle.std.proofs.lemmas.Slice.Eq.{bytes_eq-Decides}
use Rattle.std.proofs.lemmas.Str.{encodes-chars}
use Rattle.std.proofs.lemmas.Map.Text.{btree_map_updates_text}
use lib.Utf8.{encodes}
use Rattle.otp_files.specs.declared.applications.RelApp.{RelApp}
use Rattle.otp_files.specs.Distinct.{app_names, app_named, are_distinct, index_of, FindsFrom}

-- names are told apart by their bytes
bytes_from_chars : (bs ds : List ℕ) → IsUtf8 bs → IsUtf8 ds → chars bs ≡ chars ds → bs ≡ ds
bytes_from_chars bs ds one other same = sym (encodes-chars bs one) ∙ ap encodes same ∙ encodes-chars ds other

pub chars_eq : (bs ds : List ℕ) → IsUtf8 bs → IsUtf8 ds → bytes_eq bs ds ≡ bytes_eq (chars bs) (chars ds)
chars_eq bs ds one other =
    let of_bytes = bytes_eq-Decides bs ds in
    let of_chars = bytes_eq-Decides (chars bs) (chars ds) in
    same_from_decides (bytes_eq bs ds) (bytes_eq (chars bs) (chars ds)) (λ yes. ap chars (of_bytes.0 yes), λ e. of_bytes.1 (bytes_from_chars bs ds one other e)) of_chars

eq_turned : (xs ys : List ℕ) → bytes_eq xs ys ≡ bytes_eq ys xs
eq_turned xs ys =
    let one = bytes_eq-Decides xs ys in
    let other = bytes_eq-Decides ys xs in
    same_from_decides (bytes_eq xs ys) (bytes_eq ys xs) (λ yes. sym (one.0 yes), λ e. one.1 (sym e)) other

-- what is at the index of a name is the first application of that name
at_index : (b : Bool) (index at : ℕ) (x : RelApp) (xs : List RelApp) (behind : Option ℕ) (found : Option RelApp) → (if b then Some index else behind) ≡ Some at → (behind ≡ Some at → (index + 1 ≤ at) × (slice_get xs (at - (index + 1)) ≡ found)) → (index ≤ at) × (slice_get (x ∷ xs) (at - index) ≡ (if b then Some x else found))
at_index true index at x xs behind found is others =
    let here : index ≡ at = cc in
    let none : at - index ≡ 0 = omega arith in
    (omega arith, ap (slice_get (x ∷ xs)) none)
at_index false index at x xs behind found is others =
    let further = others is in
    let more : at - index ≡ suc (at - (index + 1)) = omega arith in
    (omega arith, ap (slice_get (x ∷ xs)) more ∙ further.1)

found_at : (index at : ℕ) (name : List ℕ) (apps : List RelApp) → index_of index name apps ≡ Some at → (index ≤ at) × (slice_get apps (at - index) ≡ app_named name apps)
found_at index at name [] is = absurd (let never : ⊥ = cc in never)
found_at index at name (x ∷ xs) is =
    at_index (bytes_eq x.name name) index at x xs (index_of (index + 1) name xs) (app_named name xs) is (found_at (index + 1) at name xs)

pub found_first : (at : ℕ) (name : List ℕ) (apps : List RelApp) → index_of 0 name apps ≡ Some at → slice_get apps at ≡ app_named name apps
found_first at name apps is =
    let same : at ≡ at - 0 = omega arith in
    ap (slice_get apps) same ∙ (found_at 0 at name apps is).1

-- and where there is no index there is none
nowhere : (b : Bool) (index : ℕ) (x : RelApp) (behind : Option ℕ) (found : Option RelApp) → (if b then Some index else behind) ≡ None → (behind ≡ None → found ≡ None) → (if b then Some x else found) ≡ None
nowhere true index x behind found is others = absurd (let never : ⊥ = cc in never)
nowhere false index x behind found is others = others is

pub found_nowhere : (index : ℕ) (name : List ℕ) (apps : List RelApp) → index_of index name apps ≡ None → app_named name apps ≡ None
found_nowhere index name [] is = refl
found_nowhere index name (x ∷ xs) is =
    nowhere (bytes_eq x.name name) index x (index_of (index + 1) name xs) (app_named name xs) is (found_nowhere (index + 1) name xs)

-- a name is among those that have an index
placed : (b : Bool) (index : ℕ) (behind : Option ℕ) (others : Bool) → is_some behind ≡ others → is_some (if b then Some index else behind) ≡ (b || others)
placed true index behind others e = refl
placed false index behind others e = e

pub is_placed : (index : ℕ) (name : List ℕ) (apps : List RelApp) → is_some (index_of index name apps) ≡ list_any (bytes_eq name) (app_names apps)
is_placed index name [] = refl
is_placed index name (x ∷ xs) =
    placed (bytes_eq x.name name) index (index_of (index + 1) name xs) _ (is_placed (index + 1) name xs) ∙ ap (λ b. b || list_any (bytes_eq name) (app_names xs)) (eq_turned x.name name)

-- the applications from one index before on
pub one_before : (items : List RelApp) (i : ℕ) (x : RelApp) → 0 < i → i - 1 < length items → x ≡ get_or items (i - 1) x → drop (i - 1) items ≡ x ∷ drop i items
one_before items i x above within is =
    let back : (i - 1) + 1 ≡ i = omega arith in
    drop_more items (i - 1) x within ∙ ap (λ u. u ∷ drop (i - 1 + 1) items) (sym is) ∙ ap (λ j. x ∷ drop j items) back

-- one application more in front: its index under its name, and the others' as they were
placed_before : (items : List RelApp) (i : ℕ) (x : RelApp) (name text : List ℕ) (behind : Option ℕ) → 0 < i → drop (i - 1) items ≡ x ∷ drop i items → chars name ≡ x.name → IsUtf8 name → IsUtf8 text → behind ≡ index_of i (chars text) (drop i items) → (if bytes_eq name text then Some (i - 1) else behind) ≡ index_of (i - 1) (chars text) (drop (i - 1) items)
placed_before items i x name text behind above before is one other so_far =
    let next : i ≡ i - 1 + 1 = omega arith in
    let same : bytes_eq name text ≡ bytes_eq x.name (chars text) = chars_eq name text one other ∙ ap (λ cs. bytes_eq cs (chars text)) is in
    ap (λ b. if b then Some (i - 1) else behind) same ∙ ap (λ o. if bytes_eq x.name (chars text) then Some (i - 1) else o) (so_far ∙ ap (λ j. index_of j (chars text) (drop i items)) next) ∙ ap (index_of (i - 1) (chars text)) (sym before)

pub one_more : {A : Type 0} (items : List RelApp) (i : ℕ) (x : RelApp) (key : String A) (old new : BTreeMap (String A) ℕ) → 0 < i → drop (i - 1) items ≡ x ∷ drop i items → chars (string_bytes key) ≡ x.name → IsUtf8 (string_bytes key) → Updates string_cmp old new key (Some (i - 1)) → FindsFrom i old (drop i items) → FindsFrom (i - 1) new (drop (i - 1) items)
one_more items i x key old new above before is utf8 updates so_far text whole =
    btree_map_updates_text (string_bytes key) old new (Some (i - 1)) updates text ∙ placed_before items i x (string_bytes key) text (get_by_text old text) above before is utf8 whole (so_far text whole)

-- and whether the names are distinct
pub told_before : {A : Type 0} (items : List RelApp) (i : ℕ) (x : RelApp) (key : String A) (old : BTreeMap (String A) ℕ) (b : Bool) → drop (i - 1) items ≡ x ∷ drop i items → chars (string_bytes key) ≡ x.name → IsUtf8 (string_bytes key) → FindsFrom i old (drop i items) → is_some (get string_cmp old key) ≡ b → are_distinct (app_names (drop (i - 1) items)) ≡ (not b && are_distinct (app_names (drop i items)))
told_before items i x key old b before is utf8 so_far here =
    let again : list_any (bytes_eq x.name) (app_names (drop i items)) ≡ b = sym (is_placed i x.name (drop i items)) ∙ ap (λ cs. is_some (index_of i cs (drop i items))) (sym is) ∙ ap is_some (sym (so_far (string_bytes key) utf8)) ∙ here in
    ap (λ apps. are_distinct (app_names apps)) before ∙ ap (λ c. not c && are_distinct (app_names (drop i items))) again

-- what is lent at an index
pub lent_at : (apps : List RelApp) (at : ℕ) (lent : Option (Bor RelApp)) → IsItemAt apps at lent → option_copied lent ≡ slice_get apps at
lent_at apps at None is = sym (slice_get_past apps at is.3)
lent_at apps at (Some app) is = sym (slice_get_read apps (length apps) at app.now refl is.3.0 is.1)
