-- What stands at the first index of a name.
use Rattle.std.proofs.Common.{◌≡◌, ℕ, suc, ◌+◌, ◌-◌, ◌≤◌, Bool, true, false, List, [], ◌∷◌, map, length, Option, Some, None, Bor, sym, ap, ◌∙◌, refl, arith}
use Rattle.std.specs.Prelude.{if◌then◌else◌, zip, option_and_then}
use Rattle.std.specs.List.{find, slice_get}
use Rattle.std.specs.Option.{option_copied}
use Rattle.std.specs.Slice.{IsItemAt}
use Rattle.std.specs.Str.{bytes_eq}
use Rattle.std.proofs.lemmas.Option.{slice_get_past, slice_get_read}
use Rattle.high_instructions.specs.Forms.{Name}
use Rattle.otp_files.specs.declared.app.AppSpec.{AppSpec}
use Rattle.relup_make.specs.Indexes.{index_of}
use Rattle.relup_make.specs.Work.{Appup, names_of}

at_index : {A : Type 0} (b : Bool) (index at : ℕ) (x : A) (xs : List A) (behind : Option ℕ) (found : Option A) → (if b then Some index else behind) ≡ Some at → (behind ≡ Some at → (index + 1 ≤ at) × (slice_get xs (at - (index + 1)) ≡ found)) → (index ≤ at) × (slice_get (x ∷ xs) (at - index) ≡ (if b then Some x else found))
at_index true index at x xs behind found is others =
    let here : index ≡ at = cc in
    let none : at - index ≡ 0 = omega arith in
    (omega arith, ap (slice_get (x ∷ xs)) none)
at_index false index at x xs behind found is others =
    let further = others is in
    let more : at - index ≡ suc (at - (index + 1)) = omega arith in
    (omega arith, ap (slice_get (x ∷ xs)) more ∙ further.1)

found_at : {A : Type 0} (f : A → Name) (index at : ℕ) (name : Name) (xs : List A) → index_of index name (map f xs) ≡ Some at → (index ≤ at) × (slice_get xs (at - index) ≡ find (λ x. bytes_eq (f x) name) xs)
found_at f index at name [] is = absurd (let never : ⊥ = cc in never)
found_at f index at name (x ∷ xs) is =
    at_index (bytes_eq (f x) name) index at x xs (index_of (index + 1) name (map f xs)) (find (λ y. bytes_eq (f y) name) xs) is (found_at f (index + 1) at name xs)

pub found_first : {A : Type 0} (f : A → Name) (at : ℕ) (name : Name) (xs : List A) → index_of 0 name (map f xs) ≡ Some at → slice_get xs at ≡ find (λ x. bytes_eq (f x) name) xs
found_first f at name xs is =
    let same : at ≡ at - 0 = omega arith in
    ap (slice_get xs) same ∙ (found_at f 0 at name xs is).1

nowhere : {A : Type 0} (b : Bool) (index : ℕ) (x : A) (behind : Option ℕ) (found : Option A) → (if b then Some index else behind) ≡ None → (behind ≡ None → found ≡ None) → (if b then Some x else found) ≡ None
nowhere true index x behind found is others = absurd (let never : ⊥ = cc in never)
nowhere false index x behind found is others = others is

pub found_nowhere : {A : Type 0} (f : A → Name) (index : ℕ) (name : Name) (xs : List A) → index_of index name (map f xs) ≡ None → find (λ x. bytes_eq (f x) name) xs ≡ None
found_nowhere f index name [] is = refl
found_nowhere f index name (x ∷ xs) is =
    nowhere (bytes_eq (f x) name) index x (index_of (index + 1) name (map f xs)) (find (λ y. bytes_eq (f y) name) xs) is (found_nowhere f (index + 1) name xs)

-- what is lent at an index
pub lent_at : {A : Type 0} (xs : List A) (at : ℕ) (lent : Option (Bor A)) → IsItemAt xs at lent → option_copied lent ≡ slice_get xs at
lent_at xs at None is = sym (slice_get_past xs at is.3)
lent_at xs at (Some x) is = sym (slice_get_read xs (length xs) at x.now refl is.3.0 is.1)

-- The appup of an application

-- the appup under a name, of applications and their appups side by side
abbrev pub beside : Name → List AppSpec → List (Option Appup) → Option Appup
beside name apps appups = option_and_then (λ p. p.1) (find (λ p. bytes_eq p.0.name name) (zip apps appups))

beside_at : (b : Bool) (index at : ℕ) (x : AppSpec) (y : Option Appup) (ys : List (Option Appup)) (behind : Option ℕ) (found : Option (AppSpec × Option Appup)) → index ≤ at → (if b then Some index else behind) ≡ Some at → (behind ≡ Some at → (index + 1 ≤ at) × (option_and_then (λ a. a) (slice_get ys (at - (index + 1))) ≡ option_and_then (λ p. p.1) found)) → option_and_then (λ a. a) (slice_get (y ∷ ys) (at - index)) ≡ option_and_then (λ p. p.1) (if b then Some (x, y) else found)
beside_at true index at x y ys behind found low is others =
    let here : index ≡ at = cc in
    let none : at - index ≡ 0 = omega arith in
    ap (λ n. option_and_then (λ a. a) (slice_get (y ∷ ys) n)) none
beside_at false index at x y ys behind found low is others =
    let further = others is in
    let more : at - index ≡ suc (at - (index + 1)) = omega arith in
    ap (λ n. option_and_then (λ a. a) (slice_get (y ∷ ys) n)) more ∙ further.1

beside_from : (index at : ℕ) (name : Name) (apps : List AppSpec) (appups : List (Option Appup)) → index_of index name (names_of apps) ≡ Some at → option_and_then (λ a. a) (slice_get appups (at - index)) ≡ beside name apps appups
beside_from index at name [] ys is = absurd (let never : ⊥ = cc in never)
beside_from index at name (x ∷ xs) [] is = refl
beside_from index at name (x ∷ xs) (y ∷ ys) is =
    beside_at (bytes_eq x.name name) index at x y ys (index_of (index + 1) name (names_of xs)) (find (λ p. bytes_eq p.0.name name) (zip xs ys)) (found_at (λ app. app.name) index at name (x ∷ xs) is).0 is (λ e. ((found_at (λ app. app.name) (index + 1) at name xs e).0, beside_from (index + 1) at name xs ys e))

pub beside_first : (at : ℕ) (name : Name) (apps : List AppSpec) (appups : List (Option Appup)) → index_of 0 name (names_of apps) ≡ Some at → option_and_then (λ a. a) (slice_get appups at) ≡ beside name apps appups
beside_first at name apps appups is =
    let same : at ≡ at - 0 = omega arith in
    ap (λ n. option_and_then (λ a. a) (slice_get appups n)) same ∙ beside_from 0 at name apps appups is

none_beside : (b : Bool) (index : ℕ) (x : AppSpec) (y : Option Appup) (behind : Option ℕ) (found : Option (AppSpec × Option Appup)) → (if b then Some index else behind) ≡ None → (behind ≡ None → option_and_then (λ p. p.1) found ≡ None) → option_and_then (λ p. p.1) (if b then Some (x, y) else found) ≡ None
none_beside true index x y behind found is others = absurd (let never : ⊥ = cc in never)
none_beside false index x y behind found is others = others is

pub beside_nowhere : (index : ℕ) (name : Name) (apps : List AppSpec) (appups : List (Option Appup)) → index_of index name (names_of apps) ≡ None → beside name apps appups ≡ None
beside_nowhere index name [] ys is = refl
beside_nowhere index name (x ∷ xs) [] is = refl
beside_nowhere index name (x ∷ xs) (y ∷ ys) is =
    none_beside (bytes_eq x.name name) index x y (index_of (index + 1) name (names_of xs)) (find (λ p. bytes_eq p.0.name name) (zip xs ys)) is (beside_nowhere (index + 1) name xs ys)
