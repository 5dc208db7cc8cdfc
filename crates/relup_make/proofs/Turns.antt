-- Loops that append: what each turn adds.
use Rattle.std.proofs.Common.{◌≡◌, ℕ, ◌+◌, ◌<◌, ◌≤◌, Bool, true, false, List, [], ◌∷◌, ◌++◌, map, length, get_or, take, reverse, Option, Some, None, sym, ap, ◌∙◌, refl}
use Rattle.std.specs.Prelude.{if◌then◌else◌}
use Rattle.std.specs.List.{cons_option, filter, filter_map, flat_map}
use Rattle.std.specs.Option.{option_to_list}
use Rattle.std.proofs.lemmas.List.{append-nil, reverse-append, take_all, take_more}
use Rattle.std.proofs.lemmas.List.Elements.{filter-append, filter_map-append}
use Rattle.high_instructions.specs.Forms.{Name}
use Rattle.otp_files.specs.Distinct.{app_names}
use Rattle.otp_files.specs.declared.applications.RelApp.{RelApp}
use Rattle.relup_make.proofs.Firsts.{tested, tested_all}

pub ended : {A B : Type 0} (g : A → List B) (items : List A) (i : ℕ) (start so_far : List B) → length items ≤ i → so_far ≡ start ++ flat_map g (take i items) → so_far ≡ start ++ flat_map g items
ended g items i start so_far past sum = sum ∙ ap (λ xs. start ++ flat_map g xs) (take_all i items past)

-- What the sums are

pub chosen : {A B : Type 0} (h : A → Option B) (xs : List A) → flat_map (λ x. option_to_list (h x)) xs ≡ filter_map h xs
chosen h [] = refl
chosen h (x ∷ xs) = one (h x) (flat_map (λ y. option_to_list (h y)) xs) (filter_map h xs) (chosen h xs)
  where
    one : {B : Type 0} (o : Option B) (ys zs : List B) → ys ≡ zs → option_to_list o ++ ys ≡ cons_option o zs
    one None ys zs e = e
    one (Some y) ys zs e = ap (λ us. y ∷ us) e

pub single : {A B : Type 0} (h : A → B) (xs : List A) → flat_map (λ x. h x ∷ []) xs ≡ map h xs
single h [] = refl
single h (x ∷ xs) = ap (λ ys. h x ∷ ys) (single h xs)

-- the names that pass a test, the last first
passed_back : (p : Name → Bool) (apps : List RelApp) → filter p (app_names (reverse apps)) ≡ reverse (filter p (app_names apps))
passed_back p [] = refl
passed_back p (app ∷ apps) =
    ap (λ xs. filter p (app_names xs)) (reverse-append (app ∷ []) apps)
    ∙ ap (filter p) (named (reverse apps) app)
    ∙ filter-append p (app_names (reverse apps)) (app.name ∷ [])
    ∙ ap (λ ns. ns ++ filter p (app.name ∷ [])) (passed_back p apps)
    ∙ one (p app.name)
  where
    named : (xs : List RelApp) (x : RelApp) → app_names (xs ++ x ∷ []) ≡ app_names xs ++ x.name ∷ []
    named [] x = refl
    named (y ∷ ys) x = ap (λ ns. y.name ∷ ns) (named ys x)

    one : (b : Bool) → reverse (filter p (app_names apps)) ++ (if b then app.name ∷ [] else []) ≡ reverse (if b then app.name ∷ filter p (app_names apps) else filter p (app_names apps))
    one true = sym (reverse-append (app.name ∷ []) (filter p (app_names apps)))
    one false = append-nil (reverse (filter p (app_names apps)))

pub tested_back : {B : Type 0} (p : Name → Bool) (h : Name → B) (apps : List RelApp) → flat_map (tested p (λ n. h n ∷ [])) (reverse apps) ≡ map h (reverse (filter p (app_names apps)))
tested_back p h apps =
    sym (tested_all p (λ n. h n ∷ []) (reverse apps)) ∙ single h (filter p (app_names (reverse apps))) ∙ ap (map h) (passed_back p apps)

pub tested_single : {B : Type 0} (p : Name → Bool) (h : Name → B) (apps : List RelApp) → flat_map (tested p (λ n. h n ∷ [])) apps ≡ map h (filter p (app_names apps))
tested_single p h apps = sym (tested_all p (λ n. h n ∷ []) apps) ∙ single h (filter p (app_names apps))

pub tested_chosen : {B : Type 0} (p : Name → Bool) (h : Name → Option B) (apps : List RelApp) → flat_map (tested p (λ n. option_to_list (h n))) apps ≡ filter_map h (filter p (app_names apps))
tested_chosen p h apps = sym (tested_all p (λ n. option_to_list (h n)) apps) ∙ chosen h (filter p (app_names apps))

-- one item more is looked at
pub chosen_more : {A B : Type 0} (h : A → Option B) (items : List A) (i : ℕ) (x : A) (so_far next : List B) → i < length items → x ≡ get_or items i x → next ≡ so_far ++ option_to_list (h x) → so_far ≡ filter_map h (take i items) → next ≡ filter_map h (take (i + 1) items)
chosen_more {B = B} h items i x so_far next within is more sum =
    more ∙ ap (λ ys. ys ++ option_to_list (h x)) sum ∙ ap (λ ys. filter_map h (take i items) ++ ys) (one (h x))
    ∙ sym (filter_map-append h (take i items) (x ∷ [])) ∙ ap (filter_map h) (sym (take_more items i x within ∙ ap (λ u. take i items ++ u ∷ []) (sym is)))
  where
    one : (o : Option B) → option_to_list o ≡ cons_option o []
    one None = refl
    one (Some y) = refl
