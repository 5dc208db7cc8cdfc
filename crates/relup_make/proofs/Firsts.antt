-- The first of what several lists have.
use Rattle.std.proofs.Common.{◌≡◌, ℕ, ◌+◌, ◌<◌, Bool, true, false, List, [], ◌∷◌, ◌++◌, length, get_or, drop, Option, Some, None, sym, ap, ◌∙◌, refl}
use Rattle.std.specs.Prelude.{if◌then◌else◌}
use Rattle.std.specs.List.{filter, flat_map}
use Rattle.std.proofs.lemmas.List.{drop_more}
use Rattle.high_instructions.specs.Forms.{Name}
use Rattle.otp_files.specs.Distinct.{app_names}
use Rattle.otp_files.specs.declared.applications.RelApp.{RelApp}
use Rattle.relup_make.specs.Refusals.{first_of}

pub first_here : {E : Type 0} (xs ys : List E) (e : E) → first_of xs ≡ Some e → first_of (xs ++ ys) ≡ Some e
first_here [] ys e is = absurd (let never : ⊥ = cc in never)
first_here (x ∷ xs) ys e is = is

pub first_later : {E : Type 0} (xs ys : List E) → first_of xs ≡ None → first_of (xs ++ ys) ≡ first_of ys
first_later [] ys is = refl
first_later (x ∷ xs) ys is = absurd (let never : ⊥ = cc in never)

-- Lists of items in turn

pub from_item : {A : Type 0} (items : List A) (i : ℕ) (x : A) → i < length items → x ≡ get_or items i x → drop i items ≡ x ∷ drop (i + 1) items
from_item items i x within is = drop_more items i x within ∙ ap (λ u. u ∷ drop (i + 1) items) (sym is)

pub item_fails : {A E : Type 0} (f : A → List E) (items : List A) (i : ℕ) (x : A) (e : E) (whole : Option E) → i < length items → x ≡ get_or items i x → Some e ≡ first_of (f x) → whole ≡ first_of (flat_map f (drop i items)) → Some e ≡ whole
item_fails f items i x e whole within is found so_far =
    sym (so_far ∙ ap (λ xs. first_of (flat_map f xs)) (from_item items i x within is) ∙ first_here (f x) (flat_map f (drop (i + 1) items)) e (sym found))

pub item_passes : {A E : Type 0} (f : A → List E) (items : List A) (i : ℕ) (x : A) (whole : Option E) → i < length items → x ≡ get_or items i x → None ≡ first_of (f x) → whole ≡ first_of (flat_map f (drop i items)) → whole ≡ first_of (flat_map f (drop (i + 1) items))
item_passes f items i x whole within is found so_far =
    so_far ∙ ap (λ xs. first_of (flat_map f xs)) (from_item items i x within is) ∙ first_later (f x) (flat_map f (drop (i + 1) items)) (sym found)

-- the same of applications by their names, of which those that fail a test count for nothing
abbrev pub tested : {E : Type 0} → (Name → Bool) → (Name → List E) → RelApp → List E
tested p f app = if p app.name then f app.name else []

pub tested_all : {E : Type 0} (p : Name → Bool) (f : Name → List E) (apps : List RelApp) → flat_map f (filter p (app_names apps)) ≡ flat_map (tested p f) apps
tested_all p f [] = refl
tested_all p f (app ∷ apps) =
    let later = tested_all p f apps in
    elim (p app.name) as (λ b. flat_map f (if b then app.name ∷ filter p (app_names apps) else filter p (app_names apps)) ≡ (if b then f app.name else []) ++ flat_map (tested p f) apps) [
      | true ↦ ap (λ es. f app.name ++ es) later
      | false ↦ later
    ]
