-- Functions by their names and numbers of arguments.
use Rattle.std.proofs.Common.{◌≡◌, ℕ, ◌+◌, max, Bool, true, false, ◌&&◌, ◌==◌, if◌then◌else◌, List, [], ◌∷◌, ◌++◌, Option, None, Some, is_some, slice_get, take, zero, suc, sym, ap, ◌∙◌, refl, true≢false, arith}
use Rattle.std.proofs.lemmas.Map.Keys.{IsDistinct-head, IsDistinct-tail}
use Rattle.std.proofs.lemmas.Bool.{eq-eqb, eqb-true}
use Rattle.std.proofs.lemmas.Option.{none-some, same_Some}
use Rattle.std.proofs.lemmas.Slice.Eq.{bytes_eq-Decides}
use Rattle.indexmap.specs.IndexMap.{IndexMap, insert_entry}
use Rattle.indexmap.proofs.CallerLemmas.{insert_entry-new}
use Rattle.std.specs.List.{IsDistinct, AllByRecursion}
use Rattle.std.specs.Map.{keys_of, lookup}
use Rattle.std.specs.Str.{bytes_eq}
use Rattle.erl_ir.specs.declared.function.Function.{Function}
use Rattle.erl_ir.specs.Module.{Key, key_eq, definition_depth, functions_depth}

-- one function more

pub depths_push : (fs : List (Key × Function)) (f : Key × Function) →
    functions_depth (fs ++ f ∷ []) ≡ max (functions_depth fs) (definition_depth f.1.definition)
depths_push [] f = omega arith
depths_push (g ∷ gs) f = omega (arith, depths_push gs f)

-- keys that are found equal are equal

both : (a b : Bool) → a && b ≡ true → (a ≡ true) × (b ≡ true)
both true true hold = (refl, refl)
both true false hold = absurd (true≢false (sym hold))
both false true hold = absurd (true≢false (sym hold))
both false false hold = absurd (true≢false (sym hold))

key_eq-same : (a b : Key) → key_eq a b ≡ true → a ≡ b
key_eq-same a b found =
    let parts = both (bytes_eq a.0 b.0) (a.1 == b.1) found in
    λ i. ((bytes_eq-Decides a.0 b.0).0 parts.0 i, eqb-true a.1 b.1 parts.1 i)

key_eq-refl : (a : Key) → key_eq a a ≡ true
key_eq-refl a = ap (λ b. b && (a.1 == a.1)) ((bytes_eq-Decides a.0 a.0).1 refl) ∙ eq-eqb a.1 a.1 refl

-- Two functions of one key

all_at : (P : Key → Type 0) (es : List (Key × Function)) (k : Key) (f : Function) (rest : List (Key × Function)) →
    AllByRecursion P (keys_of (es ++ (k, f) ∷ rest)) → P k
all_at P [] k f rest all = all.0
all_at P (e ∷ es) k f rest all = all_at P es k f rest all.1

pub twice : (es : List (Key × Function)) (k : Key) (f : Function) (rest : List (Key × Function)) →
    is_some (lookup (key_eq k) es) ≡ true → IsDistinct key_eq (keys_of (es ++ (k, f) ∷ rest)) → ⊥
twice [] k f rest there distinct = true≢false (sym there)
twice (e ∷ es) k f rest there distinct =
    by (key_eq k e.0) refl (λ other. twice es k f rest (sym (ap (λ b. is_some (if b then Some e.1 else lookup (key_eq k) es)) other) ∙ there)
    (IsDistinct-tail key_eq e.0 (keys_of (es ++ (k, f) ∷ rest)) distinct))
  where
    by : (b : Bool) → key_eq k e.0 ≡ b → (key_eq k e.0 ≡ false → ⊥) → ⊥
    by true same later =
        let apart = all_at (λ y. key_eq e.0 y ≡ false) es k f rest (IsDistinct-head key_eq e.0 (keys_of (es ++ (k, f) ∷ rest)) distinct) in
        true≢false (sym (key_eq-refl e.0) ∙ ap (key_eq e.0) (sym (key_eq-same k e.0 same)) ∙ apart)
    by false other later = later other

none_from : {A : Type 0} (o : Option A) → is_some o ≡ false → o ≡ None
none_from None none = refl
none_from (Some x) none = absurd (true≢false none)

pub added : {S : Type 0} (m : IndexMap Key Function S) (k : Key) (f : Function) → is_some (lookup (key_eq k) m.entries) ≡ false →
    insert_entry key_eq m.entries k f ≡ m.entries ++ (k, f) ∷ []
added m k f none = insert_entry-new key_eq m k f (none_from (lookup (key_eq k) m.entries) none)

pub moved : (es : List (Key × Function)) (e : Key × Function) (rest : List (Key × Function)) → es ++ e ∷ [] ++ rest ≡ es ++ (e ∷ rest)
moved [] e rest = refl
moved (d ∷ ds) e rest = ap (λ fs. d ∷ fs) (moved ds e rest)

-- Two lists, passed index by index

step : {A : Type 0} (xs ys : List A) (i : ℕ) → take i xs ≡ take i ys → slice_get xs i ≡ slice_get ys i → take (suc i) xs ≡ take (suc i) ys
step [] [] i so_far here = refl
step [] (y ∷ ys) zero so_far here = absurd (none-some y here)
step (x ∷ xs) [] zero so_far here = absurd (none-some x (sym here))
step (x ∷ xs) (y ∷ ys) zero so_far here = ap (λ z. z ∷ []) (same_Some x y here)
step [] (y ∷ ys) (suc i) so_far here = absurd (let no : ⊥ = cc in no)
step (x ∷ xs) [] (suc i) so_far here = absurd (let no : ⊥ = cc in no)
step (x ∷ xs) (y ∷ ys) (suc i) so_far here =
    let same : take i xs ≡ take i ys = cc in
    let rest = step xs ys i same here in
    let first : x ≡ y = cc in
    λ j. first j ∷ rest j

pub take_get : {A : Type 0} (xs ys : List A) (i : ℕ) → take i xs ≡ take i ys → slice_get xs i ≡ slice_get ys i → take (i + 1) xs ≡ take (i + 1) ys
take_get xs ys i so_far here =
    let next : i + 1 ≡ suc i = omega arith in
    ap (λ n. take n xs) next ∙ step xs ys i so_far here ∙ ap (λ n. take n ys) (sym next)
