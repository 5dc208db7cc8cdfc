-- Instructions at indices.
use Rattle.std.proofs.Common.{◌≡◌, ℕ, ◌+◌, ◌<◌, List, [], ◌∷◌, ◌++◌, length, get_or, take, Option, Some, None, sym, ap, ◌∙◌, refl}
use Rattle.std.specs.Prelude.{option_and_then}
use Rattle.std.specs.List.{cons_option, filter_map, flat_map, slice_get}
use Rattle.std.specs.Option.{option_map_or, option_to_list}
use Rattle.std.specs.Slice.{IsItemAt}
use Rattle.std.proofs.lemmas.List.{append-nil, get_or_default}
use Rattle.instructions.specs.declared.instruction.Instruction.{Instruction}
use Rattle.relup_make.specs.Scripts.{at}
use Rattle.relup_make.proofs.Lookups.{lent_at}
use Rattle.relup_make.proofs.Turns.{chosen_more}

-- at an index where nothing stands nothing is added
pub nothing_at : {A B : Type 0} (g : Option A → List B) (xs : List A) (index : ℕ) (ys : List B) → g None ≡ [] → IsItemAt xs index None → ys ≡ ys ++ g (slice_get xs index)
nothing_at g xs index ys empty none =
    sym (ap (λ o. ys ++ g o) (sym (lent_at xs index None none)) ∙ ap (λ zs. ys ++ zs) empty ∙ append-nil ys)

pub index_more : {B : Type 0} (h : ℕ → Option B) (order : List ℕ) (i : ℕ) (so_far next : List B) → i < length order → next ≡ so_far ++ option_to_list (h (get_or order i 0)) → so_far ≡ filter_map h (take i order) → next ≡ filter_map h (take (i + 1) order)
index_more h order i so_far next within more sum =
    chosen_more h order i (get_or order i 0) so_far next within (get_or_default order i 0 (get_or order i 0) within) more sum

pub picked : {B : Type 0} (h : Instruction → Option B) (is : List Instruction) (order : List ℕ) → filter_map (λ p. option_and_then h (slice_get is p)) order ≡ filter_map h (at is order)
picked h is [] = refl
picked {B = B} h is (p ∷ ps) = one (slice_get is p) (filter_map (λ q. option_and_then h (slice_get is q)) ps) (at is ps) (picked h is ps)
  where
    one : (o : Option Instruction) (ys : List B) (js : List Instruction) → ys ≡ filter_map h js → cons_option (option_and_then h o) ys ≡ filter_map h (cons_option o js)
    one None ys js e = e
    one (Some i) ys js e = ap (cons_option (h i)) e

pub picked_all : {B : Type 0} (f : Instruction → List B) (is : List Instruction) (order : List ℕ) → flat_map (λ p. option_map_or f (slice_get is p) []) order ≡ flat_map f (at is order)
picked_all f is [] = refl
picked_all {B = B} f is (p ∷ ps) = one (slice_get is p) (flat_map (λ q. option_map_or f (slice_get is q) []) ps) (at is ps) (picked_all f is ps)
  where
    one : (o : Option Instruction) (ys : List B) (js : List Instruction) → ys ≡ flat_map f js → option_map_or f o [] ++ ys ≡ flat_map f (cons_option o js)
    one None ys js e = e
    one (Some i) ys js e = ap (λ zs. f i ++ zs) e
