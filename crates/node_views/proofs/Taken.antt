-- The first items of a list, one more in each turn.
use Rattle.std.proofs.Common.{◌≡◌, ◌∙◌, ℕ, zero, suc, ◌+◌, ◌<◌, List, [], ◌∷◌, ◌++◌, map, take, length, get_or, Option, None, Some, ap, sym}
use Rattle.std.proofs.Common.{option_and_then, option_map}
use Rattle.std.proofs.lemmas.Option.{slice_get-get_or}
use native.Mathlib.Numerals.{unary_clauses}
use Rattle.std.specs.List.{slice_get}
use Rattle.process_store.specs.Table.{Table}
use Rattle.process_store.specs.declared.living.ProcessEntry.{ProcessEntry}
use Rattle.node_views.specs.Views.{living_view, process_view}
use Rattle.node_views.specs.declared.process_view.ProcessView.{ProcessView}

module _ {X Y : Type 0} (f : X → Y) where
  one_behind : (xs : List X) (n : ℕ) (x : X) → slice_get xs n ≡ Some x → map f (take (suc n) xs) ≡ map f (take n xs) ++ f x ∷ []
  one_behind [] n x is = let clash : None ≡ Some x = is in cc
  one_behind (y ∷ ys) zero x is = let same : y ≡ x = (let there : Some y ≡ Some x = is in cc) in ap (λ z. f z ∷ []) same
  one_behind (y ∷ ys) (suc n) x is = ap (λ zs. f y ∷ zs) (one_behind ys n x is)

  pub one_more : (xs : List X) (n : ℕ) (x : X) → slice_get xs n ≡ Some x → map f (take (n + 1) xs) ≡ map f (take n xs) ++ f x ∷ []
  one_more xs n x is = simp unary_clauses (one_behind xs n x is)

-- what is seen of the process at an index, where it lives
abbrev pub entry_view : Option ProcessEntry → Option ProcessView
entry_view o = option_map (λ entry. process_view entry.process) o

pub one_more_entry : (t : Table) (pid : ℕ) → pid < length t.slots →
    map entry_view (take (pid + 1) t.slots) ≡ map entry_view (take pid t.slots) ++ living_view t pid ∷ []
one_more_entry t pid within =
    let is : slice_get t.slots pid ≡ Some (get_or t.slots pid None) = slice_get-get_or t.slots pid None within in
    one_more entry_view t.slots pid (get_or t.slots pid None) is
    ∙ ap (λ (v : Option ProcessView). map entry_view (take pid t.slots) ++ v ∷ [])
    (sym (ap (λ (o : Option (Option ProcessEntry)). entry_view (option_and_then (λ l. l) o)) is))
