-- Items in turn by an index, and what a step notes if no allocation fails.
use Rattle.std.proofs.Common.{◌≡◌, ◌⊎◌, ℕ, ◌+◌, List, Some, Result, OnOk, sym}
use Rattle.std.proofs.lemmas.Option.{get_or_from_slice_get, slice_get_within}
use Rattle.std.specs.List.{slice_get}
use Rattle.upgrade_review.proofs.Adding.{UpTo, goes_on}
pub use Rattle.upgrade_review.proofs.Noting.{noted_besides, noted_both, noted_where, nothing_noted}
use Rattle.upgrade_review.specs.Gathering.{Adds}

-- the item at an index
pub goes_on_at : {X F : Type 0} (R : ℕ → X → F → Type 0) (xs : List X) (n : ℕ) (x : X) (old between new : List F) →
    slice_get xs n ≡ Some x → Adds (UpTo R xs n) old between → Adds (R n x) between new → Adds (UpTo R xs (n + 1)) old new
goes_on_at R xs n x old between new is before here =
    goes_on R xs n x old between new (slice_get_within xs n x is) (sym (get_or_from_slice_get xs n x x is)) before here
