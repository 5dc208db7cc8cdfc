-- The first seat of a node that was opened.
use Rattle.std.proofs.Common.{◌≡◌, ◌∙◌, ℕ, ◌<◌, zero, suc, List, [], ◌∷◌, ◌++◌, length, slice_index_or, refl, sym, ap, subst, arith, rules}
use Rattle.workers.specs.Core.{SeatState}
use Rattle.workers.specs.Opening.{AreFresh, fresh, fresh_seats}

first-of : (count : ℕ) → (rest : List SeatState) × (fresh_seats (suc count) ≡ fresh 1 ∷ rest)
first-of zero = ([], refl)
first-of (suc count) =
    let it = first-of count in
    (it.0 ++ fresh (suc (suc count)) ∷ [], ap (λ (ls : List SeatState). ls ++ fresh (suc (suc count)) ∷ []) it.1)

begins-fresh : (count : ℕ) (seats : List SeatState) → 0 < count → AreFresh count seats → (rest : List SeatState) × (seats ≡ fresh 1 ∷ rest)
begins-fresh zero seats some are = absurd (omega arith)
begins-fresh (suc count) seats some are = let it = first-of count in (it.0, are ∙ it.1)

-- there is one
pub some-seat : (count : ℕ) (seats : List SeatState) → 0 < count → AreFresh count seats → 0 < length seats
some-seat count seats some are =
    let it = begins-fresh count seats some are in
    subst (λ (ls : List SeatState). 0 < length ls) (sym it.1) (search rules)

-- and it has asked nothing
pub first-fresh : (count : ℕ) (seats : List SeatState) (first : SeatState) → 0 < count → AreFresh count seats → first ≡ slice_index_or seats 0 first → first ≡ fresh 1
first-fresh count seats first some are is =
    let it = begins-fresh count seats some are in
    is ∙ ap (λ (ls : List SeatState). slice_index_or ls 0 first) it.1
