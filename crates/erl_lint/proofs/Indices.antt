-- The index of a name that is not among others.
use Rattle.std.proofs.Common.{◌≡◌, ℕ, ◌≤◌, Bool, true, false, not, List, length, None, Some, if◌then◌else◌, sym, refl, arith}
use Rattle.std.proofs.Math.Dec.{ltb}
use Rattle.std.proofs.lemmas.Bool.{ltb-false}
use Rattle.std.proofs.lemmas.List.Sums.{prefix_len-le-length}
use Rattle.std.specs.List.{position, position_or_len}

past : (b : Bool) (n m : ℕ) → b ≡ ltb n m → (if b then Some n else None) ≡ None → m ≤ n
past true n m is none = absurd (cc)
past false n m is none = ltb-false n m (sym is)

-- A list that has no item of a kind: the first one would stand behind all.
pub none_found : {X : Type 0} (test : X → Bool) (xs : List X) → position test xs ≡ None → length xs ≡ position_or_len test xs
none_found test xs none =
    omega (arith, prefix_len-le-length (λ x. not (test x)) xs, past (ltb (position_or_len test xs) (length xs)) (position_or_len test xs) (length xs) refl none)
