-- From the first dot on there are no more tokens than there are.
use Rattle.std.proofs.Common.{◌≡◌, ℕ, suc, ◌≤◌, Bool, true, false, if◌then◌else◌, List, [], ◌∷◌, length, arith}
use Rattle.erl_scan.specs.declared.token.Spot.{Spot}
use Rattle.erl_expressions.specs.Refusing.{ends_form, from_dot}

by_dot : (b : Bool) (here behind : ℕ) → behind ≤ here → (if b then suc here else behind) ≤ suc here
by_dot true here behind le = omega arith
by_dot false here behind le = omega (arith, le)

pub from_dot_most : (ss : List Spot) → from_dot ss ≤ length ss
from_dot_most [] = omega arith
from_dot_most (s ∷ ss) = by_dot (ends_form s.what) (length ss) (from_dot ss) (from_dot_most ss)
