-- What is found last is the first fault of all.
use Rattle.std.proofs.Common.{◌≡◌, ◌≤◌, nat_le, Bool, true, false, if◌then◌else◌, List, [], ◌∷◌, Option, None, Some, All, zero, suc, inl, inr, refl, arith}
use Rattle.std.proofs.lemmas.Bool.{leb-true, leb-false}
use Rattle.std.proofs.lemmas.List.Elements.{Contains-get_or, Contains-append_left, Contains-append_right, Contains-append_cases}
use Rattle.erl_lint.specs.declared.fault.StaticFault.{StaticFault}
use Rattle.erl_lint.specs.First.{offset, sooner, soonest, IsFirstFault}

none_there : (f : StaticFault) (fs : List StaticFault) → f ∷ fs ≡ [] → ⊥
none_there f fs same = cc

all_more : (r f : StaticFault) (fs : List StaticFault) → offset r ≤ offset f → All (λ g. offset r ≤ offset g) fs → All (λ g. offset r ≤ offset g) (f ∷ fs)
all_more r f fs before all zero d within = before
all_more r f fs before all (suc k) d within = all k d (omega (arith, within))

-- a later fault is passed over
passes : (r : Option StaticFault) (f g : StaticFault) (gs : List StaticFault) → offset f ≤ offset g → IsFirstFault r (f ∷ gs) → IsFirstFault r (f ∷ g ∷ gs)
passes None f g gs later first = absurd (none_there f gs first)
passes (Some r) f g gs later first = (
  elim (Contains-append_cases (f ∷ []) gs r first.0) [
    | inl head ↦ Contains-append_left (f ∷ []) (g ∷ gs) r head
    | inr rest ↦ Contains-append_right (f ∷ g ∷ []) gs r rest
  ],
  all_more r f (g ∷ gs) (first.1 0 f (omega arith))
      (all_more r g gs (omega (arith, later, first.1 0 f (omega arith))) (λ k d within. first.1 (suc k) d (omega (arith, within)))),
)

-- a sooner fault is taken
takes : (r : Option StaticFault) (f g : StaticFault) (gs : List StaticFault) → offset g ≤ offset f → IsFirstFault r (g ∷ gs) → IsFirstFault r (f ∷ g ∷ gs)
takes None f g gs sooner first = absurd (none_there g gs first)
takes (Some r) f g gs sooner first = (
  Contains-append_right (f ∷ []) (g ∷ gs) r first.0,
  all_more r f (g ∷ gs) (omega (arith, sooner, first.1 0 g (omega arith))) first.1,
)

one_more : (f g : StaticFault) (gs : List StaticFault) (b : Bool) → nat_le (offset f) (offset g) ≡ b →
    IsFirstFault (soonest (Some f) gs) (f ∷ gs) → IsFirstFault (soonest (Some g) gs) (g ∷ gs) →
    IsFirstFault (soonest (if b then Some f else Some g) gs) (f ∷ g ∷ gs)
one_more f g gs true is first other = passes (soonest (Some f) gs) f g gs (leb-true (offset f) (offset g) is) first
one_more f g gs false is first other =
    takes (soonest (Some g) gs) f g gs (omega (arith, leb-false (offset f) (offset g) is)) other

from : (f : StaticFault) (fs : List StaticFault) → IsFirstFault (soonest (Some f) fs) (f ∷ fs)
from f [] = (Contains-get_or (f ∷ []) 0 f (omega arith), all_more f f [] (omega arith) (λ k d within. absurd (omega (arith, within))))
from f (g ∷ gs) = one_more f g gs (nat_le (offset f) (offset g)) refl (from f gs) (from g gs)

pub first_of : (faults : List StaticFault) → IsFirstFault (soonest None faults) faults
first_of [] = refl
first_of (f ∷ fs) = from f fs
