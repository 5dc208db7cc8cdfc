-- Groups: chains of dependencies lead both ways, and the first members are the only ones.
use Rattle.std.proofs.Common.{◌≡◌, ℕ, ◌<◌, Bool, List, length, get_or, sym, ◌∙◌, arith}
use Rattle.std.proofs.lemmas.List.{ext_get_or}
use Rattle.dependency_order.specs.Groups.{AreFirsts, IsFirst, IsJoined}

pub joined_on : (names : ℕ → ℕ → Bool) (p q r : ℕ) → IsJoined names p q → IsJoined names q r → IsJoined names p r
joined_on names p q r one IsJoined.itself = one
joined_on names p q r one (IsJoined.naming {q = s} other link) = IsJoined.naming (joined_on names p q s one other) link
joined_on names p q r one (IsJoined.named {q = s} other link) = IsJoined.named (joined_on names p q s one other) link

pub joined_back : (names : ℕ → ℕ → Bool) (p q : ℕ) → IsJoined names p q → IsJoined names q p
joined_back names p q IsJoined.itself = IsJoined.itself
joined_back names p q (IsJoined.naming {q = s} chain link) =
    joined_on names q s p (IsJoined.named IsJoined.itself link) (joined_back names p s chain)
joined_back names p q (IsJoined.named {q = s} chain link) =
    joined_on names q s p (IsJoined.naming IsJoined.itself link) (joined_back names p s chain)

-- vertices that are joined have one first member
pub first-joined : (names : ℕ → ℕ → Bool) (p q f g : ℕ) → IsJoined names p q → IsFirst names p f → IsFirst names q g → f ≡ g
first-joined names p q f g chain one other =
    let below = one.least g (joined_on names p q g chain other.joined) in
    let above = other.least f (joined_on names q p f (joined_back names p q chain) one.joined) in
    omega (arith, below, above)

pub firsts-same : (names : ℕ → ℕ → Bool) (count : ℕ) (fs gs : List ℕ) → AreFirsts names count fs → AreFirsts names count gs → fs ≡ gs
firsts-same names count fs gs one other =
    let many : length fs ≡ length gs = one.many ∙ sym other.many in
    ext_get_or 0 fs gs many (λ p within.
    let below : p < count = let e = one.many in omega (arith, within, e) in
    first-joined names p p (get_or fs p 0) (get_or gs p 0) IsJoined.itself (one.each p below) (other.each p below))
