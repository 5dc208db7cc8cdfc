-- How many terms a text has.
use Rattle.std.proofs.Common.{◌≡◌, List, [], ◌∷◌, length, refl}
use Rattle.erl_term.specs.Term.{trees}
use Rattle.erl_term.specs.declared.term.Term.{Term}
use Rattle.shell_requests.specs.Terms.{IsNotOne}

pub not_one_of : (ts : List Term) → (length ts ≡ 1 → ⊥) → IsNotOne (trees ts)
not_one_of [] many = tt
not_one_of (t ∷ []) many = absurd (many refl)
not_one_of (t ∷ u ∷ ts) many = tt
