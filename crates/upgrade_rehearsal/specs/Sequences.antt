-- What happens, one thing after the other, and what is sent meanwhile.
use Rattle.std.specs.Prelude.{◌≡◌, List, [], ◌∷◌, ◌++◌}

-- From one state to another, with what is sent meanwhile, in order.
abbrev pub Goes : Type 0 → Type 0 → Type 1
Goes S M = S → List M → S → Type 0

-- first this, and then that
pub record Then {S M : Type 0} (P Q : Goes S M) (old : S) (sent : List M) (new : S) : Type 0 where
  pub between : S
  pub before : List M
  pub first : P old before between
  pub behind : List M
  pub second : Q between behind new
  pub all : sent ≡ before ++ behind

-- of each item in turn
abbrev pub InTurn : {S M X : Type 0} → (X → Goes S M) → List X → Goes S M
InTurn R [] old sent new = (new ≡ old) × (sent ≡ [])
InTurn R (x ∷ xs) old sent new = Then (R x) (InTurn R xs) old sent new
