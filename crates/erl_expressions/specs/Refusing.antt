-- Where reading stops: behind what was read, or at the token of which a refusal is told.
use Rattle.std.specs.Prelude.{◌≡◌, ℕ, suc, ◌≤◌, Bool, true, false, if◌then◌else◌, List, [], ◌∷◌, length}
use Rattle.erl_scan.specs.declared.token.Token.{Token}
use Rattle.erl_scan.specs.declared.token.Token.TheVariants as tokens
use Rattle.erl_scan.specs.declared.token.Spot.{Spot}
use Rattle.erl_expressions.specs.declared.refusal.Refusal.{Refusal}

-- whether a token is the dot that ends a form
abbrev pub ends_form : Token → Bool
ends_form tokens.Dot = true
ends_form token = false

abbrev pub begins_with_dot : List Spot → Bool
begins_with_dot [] = false
begins_with_dot (s ∷ ss) = ends_form s.what

-- how many tokens there are from the first dot on, and 0 where there is none
abbrev pub from_dot : List Spot → ℕ
from_dot [] = 0
from_dot (s ∷ ss) = if ends_form s.what then suc (length ss) else from_dot ss

-- What was read has no dot, and these tokens are left.
pub record Leaves (ts rest : List Spot) : Type 0 where
  pub fewer : length rest ≤ length ts
  pub no_dot : from_dot ts ≡ from_dot rest

-- A refusal is told of one of these tokens, up to the first dot; or of their end, where they have no dot.
pub record IsToldOf (ts : List Spot) (r : Refusal) : Type 0 where
  pub within : r.left ≤ length ts
  pub before_dot : from_dot ts ≤ r.left
