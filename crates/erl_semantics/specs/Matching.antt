-- Which terms match a pattern, and what a match binds (Erlang Reference Manual, Expressions, Pattern Matching).
--
-- `matched p t env`: where `env` is bound, what is bound behind a match of the term `t` with the pattern `p`; nothing where
-- they don't match. Patterns are matched from left to right, and what is bound goes behind what was.
use Rattle.std.specs.Prelude.{ℕ, ◌==◌, if◌then◌else◌, List, [], ◌∷◌, ◌++◌, length, slice_get}
use Rattle.std.specs.Prelude.{Option, None, Some, option_and_then}
use Rattle.erl_term.specs.Tree as term
use Rattle.erl_term.specs.Tree.{Tree, Trees}
use Rattle.erl_term.specs.Order.{tree_cmp}
use Rattle.erl_ir.specs.Pattern as pattern
use Rattle.erl_ir.specs.Pattern.{Pat, Pats}
use Rattle.erl_semantics.specs.Operators.{is_equal}

-- an equal term binds nothing
abbrev pub same_term : Tree → Tree → List Tree → Option (List Tree)
same_term t u env = if is_equal (tree_cmp t u) then Some env else None

-- A bound variable matches what it is bound to. "If matching succeeds, any unbound variable in the pattern becomes bound."
abbrev pub matched_variable : Option Tree → ℕ → Tree → List Tree → Option (List Tree)
matched_variable (Some u) index t env = same_term t u env
matched_variable None index t env = if length env == index then Some (env ++ t ∷ []) else None

abbrev mutual
  pub matched : Pat → Tree → List Tree → Option (List Tree)
  matched (pattern.literal u) t env = same_term t u env
  matched (pattern.variable index) t env = matched_variable (slice_get env index) index t env
  -- the anonymous variable matches any term
  matched pattern.anything t env = Some env
  -- a tuple matches one of as many elements, element by element; so does a list without a tail
  matched (pattern.tuple ps) (term.tuple ts) env = matched_each ps ts env
  matched (pattern.tuple ps) t env = None
  matched (pattern.list ps) (term.list ts) env = matched_each ps ts env
  matched (pattern.list ps) t env = None
  -- `[P1,..,Pn|P]` matches a list of at least n elements whose tail matches P
  matched (pattern.cons ps) (term.list ts) env = matched_front ps ts env
  matched (pattern.cons ps) t env = None
  -- `P1 = P2`: a term "matches both patterns"
  matched (pattern.alias ps) t env = matched_all ps t env

  -- terms in a row match as many patterns, each its own
  pub matched_each : Pats → Trees → List Tree → Option (List Tree)
  matched_each pattern.none term.none env = Some env
  matched_each pattern.none (term.more t ts) env = None
  matched_each (pattern.more p ps) term.none env = None
  matched_each (pattern.more p ps) (term.more t ts) env = option_and_then (λ after. matched_each ps ts after) (matched p t env)

  -- the elements of a list match the patterns, but the last pattern, which the rest of the list matches
  pub matched_front : Pats → Trees → List Tree → Option (List Tree)
  matched_front pattern.none ts env = None
  matched_front (pattern.more p pattern.none) ts env = matched p (term.list ts) env
  matched_front (pattern.more p (pattern.more q ps)) term.none env = None
  matched_front (pattern.more p (pattern.more q ps)) (term.more t ts) env =
      option_and_then (λ after. matched_front (pattern.more q ps) ts after) (matched p t env)

  -- one term matches each pattern
  pub matched_all : Pats → Tree → List Tree → Option (List Tree)
  matched_all pattern.none t env = Some env
  matched_all (pattern.more p ps) t env = option_and_then (λ after. matched_all ps t after) (matched p t env)
