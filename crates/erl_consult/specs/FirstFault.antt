-- Why the fault that a text is refused for is its first: the tokens before it are those of some text, as far as they go,
-- and with the token that is told they are of none.
use Rattle.std.specs.Prelude.{◌≡◌, ◌⊎◌, ℕ, ◌-◌, true, List, [], ◌∷◌, ◌++◌}
use Rattle.erl_scan.specs.declared.error.Fault.{Fault}
use Rattle.erl_scan.specs.declared.token.Spot.{Spot}
use Rattle.erl_term.specs.Tree.{Trees}
use Rattle.erl_term.specs.RoundTrip.{deepest}
use Rattle.erl_consult.specs.Grammar.{Part, IsText}
use Rattle.erl_consult.specs.Faults.{parts, last_of, last_is, is_bar, opened, closed, IsFaulty, IsCutShort, NoneFaults}

-- These tokens go on to some text within the limits.
pub record CanGoOn (tokens : List Part) : Type 0 where
  pub others : List Part
  pub terms : Trees
  pub text : IsText (tokens ++ others) terms

-- The last token is a bar, and as many brackets are open behind it as may be: a tail has to be a list, which would be
-- one bracket too deep.
pub record IsDeadEnd (before : List Spot) : Type 0 where
  pub bar : last_is is_bar (last_of before) ≡ true
  pub full : opened before - closed before ≡ deepest

-- The law: what is told is the first fault.
pub record FirstFault : Type 0 where
  -- no text within the limits has a faulty token behind the tokens before it
  pub faulty : (before : List Spot) (p : Part) (at : ℕ) (kind : Fault) (told : ℕ) →
      IsFaulty before p at kind told → CanGoOn (parts before ++ p ∷ []) → ⊥
  -- tokens of which none is faulty go on to a text, but for one dead end
  pub sound : (before : List Spot) → NoneFaults before → CanGoOn (parts before) ⊎ IsDeadEnd before
  -- which is at none of them but the last: where one more is not faulty, those before it go on
  pub front : (before after : List Spot) (s : Spot) → NoneFaults (before ++ s ∷ after) → CanGoOn (parts before)
  -- and from which no text goes on
  pub dead_end : (before : List Spot) → IsDeadEnd before → CanGoOn (parts before) → ⊥
  -- tokens that are cut short are no text
  pub cut_short : (before : List Spot) (total : ℕ) (kind : Fault) (told : ℕ) (ts : Trees) →
      IsCutShort before total kind told → IsText (parts before) ts → ⊥
