-- The deepest stand behind, or in front alone.
use Rattle.erl_term.proofs.Parts.{told_behind, told_in_front}
use Rattle.erl_term.proofs.term.told.Extent.then.Goals as goal

pub returns-then-behind-self : goal.returns-then-behind-self
returns-then-behind-self c =
    λ xs ys len one other. told_in_front xs ys _ _ _ _ _ _ _ one other c.if-behind-self.true c.saturating_add-size.ensures

pub returns : goal.returns
returns c =
    λ xs ys len one other. told_behind xs ys _ _ _ _ _ _ _ _ len one other c.if-behind-self.false c.saturating_add-size.ensures
