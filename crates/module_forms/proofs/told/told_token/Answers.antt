-- The token stands where so many are left.
use Rattle.module_forms.proofs.TokenIndices.{stands_there}
use Rattle.module_forms.proofs.told.told_token.Goals as goal

pub returns : goal.returns
returns c =
    stands_there c.args.tokens.now c.args.refusal.left c.index-tokens-tokens.result c.if-refusal-eq0.false c.requires
    c.index-tokens-tokens.is
