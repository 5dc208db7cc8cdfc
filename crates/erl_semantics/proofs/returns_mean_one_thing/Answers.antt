use Rattle.erl_semantics.proofs.returns_mean_one_thing.Goals as goal
use Rattle.erl_semantics.proofs.CallbackReturns.{meant, alone}

pub returns : goal.returns
returns c = record { meant = meant; alone = alone }
