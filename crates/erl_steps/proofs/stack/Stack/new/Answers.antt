use Rattle.std.proofs.Common.{ap, []}
use Rattle.erl_steps.specs.Views.{stack, onto}
use Rattle.erl_steps.proofs.stack.Stack.new.Goals as goal

pub returns : goal.returns
unfolding stack
returns c = ap (onto []) c.new.ensures.items
