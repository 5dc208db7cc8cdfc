use Rattle.erl_steps.proofs.Stacks.{stack_pop}
use Rattle.erl_steps.specs.Views.{stack}
use Rattle.erl_steps.proofs.stack.Stack.pop.Goals as goal

pub returns : goal.returns
unfolding stack
returns c = stack_pop c.pop.result c.args.self.now.frames.items c.pop.new.self.items _ _ c.args.self.now.frames.ok.0
    c.pop.new.self.ok.0 c.pop.ensures.items c.pop.ensures.cases
