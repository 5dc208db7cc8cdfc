use Rattle.erl_steps.proofs.Stacks.{stack_push}
use Rattle.erl_steps.specs.Views.{stack}
use Rattle.erl_steps.proofs.stack.Stack.push.Goals as goal

pub returns : goal.returns
unfolding stack
returns c = stack_push c.args.self.now.frames.items c.push.new.self.items c.args.frame c.in_ok-push.ensures.items
