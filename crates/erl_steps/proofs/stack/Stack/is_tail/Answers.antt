use Rattle.std.proofs.Common.{sym}
use Rattle.erl_steps.proofs.Stacks.{tail_at_top, tail_of_none}
use Rattle.erl_steps.specs.Views.{stack}
use Rattle.erl_steps.proofs.stack.Stack.is_tail.Goals as goal

pub returns-in-Some : goal.returns-in-Some
unfolding stack
returns-in-Some c = tail_at_top c.as_slice.result.now c.in-Some.field-0-1.now c.args.self.now.frames.items c.in-Some.frame.now
    c.ends_a_call.result (sym c.as_slice.ensures.value) c.in-Some.ensures.cases.0 c.ends_a_call.ensures

pub returns-in-None : goal.returns-in-None
unfolding stack
returns-in-None c = tail_of_none c.as_slice.result.now c.args.self.now.frames.items (sym c.as_slice.ensures.value) c.in-None.ensures.cases
