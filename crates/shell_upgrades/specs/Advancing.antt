-- The instruction that a script carries out next, whose term is made before it does.
use Rattle.std.specs.Prelude.{Option, None, Some, option_and_then}
use Rattle.erl_term.specs.Tree.{Tree}
use Rattle.low_instructions.specs.declared.low.Low.{Low}
use Rattle.shell_state.specs.Node.{NodeState}
use Rattle.shell_state.specs.Scripts.{next_in}
use Rattle.node_types.specs.declared.event.Answer.{Answer}
use Rattle.node_types.specs.declared.event.Answer.TheVariants as tells
use Rattle.shell_answers.specs.Answers.{carried_out, fixed}
use Rattle.shell_answers.specs.declared.fixed.Fixed.TheVariants as words
use Rattle.shell_state.specs.Performing.{advanced_in}

-- if a script runs, and has one left
abbrev pub next_of : NodeState → Option Low
next_of n = option_and_then next_in n.runner

abbrev pub carried_out_if : Option Tree → Tree
carried_out_if None = fixed words.Done
carried_out_if (Some instruction) = carried_out instruction

-- what an advance is answered: where the instruction was carried out, by its term
abbrev pub advanced_by : Option Tree → Answer → Tree
advanced_by next (tells.Ran instruction) = carried_out_if next
advanced_by next answer = advanced_in answer
