-- Answers to events, as they are kept.
use Rattle.std.specs.Prelude.{Option, None, Some}
use Rattle.node_types.specs.declared.event.Answer.{Answer}
use Rattle.node_types.specs.declared.event.Answer.TheVariants as told_as

-- the answer that is kept so: nothing is kept of one that tells nothing
abbrev pub answer_of : Option Answer → Answer
answer_of None = told_as.Unit
answer_of (Some answer) = answer
