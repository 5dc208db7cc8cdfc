-- Comments alone so far.
use Rattle.console_answers.specs.Comments.{AddsComments}
use Rattle.console_answers.proofs.help.write_help.Given as goal

abbrev pub invariant-loop-word : goal.invariant-loop-word
invariant-loop-word l = AddsComments l.fn.out.items l.out.items
