-- The old bytes stay first.
use Rattle.rehearsal_page.specs.Page.{StandsBefore}
use Rattle.rehearsal_page.proofs.steps.put_replies.Given as goal

abbrev pub invariant-loop-happening : goal.invariant-loop-happening
invariant-loop-happening l = StandsBefore l.fn.out.items l.out.items
