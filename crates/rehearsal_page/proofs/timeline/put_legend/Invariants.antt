-- The old bytes stay first.
use Rattle.rehearsal_page.specs.Page.{StandsBefore}
use Rattle.rehearsal_page.proofs.timeline.put_legend.Given as goal

abbrev pub invariant-loop-kind : goal.invariant-loop-kind
invariant-loop-kind l = StandsBefore l.fn.out.items l.out.items
