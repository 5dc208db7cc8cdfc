-- The old bytes stay first.
use Rattle.rehearsal_page.specs.Page.{StandsBefore}
use Rattle.rehearsal_page.proofs.wrong.put_observations.Given as goal

abbrev pub invariant-loop-observation : goal.invariant-loop-observation
invariant-loop-observation l = StandsBefore l.fn.out.items l.out.items
