-- The old bytes stay first.
use Rattle.rehearsal_page.specs.Page.{StandsBefore}
use Rattle.rehearsal_page.proofs.steps.put_process_items.Given as goal

abbrev pub invariant-loop-pid : goal.invariant-loop-pid
invariant-loop-pid l = StandsBefore l.fn.out.items l.out.items
