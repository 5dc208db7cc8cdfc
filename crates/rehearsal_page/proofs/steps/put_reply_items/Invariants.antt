-- The old bytes stay first.
use Rattle.rehearsal_page.specs.Page.{StandsBefore}
use Rattle.rehearsal_page.proofs.steps.put_reply_items.Given as goal

abbrev pub invariant-loop-reply : goal.invariant-loop-reply
invariant-loop-reply l = StandsBefore l.fn.out.items l.out.items
