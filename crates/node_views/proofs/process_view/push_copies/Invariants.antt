-- What was there, and the copies so far.
use Rattle.std.proofs.Common.{◌≡◌, ◌++◌, take}
use Rattle.node_views.proofs.process_view.push_copies.Given as goal

abbrev pub invariant-loop-term : goal.invariant-loop-term
invariant-loop-term l = l.found.items ≡ l.fn.found.items ++ take l.term-index l.terms
