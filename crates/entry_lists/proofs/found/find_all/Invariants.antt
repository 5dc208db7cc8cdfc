-- A front of the runs was looked at, and as many are left as stand behind it.
use Rattle.std.proofs.Common.{◌-◌, length}
use Rattle.entry_lists.specs.Found.{HasLooked}
use Rattle.entry_lists.specs.Replies.{replies_by_run}
use Rattle.entry_lists.proofs.found.find_all.Given as goal

abbrev pub invariant-loop-found : goal.invariant-loop-found
invariant-loop-found g l = HasLooked g.E.Replying.client_of (replies_by_run g.E.Replying.replies_of l.runs) l.found

abbrev pub decreases-loop-found : goal.decreases-loop-found
decreases-loop-found g l = length l.runs - l.found.run
