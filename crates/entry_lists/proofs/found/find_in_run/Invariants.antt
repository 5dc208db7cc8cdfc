-- The front that was looked at ends in this run.
use Rattle.std.proofs.Common.{◌≡◌, ◌-◌, length}
use Rattle.entry_lists.specs.Found.{HasLooked}
use Rattle.entry_lists.specs.Replies.{replies_by_run}
use Rattle.entry_lists.proofs.found.find_in_run.Given as goal

abbrev pub invariant-loop-reply : goal.invariant-loop-reply
invariant-loop-reply g l = record {
  looked : HasLooked g.E.Replying.client_of (replies_by_run g.E.Replying.replies_of l.runs) l.found;
  same_run : l.found.run ≡ l.initial.found.run;
}

abbrev pub decreases-loop-reply : goal.decreases-loop-reply
decreases-loop-reply g l = length l.replies - l.found.reply
