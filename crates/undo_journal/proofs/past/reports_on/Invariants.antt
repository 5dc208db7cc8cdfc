-- So many equal reports are made so far.
use Rattle.std.proofs.Common.{◌≡◌, replicate}
use Rattle.undo_journal.specs.Past.{stations}
use Rattle.undo_journal.specs.Timeline.{report_of}
use Rattle.undo_journal.proofs.past.reports_on.Given as goal

abbrev pub invariant-loop-i : goal.invariant-loop-i
invariant-loop-i g l = l.reports.items ≡ replicate l._i (report_of (stations l.cut))
