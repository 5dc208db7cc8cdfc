-- The notes so far are those of the entries so far.
use Rattle.std.proofs.Common.{◌≡◌, take}
use Rattle.undo_journal.specs.Past.{stations}
use Rattle.undo_journal.specs.Timeline.{notes_of}
use Rattle.undo_journal.proofs.past.report_on.Given as goal

abbrev pub invariant-loop-entry : goal.invariant-loop-entry
invariant-loop-entry g l = l.notes.items ≡ notes_of (stations (take l.entry-index l.cut))
