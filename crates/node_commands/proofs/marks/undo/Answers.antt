-- An undo that ran out of memory.
use Rattle.std.proofs.Common.{subst}
use Rattle.undo_journal.specs.Journal.{UndoFails}
use Rattle.undo_journal.specs.declared.error.JournalError.{JournalError}
use Rattle.node_types.specs.Note.{Note}
use Rattle.node_types.specs.declared.event.Refusal.{Refusal}
use Rattle.node_commands.proofs.Refused.{stops_or_stays, told_stop}
use Rattle.node_commands.proofs.marks.undo.Goals as goal

pub returns-in-Err-Memory-clause-done : goal.returns-in-Err-Memory-clause-done
returns-in-Err-Memory-clause-done c =
    let mark = c.args.mark in
    let old = c.args.journal.now in
    let new = c.undo.new.self in
    let reached = c.in-Err-Memory.reached in
    let reports = c.in-Err-Memory.reports.items in
    let fails = subst (λ (e : JournalError Refusal Note). UndoFails mark 3 old new e) c.in-Err-Memory.field-0-is c.in-Err-Memory.ensures.err in
    told_stop mark reached old new reports c.stopped.result (stops_or_stays mark reached old new reports fails c.in-Err-Memory.ensures.front) c.stopped.ensures.none c.stopped.ensures.three
