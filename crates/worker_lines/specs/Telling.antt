-- What is told where the node is asked for something, and doesn't do it.
use Rattle.std.specs.Prelude.{Option, None, Some}
use Rattle.erl_term.specs.Tree.{Tree}
use Rattle.undo_journal.specs.declared.error.JournalError.{JournalError}
use Rattle.undo_journal.specs.declared.error.JournalError.TheVariants as error
use Rattle.node_types.specs.Note.{Note}
use Rattle.node_types.specs.declared.event.Refusal.{Refusal}
use Rattle.node_history.specs.declared.command.Fault.{Fault}
use Rattle.node_history.specs.declared.command.Fault.TheVariants as fault
use Rattle.workers.specs.LockError.{LockError}
use Rattle.workers.specs.LockError.TheVariants as lock
use Rattle.shell_answers.specs.Answers.{fixed, stopped_undo}
use Rattle.shell_answers.specs.Refusals.{Subject, refusal_of}
use Rattle.shell_answers.specs.declared.fixed.Fixed.TheVariants as words
use Rattle.shell_exec.specs.Undone.{first_of}
use Rattle.shell_exec.specs.Fate.{Fate}
use Rattle.shell_exec.specs.Fate.TheVariants as fates
use Rattle.workers.specs.declared.error.WorkError.{WorkError}
use Rattle.workers.specs.declared.error.WorkError.TheVariants as work

-- why it's refused, told of this
abbrev pub fault_told : Subject → Fault → Tree
fault_told about (fault.Refused why) = refusal_of about why
fault_told about fault.Forgotten = fixed words.Forgotten
fault_told about fault.DeadMark = fixed words.DeadMark
fault_told about fault.SerialEnd = fixed words.SerialEnd

-- by the journal's error

abbrev pub journal_told : Subject → JournalError Refusal Note → Tree
journal_told about (error.Step why) = refusal_of about why
journal_told about error.Forgotten = fixed words.Forgotten
journal_told about error.DeadMark = fixed words.DeadMark
journal_told about error.SerialEnd = fixed words.SerialEnd
journal_told about (error.Memory mark reports) = stopped_undo mark (first_of reports.items)

abbrev pub journal_fate : JournalError Refusal Note → Option Fate
journal_fate (error.Step why) = None
journal_fate error.Forgotten = None
journal_fate error.DeadMark = None
journal_fate error.SerialEnd = None
journal_fate (error.Memory mark reports) = Some (fates.StoppedAt mark)

-- by why the command was not carried out

abbrev pub error_told : Subject → LockError → Tree
error_told about (lock.Journal e) = journal_told about e
error_told about lock.Memory = fixed words.Memory

abbrev pub error_fate : LockError → Option Fate
error_fate (lock.Journal e) = journal_fate e
error_fate lock.Memory = Some fates.Refused

-- by why work has not come to its end

abbrev pub work_told : Subject → WorkError → Tree
work_told about (work.Lock e) = error_told about e
work_told about work.GateClosed = fixed words.Memory
work_told about work.NoReply = fixed words.NoReply
work_told about work.Memory = fixed words.Memory

abbrev pub work_fate : WorkError → Option Fate
work_fate (work.Lock e) = error_fate e
work_fate work.GateClosed = Some fates.Refused
work_fate work.NoReply = None
work_fate work.Memory = Some fates.Refused
