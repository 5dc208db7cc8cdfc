-- How what was done of a command is entered.
use Rattle.std.specs.Prelude.{◌≡◌, ℕ, List, [], ◌∷◌, ◌++◌, None, Result, Ok, Err}
use Rattle.undo_journal.specs.declared.error.JournalError.TheVariants as error
use Rattle.node_history.specs.declared.command.Command.{Command}
use Rattle.node_history.specs.declared.command.Command.TheVariants as command
use Rattle.node_history.specs.declared.command.Fault.{Fault}
use Rattle.node_history.specs.declared.command.Said.{Said}
use Rattle.node_history.specs.declared.command.Said.TheVariants as said
use Rattle.node_history.specs.declared.entry.Entry.{Entry}
use Rattle.node_history.specs.declared.entry.Line.{Line}
use Rattle.node_commands.specs.Telling.{error_of}
use Rattle.node_commands.specs.declared.given.Acted.{Acted}
use Rattle.node_commands.specs.declared.given.Acted.TheVariants as acted
use Rattle.node_lock.specs.declared.error.LockError.{LockError}
use Rattle.node_lock.specs.declared.error.LockError.TheVariants as lock

-- how it's told: what is refused, as the journal tells it
abbrev pub result_of : Result Said Fault → Result Said LockError
result_of (Ok it) = Ok it
result_of (Err why) = Err (lock.Journal (error_of why))

-- What was done of a command is put behind entries and lines, and told so.
abbrev pub Puts : ℕ → Command → Command → Acted → List Entry → List Line → Result Said LockError → List Entry → List Line → Type 0
Puts seat c listed (acted.Whole g) entries lines r more_entries more_lines =
    (more_entries ≡ entries ++ record { seat = seat; command = c; answer = g.entered; note = g.note } ∷ []) ×
    (more_lines ≡ lines ++ record { command = listed; answer = g.listed } ∷ []) × (r ≡ result_of g.told)
Puts seat c listed (acted.Stopped s) entries lines r more_entries more_lines =
    (more_entries ≡ entries ++
    record { seat = seat; command = command.Undo s.reached; answer = Ok (said.Undone s.entered); note = None } ∷ []) ×
    (more_lines ≡ lines ++ record { command = command.Undo s.reached; answer = Ok (said.Undone s.listed) } ∷ []) ×
    (r ≡ Err (lock.Journal (error.Memory s.reached s.told)))
