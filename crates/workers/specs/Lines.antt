-- Lines of a seat.
use Rattle.std.specs.Prelude.{◌≡◌, List, ◌++◌, Result}
use Rattle.node_history.specs.declared.command.Command.{Command}
use Rattle.node_history.specs.declared.command.Fault.{Fault}
use Rattle.node_history.specs.declared.command.Said.{Said}
use Rattle.node_history.specs.declared.entry.Line.{Line}
use Rattle.node_lock.specs.Core.{SeatState}

-- a command with its answer, as a seat lists it
abbrev pub line : Command → Result Said Fault → Line
line c answer = record { command = c; answer = answer }

-- what comes behind a seat's lines
abbrev pub with_lines : SeatState → List Line → SeatState
with_lines seat more = record { number = seat.number; lines = seat.lines ++ more }

-- lines came behind those of the seat
abbrev pub HasGrown : SeatState → SeatState → Type 0
HasGrown old new = (more : List Line) × (new ≡ with_lines old more)
