-- How the session of a seat answers a line, as the line server sees it.
use Rattle.std.specs.Prelude.{◌≡◌, List}
use Rattle.line_server.specs.Session.{Exchanges}
use Rattle.node_history.specs.declared.entry.Line.{Line}
use Rattle.workers.specs.Core.{SeatState}
use Rattle.release_files.specs.Files.{Contents}
use Rattle.shell_requests.specs.Request.{spoken}
use Rattle.worker_lines.specs.Fate.{Fate}
use Rattle.worker_lines.specs.Execution.{ExecutesLine}
use Rattle.workers.specs.Lines.{with_lines}

-- The session: its files, and the seat that asks.
pub record DeskState : Type 0 where
  pub files : Contents
  pub seat : SeatState

-- The line adds lines to the seat's list, and they and what is written are as the table says.
abbrev pub desk_exchange : Exchanges DeskState Fate
desk_exchange fate s line t = (lines : List Line) × ExecutesLine s.files s.seat (spoken line) fate lines t.text ×
    (t.after ≡ record s { seat = with_lines s.seat lines })
