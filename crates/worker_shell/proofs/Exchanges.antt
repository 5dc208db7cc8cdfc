-- A line that was told is an exchange of the session.
use Rattle.std.proofs.Common.{◌≡◌, ℕ, List, [], ◌++◌, Option, refl, ap, ◌∙◌}
use Rattle.line_server.specs.Session.{IsExchange, Exchange}
use Rattle.workers.specs.Core.{SeatState}
use Rattle.release_files.specs.Files.{Contents}
use Rattle.shell_requests.specs.Request.{spoken}
use Rattle.worker_lines.specs.Fate.{Fate}
use Rattle.worker_lines.specs.Asking.{IsAnswered}
use Rattle.worker_lines.specs.Execution.{ExecutesLine}
use Rattle.worker_shell.specs.Desk.{DeskState, desk_exchange}
use Rattle.workers.specs.Lines.{with_lines}

-- a session of files and of a seat
abbrev desk : Contents → SeatState → DeskState
desk files seat = record { files = files; seat = seat }

pub exchange-done : (fate : Option Fate) (files : Contents) (seat after : SeatState) (line : Option (List ℕ)) (none answer old appended : List ℕ) → none ≡ [] → IsAnswered (ExecutesLine files seat (spoken line) fate) seat after none answer → appended ≡ old ++ answer → IsExchange (desk_exchange fate (record { files = files; seat = seat }) line) (record { files = files; seat = after }) old appended
exchange-done fate files seat after line none answer old appended empty told more =
    let text : answer ≡ told.answer = told.written ∙ ap (λ l. l ++ told.answer) empty in
    let t : Exchange DeskState = record { text = told.answer; after = desk files (with_lines seat told.lines) } in
    (t, (told.lines, told.may_be, refl), ap (λ (z : SeatState). desk files z) told.listed, more ∙ ap (λ l. old ++ l) text)
