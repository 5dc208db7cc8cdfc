-- A session has served, and its node is closed with all of its seats, or not.
use Rattle.std.proofs.Common.{◌≡◌, ℕ, List, Option, Some, IsSomeAnd, subst}
use Rattle.line_server.specs.declared.ended.ServeEnd.{ServeEnd}
use Rattle.workers.specs.Core.{SeatState}
use Rattle.workers.specs.Opening.{fresh}
use Rattle.release_files.specs.Files.{Contents}
use Rattle.release_table.specs.declared.table.Release.{Release}
use Rattle.node_shell.specs.declared.fault.StartFault.TheVariants as start
use Rattle.worker_shell.specs.Desk.{DeskState}
use Rattle.worker_shell.specs.Run.{AttendFails, CloseFails, EndsUnsettled, HasServed}
use Rattle.worker_shell.specs.declared.fault.WorkersFault.{WorkersFault}
use Rattle.worker_shell.specs.declared.fault.WorkersFault.TheVariants as fault

pub unsettled : (why : WorkersFault) (files : Contents) (release : Release) (count : ℕ) (left rest held holds : Option (List ℕ)) (ended : ServeEnd) (end : DeskState) → HasServed files (fresh 1) end left rest held holds ended → CloseFails why release count end.seat → AttendFails why files release count left rest held holds
unsettled (fault.NotStarted why) files release count left rest held holds ended end served fails = absurd fails
unsettled fault.WorkerCount files release count left rest held holds ended end served fails = absurd fails
unsettled fault.Foreign files release count left rest held holds ended end served fails =
    record { ended = ended; end = end; served = served; fails = fails }
unsettled fault.SeatsLost files release count left rest held holds ended end served fails =
    record { ended = ended; end = end; served = served; fails = fails }

-- What holds of the seat that is handed back holds of the session's. The reader and the writer are then as the session left them.
pub handed-back : (files : Contents) (first : SeatState) (left rest after held holds hold : Option (List ℕ)) (sat : Option (ServeEnd × SeatState)) (ended : ServeEnd) (seat : SeatState) (among : SeatState → Type 0) → IsSomeAnd sat (λ back. (end : DeskState) × (back.1 ≡ end.seat) × HasServed files first end left rest held holds back.0) → rest ≡ after → holds ≡ hold → sat ≡ Some (ended, seat) → among seat → (end : DeskState) × HasServed files first end left after held hold ended × among end.seat
handed-back files first left rest after held holds hold sat ended seat among served rests holding is of_seat =
    let back = subst (λ (s : Option (ServeEnd × SeatState)). IsSomeAnd s (λ b. (end : DeskState) × (b.1 ≡ end.seat) × HasServed files first end left rest held holds b.0)) is served in
    let read = subst (λ (o : Option (List ℕ)). HasServed files first back.0 left o held holds ended) rests back.2 in
    (back.0, subst (λ (o : Option (List ℕ)). HasServed files first back.0 left after held o ended) holding read, subst among back.1 of_seat)
