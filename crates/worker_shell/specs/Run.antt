-- What a run with workers does.
use Rattle.std.specs.Prelude.{◌≡◌, ◌⊎◌, ℕ, ◌+◌, ◌<◌, ◌≤◌, Contains, false, List, Option, None, Some}
use Rattle.line_server.specs.Serving.{Serves, ServesWhole}
use Rattle.line_server.specs.declared.ended.ServeEnd.{ServeEnd}
use Rattle.release_boot.specs.Boot.{BootFails}
use Rattle.release_boot.specs.declared.error.BootError.TheVariants as boot
use Rattle.release_files.specs.Files.{Contents}
use Rattle.release_files.specs.Releases.{IsRelease}
use Rattle.release_table.specs.declared.table.Release.{Release}
use Rattle.node_history.specs.History.{NodeTimeline}
use Rattle.node_history.specs.declared.entry.Entry.{Entry}
use Rattle.workers.specs.Closing.{AreAll, HasForeign, IsClosed, IsLegal}
use Rattle.workers.specs.Core.{SeatState}
use Rattle.workers.specs.Opening.{fresh}
use Rattle.workers.specs.OpenError.{OpenError}
use Rattle.workers.specs.OpenError.TheVariants as open_error
use Rattle.node_shell.specs.Run.{StartFails}
use Rattle.node_shell.specs.declared.fault.StartFault.TheVariants as start
use Rattle.worker_shell.specs.Desk.{DeskState, desk_exchange}
use Rattle.worker_shell.specs.declared.fault.WorkersFault.{WorkersFault}
use Rattle.worker_shell.specs.declared.fault.WorkersFault.TheVariants as fault

-- why no node is opened, as why no run starts
abbrev pub not_opened : OpenError → WorkersFault
not_opened open_error.SeatCount = fault.WorkerCount
not_opened (open_error.Boot app reason) = fault.NotStarted (start.OfBoot (boot.NotStarted app reason))
not_opened open_error.Memory = fault.NotStarted start.NoMemory

-- The session of files and of a seat served the reader's lines, from where the seat stood to `end`. `left` and `rest` are what
-- the reader has left before and after, `held` and `holds` what the writer holds. In a run without a fault that met no lack of
-- memory all lines of the input are answered, and their text is written behind what the writer held.
pub record HasServed (files : Contents) (seat : SeatState) (end : DeskState) (left rest held holds : Option (List ℕ))
    (ended : ServeEnd)
    : Type 0 where
  pub serves : Serves desk_exchange (record { files = files; seat = seat }) end left rest held holds ended
  pub whole : (input before : List ℕ) → left ≡ Some input → held ≡ Some before → ended.fault ≡ None → ended.is_refused ≡ false →
      ServesWhole desk_exchange (record { files = files; seat = seat }) end input before holds

-- The node of a release is closed with so many seats. One of them is this: so its list has the history's entries of it, in order.
pub record IsSettled (release : Release) (count : ℕ) (seat : SeatState) : Type 0 where
  pub seats : List SeatState
  pub history : List Entry
  pub timeline : NodeTimeline
  pub closed : IsClosed release count seats history timeline
  pub among : Contains seats seat

-- All seats of the node are back, this one among them, and one of them has another list than the history says, which is legal.
pub record IsForeign (release : Release) (count : ℕ) (seat : SeatState) : Type 0 where
  pub seats : List SeatState
  pub history : List Entry
  pub timeline : NodeTimeline
  pub legal : IsLegal release history timeline
  pub all : AreAll count seats
  pub among : Contains seats seat
  pub foreign : HasForeign history seats

-- Why a node that has served is not closed with all of its seats, of which this is one. Of seats that are lost nothing is said.
abbrev pub CloseFails : WorkersFault → Release → ℕ → SeatState → Type 0
CloseFails (fault.NotStarted why) release count seat = ⊥
CloseFails fault.WorkerCount release count seat = ⊥
CloseFails fault.Foreign release count seat = IsForeign release count seat
CloseFails fault.SeatsLost release count seat = Unit {0}

-- The node of a release was served by so many seats, the first of which answered the reader's lines, from when it had asked
-- nothing. What the other seats do meanwhile is not said.
pub record Attends (files : Contents) (release : Release) (count : ℕ) (left rest held holds : Option (List ℕ)) (ended : ServeEnd)
    : Type 0 where
  pub end : DeskState
  pub served : HasServed files (fresh 1) end left rest held holds ended
  pub settled : IsSettled release count end.seat

-- The lines were answered, but the node is not closed with all of its seats.
pub record EndsUnsettled (fault : WorkersFault) (files : Contents) (release : Release) (count : ℕ)
    (left rest held holds : Option (List ℕ)) : Type 0 where
  pub ended : ServeEnd
  pub end : DeskState
  pub served : HasServed files (fresh 1) end left rest held holds ended
  pub fails : CloseFails fault release count end.seat

-- nothing was read, and nothing written
abbrev pub IsUntouched : Option (List ℕ) → Option (List ℕ) → Option (List ℕ) → Option (List ℕ) → Type 0
IsUntouched left rest held holds = (rest ≡ left) × (holds ≡ held)

-- Why a release of which there are 1 to 15 workers doesn't start, or has not come to a good end.
abbrev pub AttendFails : WorkersFault → Contents → Release → ℕ → Option (List ℕ) → Option (List ℕ) → Option (List ℕ) →
    Option (List ℕ) →
    Type 0
AttendFails (fault.NotStarted (start.OfFiles why kept)) files release count left rest held holds = ⊥
AttendFails (fault.NotStarted (start.OfBoot e)) files release count left rest held holds =
    BootFails e release × IsUntouched left rest held holds
AttendFails (fault.NotStarted start.NoMemory) files release count left rest held holds = IsUntouched left rest held holds
AttendFails fault.WorkerCount files release count left rest held holds = ⊥
AttendFails fault.Foreign files release count left rest held holds =
    EndsUnsettled fault.Foreign files release count left rest held holds
AttendFails fault.SeatsLost files release count left rest held holds =
    EndsUnsettled fault.SeatsLost files release count left rest held holds

-- The files say a release of this version. Its node has booted, with a seat for each of so many workers and one more, and each
-- line of the bytes that were read was answered by that seat, as the table of `ExecutesLine` says. At the end the node is
-- closed: its history is legal, and the lines of the seat are its entries of the seat, in order.
pub record RunsWorkers (files : Contents) (vsn : List ℕ) (workers : ℕ) (left rest held holds : Option (List ℕ)) (ended : ServeEnd)
    : Type 0 where
  pub some : 1 ≤ workers
  pub few : workers ≤ 15
  pub release : Release
  pub is_release : IsRelease files vsn release
  pub attends : Attends files release (workers + 1) left rest held holds ended

-- Why there is no run: no node has started, as in the stepped mode, or there can't be so many workers; or the lines were
-- answered, and then a seat's list was not the history's, or a seat was lost for lack of memory.
abbrev pub WorkersFail : WorkersFault → Contents → List ℕ → ℕ → Option (List ℕ) → Option (List ℕ) → Option (List ℕ) →
    Option (List ℕ) → Type 0
WorkersFail (fault.NotStarted why) files vsn workers left rest held holds =
    (1 ≤ workers) × (workers ≤ 15) × StartFails why files vsn × IsUntouched left rest held holds
WorkersFail fault.WorkerCount files vsn workers left rest held holds =
    ((workers ≡ 0) ⊎ (15 < workers)) × IsUntouched left rest held holds
WorkersFail fault.Foreign files vsn workers left rest held holds =
    (release : Release) × IsRelease files vsn release ×
    EndsUnsettled fault.Foreign files release (workers + 1) left rest held holds
WorkersFail fault.SeatsLost files vsn workers left rest held holds =
    (release : Release) × IsRelease files vsn release ×
    EndsUnsettled fault.SeatsLost files release (workers + 1) left rest held holds
