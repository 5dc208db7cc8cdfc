-- How an install is driven to its end.
use Rattle.std.specs.Prelude.{◌≡◌, ℕ, ◌-◌, List, [], ◌∷◌, ◌++◌, All, nat_eq, Result, Ok, Err}
use Rattle.node_types.specs.declared.event.Answer.{Answer}
use Rattle.node_types.specs.declared.event.Answer.TheVariants as answer
use Rattle.node_types.specs.declared.event.Event.TheVariants.{Advance, Install}
use Rattle.node_types.specs.declared.event.Refusal.TheVariants as refusal
use Rattle.node_history.specs.declared.command.Command.TheVariants.{Perform}
use Rattle.node_history.specs.declared.command.Fault.{Fault}
use Rattle.node_history.specs.declared.command.Fault.TheVariants.{Refused}
use Rattle.node_history.specs.declared.command.Said.{Said}
use Rattle.node_history.specs.declared.command.Said.TheVariants.{Performed}
use Rattle.node_history.specs.declared.entry.Line.{Line}
use Rattle.node_lock.specs.Core.{SeatState}
use Rattle.node_lock.specs.Seats.{Lists}
use Rattle.node_lock.specs.declared.error.LockError.{LockError}
use Rattle.node_lock.specs.declared.error.LockError.TheVariants.{Journal}
use Rattle.node_types.specs.Note.{Note}
use Rattle.node_types.specs.declared.event.Refusal.{Refusal}
use Rattle.undo_journal.specs.declared.error.JournalError.{JournalError}
use Rattle.undo_journal.specs.declared.error.JournalError.TheVariants.{Step}
use Rattle.workers.specs.Lines.{line, with_lines}
use Rattle.workers.specs.declared.error.WorkError.{WorkError}
use Rattle.workers.specs.declared.error.WorkError.TheVariants as work
use Rattle.workers.specs.declared.installing.Advanced.{Advanced}
use Rattle.workers.specs.declared.installing.Advanced.TheVariants as advanced
use Rattle.workers.specs.declared.installing.InstallEnd.{InstallEnd}
use Rattle.workers.specs.declared.installing.InstallEnd.TheVariants as install

-- what the answer to an advance tells
abbrev pub advanced_by : Answer → Advanced
advanced_by (answer.Finished vsn description) = advanced.Ended (install.Installed vsn description)
advanced_by (answer.Recovered reason) = advanced.Ended (install.Recovered reason)
advanced_by (answer.Restarted reason) = advanced.Ended (install.Restarted reason)
advanced_by (answer.Job job) = advanced.Went
advanced_by (answer.Revived pid) = advanced.Went
advanced_by (answer.Killed killed) = advanced.Went
advanced_by (answer.Installing vsn instructions) = advanced.Went
advanced_by (answer.Ran instruction) = advanced.Went
advanced_by (answer.Swept modules) = advanced.Went
advanced_by answer.Unit = advanced.Went

-- the process of a pid runs that is to be suspended
abbrev pub IsBusy : LockError → Type 0
IsBusy e = (pid : ℕ) × (e ≡ Journal (Step (refusal.Busy pid)))

-- An advance behind which an install goes on: it was answered, and not by an end; or the process of a pid runs that is to be
-- suspended.
pub data Stride : Type 0 where
  goes : Answer → Stride
  waits : ℕ → Stride

-- it's not an end
abbrev pub GoesOn : Stride → Type 0
GoesOn (goes a) = advanced_by a ≡ advanced.Went
GoesOn (waits pid) = Unit {0}

-- How often an advance may still be answered Busy before the driver gives up waiting: it gives up where that is never.

abbrev pub left_after : ℕ → Stride → ℕ
left_after left (goes a) = left
left_after left (waits pid) = left - 1

abbrev pub line_of_advance : ℕ → Result Said Fault → Line
line_of_advance left told = line (Perform (Advance (nat_eq left 0))) told

abbrev pub line_of_stride : ℕ → Stride → Line
line_of_stride left (goes a) = line_of_advance left (Ok (Performed a))
line_of_stride left (waits pid) = line_of_advance left (Err (Refused (refusal.Busy pid)))

-- the lines of strides, in order, and how often the next advance may be answered Busy

abbrev pub lines_of_strides : ℕ → List Stride → List Line
lines_of_strides left [] = []
lines_of_strides left (s ∷ strides) = line_of_stride left s ∷ lines_of_strides (left_after left s) strides

abbrev pub left_after_all : ℕ → List Stride → ℕ
left_after_all left [] = left
left_after_all left (s ∷ strides) = left_after_all (left_after left s) strides

-- An install of a version is accepted.
abbrev pub Begins : List ℕ → SeatState → SeatState → Type 0
Begins vsn old new = (answer : Answer) × (new ≡ with_lines old (line (Perform (Install vsn)) (Ok (Performed answer)) ∷ []))

-- An install that has begun is advanced until it ends, and its end is told: that of the last advance.
pub record MeetsEnd (patience : ℕ) (old new : SeatState) (end : InstallEnd) : Type 0 where
  pub strides : List Stride
  pub on : All GoesOn strides
  pub answer : Answer
  pub ends : advanced_by answer ≡ advanced.Ended end
  pub lines : new ≡ with_lines old
      (lines_of_strides patience strides ++ line_of_advance (left_after_all patience strides) (Ok (Performed answer)) ∷ [])

-- An install of a version is accepted, and then it is advanced until it ends. There are no other lines.
pub record Drives (vsn : List ℕ) (patience : ℕ) (old new : SeatState) (end : InstallEnd) : Type 0 where
  pub begun : SeatState
  pub begins : Begins vsn old begun
  pub ends : MeetsEnd patience begun new end

-- One advance is done, and told.
abbrev pub Advances : ℕ → Advanced → SeatState → SeatState → Type 0
Advances left (advanced.Ended end) old new =
    (answer : Answer) × (advanced_by answer ≡ advanced.Ended end) ×
    (new ≡ with_lines old (line_of_advance left (Ok (Performed answer)) ∷ []))
Advances left advanced.Went old new =
    (answer : Answer) × (advanced_by answer ≡ advanced.Went) ×
    (new ≡ with_lines old (line_of_advance left (Ok (Performed answer)) ∷ []))
Advances left advanced.Busy old new =
    (pid : ℕ) × (new ≡ with_lines old (line_of_advance left (Err (Refused (refusal.Busy pid))) ∷ []))

-- An install has been advanced, and goes on: an advance may still be answered Busy so often before the driver gives up waiting.
pub record HasAdvanced (patience left : ℕ) (old now : SeatState) : Type 0 where
  pub strides : List Stride
  pub on : All GoesOn strides
  pub still : left ≡ left_after_all patience strides
  pub lines : now ≡ with_lines old (lines_of_strides patience strides)

-- An advance is refused, and not since a process runs that is to be suspended.
abbrev pub IsHalted : ℕ → JournalError Refusal Note → SeatState → SeatState → Type 0
IsHalted left e old new = (IsBusy (Journal e) → ⊥) × Lists (Perform (Advance (nat_eq left 0))) (Err (Journal e)) old new

-- why an advance is not done
pub data AdvanceFails (left : ℕ) (old new : SeatState) : WorkError → Type 0 where
  halts : (e : JournalError Refusal Note) → IsHalted left e old new → AdvanceFails left old new (work.Lock (Journal e))
  not_advanced : new ≡ old → AdvanceFails left old new work.Memory

-- why an install that has begun does not come to its end: an advance was refused otherwise than as busy, or not asked for
pub data DriveFails (patience : ℕ) (begun new : SeatState) : WorkError → Type 0 where
  stops : (now : SeatState) (left : ℕ) (e : JournalError Refusal Note) → HasAdvanced patience left begun now →
      IsHalted left e now new → DriveFails patience begun new (work.Lock (Journal e))
  rests : (left : ℕ) → HasAdvanced patience left begun new → DriveFails patience begun new work.Memory

-- why an install is not begun
pub data BeginFails (vsn : List ℕ) (old new : SeatState) : WorkError → Type 0 where
  not_accepted : (e : JournalError Refusal Note) → Lists (Perform (Install vsn)) (Err (Journal e)) old new →
      BeginFails vsn old new (work.Lock (Journal e))
  not_begun : new ≡ old → BeginFails vsn old new work.Memory

-- Why an install has not come to its end, and what the list has more. It's refused; or it has begun, and was advanced until an
-- advance was refused otherwise than as busy, or memory for one was refused; or memory was refused before it began.
pub data InstallFails (vsn : List ℕ) (patience : ℕ) (old new : SeatState) : WorkError → Type 0 where
  refused : (e : JournalError Refusal Note) → Lists (Perform (Install vsn)) (Err (Journal e)) old new →
      InstallFails vsn patience old new (work.Lock (Journal e))
  halted : (begun now : SeatState) (left : ℕ) (e : JournalError Refusal Note) → Begins vsn old begun →
      HasAdvanced patience left begun now → IsHalted left e now new → InstallFails vsn patience old new (work.Lock (Journal e))
  stands : (begun : SeatState) (left : ℕ) → Begins vsn old begun → HasAdvanced patience left begun new →
      InstallFails vsn patience old new work.Memory
  not_asked : new ≡ old → InstallFails vsn patience old new work.Memory
