-- What each call of a journal does to its timeline, and what it answers.
use Rattle.std.specs.Prelude.{◌≡◌, ℕ, ◌^◌, ◌-◌, ◌≤◌, ◌++◌, List, [], ◌∷◌, Some, IsSome, Result, Ok, Err, replicate}
use Rattle.undo_journal.specs.declared.reversible.Told.{Told}
use Rattle.undo_journal.specs.declared.report.Report.{Report}
use Rattle.undo_journal.specs.declared.error.JournalError.{JournalError}
use Rattle.undo_journal.specs.declared.error.JournalError.TheVariants.{Step, Forgotten, DeadMark, SerialEnd, Memory}
use Rattle.values.specs.declared.failure.Failure.{Failure}
use Rattle.values.specs.declared.failure.Failure.TheVariants as failure
use Rattle.undo_journal.specs.Reversible.{Accepted, told_of}
use Rattle.undo_journal.specs.Timeline.{Station, Timeline, here, appended, cut_to, cut_stations, report_of, IsForgotten, IsDead}

-- the rule accepted the event, its station is appended, and n equal values tell of it
abbrev pub Performs : {S A N F : Type 0} → (Result (Accepted S A N) F → Type 0) → ℕ → Timeline S N → List (Told A N) →
    Timeline S N → Type 0
Performs {S} {A} {N} {F} IsRuled n old told new =
    (a : Accepted S A N) × IsRuled (Ok a) × (new ≡ appended old a.node a.note) × (told ≡ replicate n (told_of a))

-- lack of memory that changed nothing, where the journal stands at this mark
abbrev pub IsOutOfMemoryAt : {F N : Type 0} → ℕ → JournalError F N → Type 0
IsOutOfMemoryAt at (Step refusal) = ⊥
IsOutOfMemoryAt at Forgotten = ⊥
IsOutOfMemoryAt at DeadMark = ⊥
IsOutOfMemoryAt at SerialEnd = ⊥
IsOutOfMemoryAt at (Memory mark reports) = (mark ≡ at) × (reports.items ≡ [])

-- why an event was not performed whose step failed so, where the journal stands at this mark
abbrev pub FailsBy : {F N : Type 0} → Failure F → ℕ → JournalError F N → Type 0
FailsBy (failure.Refused refusal) at e = e ≡ Step refusal
FailsBy failure.Memory at e = IsOutOfMemoryAt at e

-- Why an event was not performed. Lack of memory is told only where memory may run out.
abbrev pub PerformFails : {S A N F : Type 0} → (Result (Accepted S A N) F → Type 0) → Type 0 → Timeline S N →
    JournalError F N → Type 0
PerformFails IsRuled MayRunOut old (Step refusal) = IsRuled (Err refusal)
PerformFails IsRuled MayRunOut old Forgotten = ⊥
PerformFails IsRuled MayRunOut old DeadMark = ⊥
PerformFails IsRuled MayRunOut old SerialEnd = old.last ≡ 2 ^ 64 - 1
PerformFails IsRuled MayRunOut old (Memory mark reports) =
    MayRunOut × (mark ≡ (here old).serial) × (reports.items ≡ [])

-- why a call finds no station for a mark
abbrev pub HasNoStation : {S N F : Type 0} → ℕ → Timeline S N → JournalError F N → Type 0
HasNoStation mark t (Step refusal) = ⊥
HasNoStation mark t Forgotten = IsForgotten mark t
HasNoStation mark t DeadMark = IsDead mark t
HasNoStation mark t SerialEnd = ⊥
HasNoStation mark t (Memory reached reports) = ⊥

-- What an undo that stopped reports of the stations that it cut: n equal reports, but none where it cut nothing.
abbrev pub stopped_reports : {S N : Type 0} → ℕ → List (Station S N) → List (Report N)
stopped_reports n [] = []
stopped_reports n (s ∷ ss) = replicate n (report_of (s ∷ ss))

-- Where an undo stands that found no memory: at a station at or after the mark, which it names and
-- whose timeline it leaves, with the reports of what it cut. At its own mark it cut nothing, for it
-- stood there before: an undo that reaches its mark has not failed. The mark is alive, and the same
-- undo called again has the same end; what the two cut is then what one undo would have cut.
pub record Stopped {S N : Type 0} (mark n : ℕ) (old new : Timeline S N) (reached : ℕ) (reports : List (Report N)) : Type 0 where
  pub alive : IsSome (cut_to mark old)
  pub after_mark : mark ≤ reached
  pub at_reached : cut_to reached old ≡ Some new
  pub at_mark : reached ≡ mark → new ≡ old
  pub reported : reports ≡ stopped_reports n (cut_stations old new)
  pub same_end : cut_to mark new ≡ cut_to mark old
  pub whole : (end : Timeline S N) → cut_to mark old ≡ Some end →
      cut_stations old end ≡ cut_stations new end ++ cut_stations old new

-- Why an undo did not reach its mark.
abbrev pub UndoFails : {S N F : Type 0} → ℕ → ℕ → Timeline S N → Timeline S N → JournalError F N → Type 0
UndoFails mark n old new (Step refusal) = ⊥
UndoFails mark n old new Forgotten = IsForgotten mark old × (new ≡ old)
UndoFails mark n old new DeadMark = IsDead mark old × (new ≡ old)
UndoFails mark n old new SerialEnd = ⊥
UndoFails mark n old new (Memory reached reports) = Stopped mark n old new reached reports.items

-- what an undo to a mark would report, were it done: of the stations that it would cut
abbrev pub IsReportOf : {S N : Type 0} → ℕ → Timeline S N → Report N → Type 0
IsReportOf {S} {N} mark t report =
    (end : Timeline S N) × (cut_to mark t ≡ Some end) × (report ≡ report_of (cut_stations t end))

-- why there is no such report: the mark has no station, or memory was refused
abbrev pub HasNoReport : {S N F : Type 0} → ℕ → Timeline S N → JournalError F N → Type 0
HasNoReport mark t (Step refusal) = ⊥
HasNoReport mark t Forgotten = IsForgotten mark t
HasNoReport mark t DeadMark = IsDead mark t
HasNoReport mark t SerialEnd = ⊥
HasNoReport mark t (Memory reached reports) = (reached ≡ (here t).serial) × (reports.items ≡ [])
