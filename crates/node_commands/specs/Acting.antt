-- What a command gives, before it's entered.
use Rattle.std.specs.Prelude.{◌≡◌, ℕ, List, [], ◌∷◌, None, Result, Ok, Err}
use Rattle.undo_journal.specs.Reversible.{Accepted, told_of}
use Rattle.undo_journal.specs.Timeline.{appended, here}
use Rattle.undo_journal.specs.declared.error.JournalError.{JournalError}
use Rattle.undo_journal.specs.declared.report.Report.{Report}
use Rattle.undo_journal.specs.declared.reversible.Told.{Told}
use Rattle.node_core.specs.Node.{NodeState}
use Rattle.node_core.specs.Step.{Step}
use Rattle.node_types.specs.Note.{Note}
use Rattle.node_types.specs.declared.event.Answer.{Answer}
use Rattle.node_types.specs.declared.event.Event.{Event}
use Rattle.node_types.specs.declared.event.Refusal.{Refusal}
use Rattle.node_history.specs.History.{ByEvent, Cuts, Gives, IsFull, NodeTimeline, RefusesBy}
use Rattle.node_history.specs.declared.command.Command.{Command}
use Rattle.node_history.specs.declared.command.Command.TheVariants as command
use Rattle.node_history.specs.declared.command.Fault.{Fault}
use Rattle.node_history.specs.declared.command.Said.{Said}
use Rattle.node_history.specs.declared.command.Said.TheVariants as said
use Rattle.node_history.specs.declared.entry.Entry.{Entry}
use Rattle.node_commands.specs.Telling.{Stops, error_of}
use Rattle.node_commands.specs.declared.given.Acted.{Acted}
use Rattle.node_commands.specs.declared.given.Acted.TheVariants as acted
use Rattle.node_commands.specs.declared.given.Given.{Given}
use Rattle.node_commands.specs.declared.given.Stop.{Stop}
use Rattle.node_commands.specs.declared.given.Thrice.{Thrice}

-- three of one value
abbrev pub thrice : {T : Type 0} → T → Thrice T
thrice x = record { first = x; second = x; third = x }

-- An event that was tried: three equal values tell of it, or why it's refused.
abbrev pub IsTried : NodeTimeline → Event → Result (Thrice (Told Answer Note)) Fault → NodeTimeline → Type 0
IsTried t e (Ok told) after = (a : Accepted NodeState Answer Note) × (IsFull t → ⊥) × Step (here t).node e (Ok a) ×
    (told ≡ thrice (told_of a)) × (after ≡ appended t a.node a.note)
IsTried t e (Err why) after = RefusesBy t e why × (after ≡ t)

-- the same answer in all three values
abbrev pub IsOne : Given → Type 0
IsOne g = (g.listed ≡ g.entered) × (g.told ≡ g.entered)

-- what an event gives, told so
abbrev pub GivesBy : (Answer → Said → Type 0) → NodeTimeline → Event → Given → NodeTimeline → Type 0
GivesBy IsTold t e g after = ByEvent t e IsTold g.entered g.note after × IsOne g

-- what a command of a seat gives behind the entries so far
abbrev pub GivesOne : NodeTimeline → List Entry → ℕ → Command → Given → NodeTimeline → Type 0
GivesOne t before seat c g after = Gives t before seat c g.entered g.note after × IsOne g

-- an undo to a mark that has stopped, and the three reports of what it has cut
pub record IsStopped (mark : ℕ) (t : NodeTimeline) (s : Stop) (after : NodeTimeline) : Type 0 where
  pub report : Report Note
  pub stops : Stops mark s.reached report t after
  pub gives : (before : List Entry) (seat : ℕ) → Gives t before seat (command.Undo s.reached) (Ok (said.Undone report)) None after
  pub entered : s.entered ≡ report
  pub listed : s.listed ≡ report
  pub told : s.told.items ≡ report ∷ []

-- What an undo to a mark has done.
abbrev pub IsCut : ℕ → NodeTimeline → Acted → NodeTimeline → Type 0
IsCut mark t (acted.Whole g) after = Cuts mark t g.entered g.note after × IsOne g
IsCut mark t (acted.Stopped s) after = IsStopped mark t s after

-- that an undo is refused, and why, as the journal tells it
abbrev pub TellsFault : JournalError Refusal Note → Acted → Type 0
TellsFault e (acted.Whole g) = (why : Fault) × (error_of why ≡ e) × (g.entered ≡ Err why) × (g.note ≡ None) × IsOne g
TellsFault e (acted.Stopped s) = ⊥

-- that an undo has stopped at a mark, and what it has cut
abbrev pub TellsStop : {E : Type 0} → ℕ → Report Note → Result Acted E → Type 0
TellsStop reached report (Err e) = ⊥
TellsStop reached report (Ok (acted.Whole g)) = ⊥
TellsStop reached report (Ok (acted.Stopped s)) =
    (s.reached ≡ reached) × (s.entered ≡ report) × (s.listed ≡ report) × (s.told.items ≡ report ∷ [])

-- what is done of a command
abbrev pub IsDone : NodeTimeline → List Entry → ℕ → Command → Acted → NodeTimeline → Type 0
IsDone t before seat c (acted.Whole g) after = GivesOne t before seat c g after
IsDone t before seat c (acted.Stopped s) after = (mark : ℕ) × (c ≡ command.Undo mark) × IsStopped mark t s after
