-- The history of a node that several seats share: what each asked and was answered, in the order in which it was done.
use Rattle.std.specs.Prelude.{◌≡◌, ◌⊎◌, ℕ, ◌-◌, ◌^◌, List, [], ◌∷◌, ◌++◌, drop, length, Option, None, Some, Result, Ok, Err}
use Rattle.entry_lists.specs.Replies as lists
use Rattle.erl_semantics.specs.declared.jobs.Job.{Job}
use Rattle.process_effects.specs.Commits.{job_at}
use Rattle.process_effects.specs.declared.told.Reply.{Reply}
use Rattle.process_store.specs.Table.{Table, living}
use Rattle.process_table.specs.Steps.{IsNextRunnable, retake_refusal}
use Rattle.process_table.specs.declared.body.ClientMessage.TheVariants as body
use Rattle.process_table.specs.declared.error.ProcError.{ProcError}
use Rattle.release_statuses.specs.Statuses.{which_releases}
use Rattle.undo_journal.specs.declared.history.Command as journal
use Rattle.undo_journal.specs.declared.history.Command.TheVariants.{Perform as perform, Undo as undo, Forget as forget}
use Rattle.undo_journal.specs.History.{AreAfter}
use Rattle.undo_journal.specs.Reversible.{Accepted}
use Rattle.undo_journal.specs.Timeline.{IsDead, IsForgotten, Timeline, appended, cut_stations, cut_to, forgotten_to, here, report_of}
use Rattle.node_rules.specs.Node.{NodeState}
use Rattle.node_rules.specs.Step.{Step}
use Rattle.node_types.specs.Note.{Note}
use Rattle.node_types.specs.declared.event.Answer.{Answer}
use Rattle.node_types.specs.declared.event.Answer.TheVariants as told_as
use Rattle.node_types.specs.declared.event.Event.{Event}
use Rattle.node_types.specs.declared.event.Event.TheVariants as event
use Rattle.node_types.specs.declared.event.Refusal.TheVariants.{OfProcesses}
use Rattle.node_history.specs.declared.command.Command.{Command}
use Rattle.node_history.specs.declared.command.Command.TheVariants as command
use Rattle.node_history.specs.declared.command.Fault.{Fault}
use Rattle.node_history.specs.declared.command.Fault.TheVariants as fault
use Rattle.node_history.specs.declared.command.Said.{Said}
use Rattle.node_history.specs.declared.command.Said.TheVariants as said
use Rattle.node_history.specs.declared.entry.Entry.{Entry}
use Rattle.node_history.specs.declared.entry.Line.{Line}

-- where the node stands, and the stations that it can go back to: neither cut nor forgotten
abbrev pub NodeTimeline : Type 0
NodeTimeline = Timeline NodeState Note

-- A command that asks and changes nothing.
abbrev pub Reads : NodeTimeline → Said → Result Said Fault → Option Note → NodeTimeline → Type 0
Reads t it answer note after = (answer ≡ Ok it) × (note ≡ None) × (after ≡ t)

-- An event, by the node's rule: it is told, and its note is entered; or why it is refused. Where no serial is left
-- for a step, that is told before what the rule refuses.

abbrev pub IsFull : NodeTimeline → Type 0
IsFull t = t.last ≡ 2 ^ 64 - 1

abbrev pub RefusesBy : NodeTimeline → Event → Fault → Type 0
RefusesBy t e (fault.Refused why) = (IsFull t → ⊥) × Step (here t).node e (Err why)
RefusesBy t e fault.Forgotten = ⊥
RefusesBy t e fault.DeadMark = ⊥
RefusesBy t e fault.SerialEnd = IsFull t

abbrev pub ByEvent : NodeTimeline → Event → (Answer → Said → Type 0) → Result Said Fault → Option Note → NodeTimeline → Type 0
ByEvent t e IsTold (Ok it) note after = (a : Accepted NodeState Answer Note) × (IsFull t → ⊥) × Step (here t).node e (Ok a) ×
    IsTold a.answer it × (note ≡ Some a.note) × (after ≡ appended t a.node a.note)
ByEvent t e IsTold (Err why) note after = RefusesBy t e why × (note ≡ None) × (after ≡ t)

-- how its answer is told: to an event as it is, to a call by the number, to a take by the job

abbrev pub IsPerformed : Answer → Said → Type 0
IsPerformed told it = it ≡ said.Performed told

abbrev pub IsCalled : ℕ → Answer → Said → Type 0
IsCalled number told it = it ≡ said.Called number

abbrev pub IsTaken : Answer → Said → Type 0
IsTaken told it = (job : Job) × (told ≡ told_as.Job job) × (it ≡ said.Taken (Some job))

-- The process that is next: of those that could take a message that with the least pid above another, else that with
-- the least of all.
abbrev pub IsNext : ℕ → Option ℕ → Table → Type 0
IsNext above None t = IsNextRunnable 0 None t
IsNext above (Some pid) t = IsNextRunnable above (Some pid) t ⊎ (IsNextRunnable above None t × IsNextRunnable 0 (Some pid) t)

abbrev pub TakesOf : Option ℕ → NodeTimeline → Result Said Fault → Option Note → NodeTimeline → Type 0
TakesOf None t answer note after = Reads t (said.Taken None) answer note after
TakesOf (Some pid) t answer note after = ByEvent t (event.Take pid) IsTaken answer note after

abbrev pub TakesAny : ℕ → NodeTimeline → Result Said Fault → Option Note → NodeTimeline → Type 0
TakesAny above t answer note after = (who : Option ℕ) × IsNext above who (here t).node.processes × TakesOf who t answer note after

-- An undo to a mark, and a forget up to one; or the mark has no station.

abbrev pub LacksStation : ℕ → NodeTimeline → Fault → Type 0
LacksStation mark t (fault.Refused why) = ⊥
LacksStation mark t fault.Forgotten = IsForgotten mark t
LacksStation mark t fault.DeadMark = IsDead mark t
LacksStation mark t fault.SerialEnd = ⊥

abbrev pub Cuts : ℕ → NodeTimeline → Result Said Fault → Option Note → NodeTimeline → Type 0
Cuts mark t (Ok it) note after =
    (cut_to mark t ≡ Some after) × (it ≡ said.Undone (report_of (cut_stations t after))) × (note ≡ None)
Cuts mark t (Err why) note after = LacksStation mark t why × (note ≡ None) × (after ≡ t)

abbrev pub Drops : ℕ → NodeTimeline → Result Said Fault → Option Note → NodeTimeline → Type 0
Drops mark t (Ok it) note after = (forgotten_to mark t ≡ Some after) × (it ≡ said.Floored) × (note ≡ None)
Drops mark t (Err why) note after = LacksStation mark t why × (note ≡ None) × (after ≡ t)

-- The job that a process runs, once more; or why there is none.

abbrev pub IsRetaken : ℕ → NodeState → Result Said Fault → Type 0
IsRetaken pid n (Ok it) = (job : Job) × (job_at (living pid n.processes) ≡ Some job) × (it ≡ said.Retaken job)
IsRetaken pid n (Err why) = (e : ProcError) × (retake_refusal pid n.processes ≡ Some e) × (why ≡ fault.Refused (OfProcesses e))

abbrev pub Retakes : ℕ → NodeTimeline → Result Said Fault → Option Note → NodeTimeline → Type 0
Retakes pid t answer note after = IsRetaken pid (here t).node answer × (note ≡ None) × (after ≡ t)

-- The replies to a client, of all entries, also of those whose steps were undone.

abbrev pub replies_in : Option Note → List Reply
replies_in None = []
replies_in (Some note) = note.replies

abbrev pub replies_to : ℕ → List Entry → List Reply
replies_to client entries = lists.replies_to (λ e. replies_in e.note) (λ r. r.client) client entries

-- An idle command: a take where nobody could take a message, or a look at no replies.
abbrev pub IsIdleCommand : Command → Result Said Fault → Type 0
IsIdleCommand (command.Perform e) answer = ⊥
IsIdleCommand (command.Call name term) answer = ⊥
IsIdleCommand (command.TakeAny above) answer = answer ≡ Ok (said.Taken None)
IsIdleCommand command.Mark answer = ⊥
IsIdleCommand (command.Undo mark) answer = ⊥
IsIdleCommand (command.Forget mark) answer = ⊥
IsIdleCommand (command.Retake pid) answer = ⊥
IsIdleCommand (command.Replies from) answer = answer ≡ Ok (said.Replied [])
IsIdleCommand command.Which answer = ⊥

abbrev pub IsIdleEntry : Entry → Type 0
IsIdleEntry e = IsIdleCommand e.command e.answer × (e.note ≡ None)

abbrev pub IsIdleLine : Line → Type 0
IsIdleLine l = IsIdleCommand l.command l.answer

-- What a command of a seat gives behind the entries so far: its answer, its note, and where it leads.
abbrev pub Gives : NodeTimeline → List Entry → ℕ → Command → Result Said Fault → Option Note → NodeTimeline → Type 0
Gives t before seat (command.Perform e) answer note after = ByEvent t e IsPerformed answer note after
Gives t before seat (command.Call name term) answer note after =
    ByEvent t (event.Arrive seat name (body.Call (length before) term)) (IsCalled (length before)) answer note after
Gives t before seat (command.TakeAny above) answer note after = TakesAny above t answer note after
Gives t before seat command.Mark answer note after = Reads t (said.Marked (here t).serial) answer note after
Gives t before seat (command.Undo mark) answer note after = Cuts mark t answer note after
Gives t before seat (command.Forget mark) answer note after = Drops mark t answer note after
Gives t before seat (command.Retake pid) answer note after = Retakes pid t answer note after
Gives t before seat (command.Replies from) answer note after =
    Reads t (said.Replied (drop from (replies_to seat before))) answer note after
Gives t before seat command.Which answer note after =
    Reads t (said.Releases (which_releases (here t).node.releases)) answer note after

-- A history is legal: each of its entries is what its command gives, in turn, behind those before, from a timeline to an end.
abbrev pub Legal : NodeTimeline → List Entry → List Entry → NodeTimeline → Type 0
Legal t before [] end = end ≡ t
Legal t before (e ∷ entries) end = (mid : NodeTimeline) × Gives t before e.seat e.command e.answer e.note mid ×
    Legal mid (before ++ e ∷ []) entries end

-- The commands to the journal that an entry asked, if any: an accepted event, the take of the process that was next,
-- an undo to a mark that has a station, and a forget up to one. What was refused asked none, and no question does.

abbrev pub AsksTake : ℕ → NodeTimeline → Said → List (journal.Command Event) → Type 0
AsksTake above t it cs = ((it ≡ said.Taken None) × (cs ≡ [])) ⊎ ((pid : ℕ) × (job : Job) ×
    IsNext above (Some pid) (here t).node.processes × (it ≡ said.Taken (Some job)) × (cs ≡ perform (event.Take pid) ∷ []))

abbrev pub AsksAccepted : NodeTimeline → ℕ → ℕ → Command → Said → List (journal.Command Event) → Type 0
AsksAccepted t seat number (command.Perform e) it cs = cs ≡ perform e ∷ []
AsksAccepted t seat number (command.Call name term) it cs = cs ≡ perform (event.Arrive seat name (body.Call number term)) ∷ []
AsksAccepted t seat number (command.TakeAny above) it cs = AsksTake above t it cs
AsksAccepted t seat number command.Mark it cs = cs ≡ []
AsksAccepted t seat number (command.Undo mark) it cs = cs ≡ undo mark ∷ []
AsksAccepted t seat number (command.Forget mark) it cs = cs ≡ forget mark ∷ []
AsksAccepted t seat number (command.Retake pid) it cs = cs ≡ []
AsksAccepted t seat number (command.Replies from) it cs = cs ≡ []
AsksAccepted t seat number command.Which it cs = cs ≡ []

abbrev pub Asks : NodeTimeline → ℕ → ℕ → Command → Result Said Fault → List (journal.Command Event) → Type 0
Asks t seat number c (Ok it) cs = AsksAccepted t seat number c it cs
Asks t seat number c (Err why) cs = cs ≡ []

-- The commands of entries, in turn, each entry's leading to where the entry has led.
abbrev pub AllAsk : NodeTimeline → List Entry → List Entry → List (journal.Command Event) → NodeTimeline → Type 0
AllAsk t before [] cs end = (cs ≡ []) × (end ≡ t)
AllAsk t before (e ∷ entries) cs end = (mid : NodeTimeline) × (one rest : List (journal.Command Event)) ×
    Gives t before e.seat e.command e.answer e.note mid × Asks t e.seat (length before) e.command e.answer one ×
    AreAfter Step one t mid × AllAsk mid (before ++ e ∷ []) entries rest end × (cs ≡ one ++ rest)

-- who asked, and what
abbrev pub asked_by : Entry → ℕ × Command
asked_by e = (e.seat, e.command)
