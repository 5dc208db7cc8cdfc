-- What happens on the node of a rehearsal: clients send messages, and processes serve them (gen_server(3); release_handler(3)).
use Rattle.std.specs.Prelude.{◌≡◌, ◌⊎◌, ℕ, ◌+◌, List, [], ◌∷◌, length, Option, None, Some, Result, Ok, Err}
use Rattle.erl_semantics.specs.declared.jobs.Done.{Done}
use Rattle.erl_semantics.specs.declared.jobs.Job.{Job}
use Rattle.node_core.specs.Node.{NodeState}
use Rattle.node_core.specs.Step.{Step}
use Rattle.node_types.specs.declared.event.Answer.{Answer}
use Rattle.node_types.specs.declared.event.Answer.TheVariants as answer
use Rattle.node_types.specs.declared.event.Event.{Event}
use Rattle.node_types.specs.declared.event.Event.TheVariants.{Arrive, Commit, Take}
use Rattle.node_types.specs.declared.event.Refusal.{Refusal}
use Rattle.node_types.specs.Note.{Note}
use Rattle.rehearsals.specs.declared.happening.Happening.{Happening}
use Rattle.process_table.specs.Steps.{IsNextRunnable}
use Rattle.process_table.specs.declared.body.ClientMessage.{ClientMessage}
use Rattle.process_table.specs.declared.body.ClientMessage.TheVariants.{Call, Cast, Info}
use Rattle.shell_requests.specs.declared.request.ArrivalKind.{ArrivalKind}
use Rattle.shell_requests.specs.declared.request.ArrivalKind.TheVariants as kind
use Rattle.erl_term.specs.declared.term.Term.{Term}
use Rattle.undo_journal.specs.Reversible.{Accepted}
use Rattle.upgrade_rehearsal.specs.Happenings.{accepted, refused}
use Rattle.upgrade_rehearsal.specs.Sequences.{Goes, InTurn, Then}
use Rattle.upgrade_rehearsal.specs.declared.arrival.Arrival.{Arrival}

-- The present state of a rehearsal: its node, and how many messages clients have sent.
pub record Stage : Type 0 where
  pub node : NodeState
  pub arrivals : ℕ

-- From a stage to another, with what the events meanwhile cause, an item for each.
abbrev pub Scene : Type 1
Scene = Goes Stage Happening

-- An event has this result: the written rule accepts it, or refuses it, and then the node is unchanged.
abbrev pub Happens : NodeState → Event → Result Answer Refusal → List Happening → NodeState → Type 0
Happens n e (Ok told) sent after =
    (a : Accepted NodeState Answer Note) × Step n e (Ok a) × (told ≡ a.answer) × (after ≡ a.node)
    × (sent ≡ accepted e a.note.replies ∷ [])
Happens n e (Err why) sent after = Step n e (Err why) × (after ≡ n) × (sent ≡ refused e ∷ [])

-- An event has this result, and no client has sent anything with it.
pub record Occurs (e : Event) (told : Result Answer Refusal) (old : Stage) (sent : List Happening) (new : Stage) : Type 0 where
  pub happens : Happens old.node e told sent new.node
  pub arrivals : new.arrivals ≡ old.arrivals

-- the same with any result
abbrev pub Undergoes : Event → Scene
Undergoes e old sent new = (told : Result Answer Refusal) × Occurs e told old sent new

-- A client sends a message. The first has the number 1, and each the next one; if it is a call, that is the number of the call.
-- If no process has the name, the message has no effect.

abbrev pub message_by : ArrivalKind → ℕ → Term → ClientMessage
message_by kind.Call number term = Call number term
message_by kind.Cast number term = Cast term
message_by kind.Info number term = Info term

abbrev pub event_of : Arrival → ℕ → Event
event_of a number = Arrive 0 a.name (message_by a.kind number a.term)

pub record Comes (a : Arrival) (old : Stage) (sent : List Happening) (new : Stage) : Type 0 where
  pub told : Result Answer Refusal
  pub happens : Happens old.node (event_of a new.arrivals) told sent new.node
  pub arrivals : new.arrivals ≡ old.arrivals + 1

-- the job that an event has given, if it has given one

abbrev pub job_by : Answer → Option Job
job_by (answer.Job job) = Some job
job_by (answer.Revived pid) = None
job_by (answer.Killed killed) = None
job_by (answer.Installing vsn instructions) = None
job_by (answer.Ran instruction) = None
job_by (answer.Finished vsn description) = None
job_by (answer.Recovered reason) = None
job_by (answer.Restarted reason) = None
job_by (answer.Swept modules) = None
job_by answer.Unit = None

abbrev pub job_in : Result Answer Refusal → Option Job
job_in (Ok told) = job_by told
job_in (Err why) = None

-- A process takes its next message, and the result of running it is committed.

abbrev pub Runs : Job → Scene
Runs job old sent new = (done : Done) × (done.job ≡ job) × Undergoes (Commit done) old sent new

pub record IsServed (pid : ℕ) (old : Stage) (sent : List Happening) (new : Stage) : Type 0 where
  pub job : Job
  pub serves : Then (Occurs (Take pid) (Ok (answer.Job job))) (Runs job) old sent new

-- The next process is the one with the least pid of those that can take a message; or no process can take one.

abbrev pub IsNext : ℕ → Stage → Type 0
IsNext pid s = IsNextRunnable 0 (Some pid) s.node.processes

abbrev pub NobodyIsNext : Stage → Type 0
NobodyIsNext s = IsNextRunnable 0 None s.node.processes

abbrev pub ServesNext : ℕ → Scene
ServesNext pid old sent new = IsNext pid old × IsServed pid old sent new

abbrev pub TakesNext : ℕ → Scene
TakesNext pid old sent new = IsNext pid old × Undergoes (Take pid) old sent new

-- The process that is served next, if a process can take a message.
abbrev pub IsRestless : Stage → Option ℕ → Type 0
IsRestless s who = IsNextRunnable 0 who s.node.processes

-- Processes are served, the least pid first, until no process can take a message, or so many messages have been served.

abbrev pub most_served : ℕ
most_served = 1000

abbrev pub ServesAll : Scene
ServesAll old sent new = (pids : List ℕ) × InTurn ServesNext pids old sent new × (NobodyIsNext new ⊎ (length pids ≡ most_served))

-- So many processes take a message each, the least pid first, and no process is left that could take one.
abbrev pub AllTake : ℕ → Scene
AllTake count old sent new = (pids : List ℕ) × InTurn TakesNext pids old sent new × (count ≡ length pids) × NobodyIsNext new

-- The traffic is played: processes serve what waits, and then each message is sent, and they serve again. Or all of it is sent,
-- and no process serves it.

abbrev pub PlaysEach : List Arrival → Scene
PlaysEach traffic = InTurn (λ a. Then (Comes a) ServesAll) traffic

abbrev pub Plays : List Arrival → Scene
Plays traffic = Then ServesAll (PlaysEach traffic)

abbrev pub AllCome : List Arrival → Scene
AllCome traffic = InTurn Comes traffic
