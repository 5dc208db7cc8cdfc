-- A process (Erlang Reference Manual, Processes; gen_server behaviour): where it rests, what it does, and its mailbox.
use Rattle.std.specs.Prelude.{ℕ, ◌+◌, ◌-◌, Bool, true, false, List, [], ◌∷◌, ◌++◌, length, take, insert, remove, position, slice_get}
use Rattle.std.specs.Prelude.{Option, None, Some}
use Rattle.erl_term.specs.Term.{tree}
use Rattle.erl_term.specs.declared.term.Term.{Term}
use Rattle.erl_semantics.specs.declared.acts.Place.{Place}
use Rattle.erl_semantics.specs.declared.acts.Place.TheVariants.{Server, Loop}
use Rattle.erl_semantics.specs.Acts.{place}
use Rattle.erl_semantics.specs.Jobs.{accepts}
use Rattle.erl_semantics.specs.State as state
use Rattle.erl_semantics.specs.Views.{instance}
use Rattle.erl_semantics.specs.declared.instance.Instance.{Instance}
use Rattle.erl_semantics.specs.declared.jobs.Job.{Job}
use Rattle.process.specs.declared.activity.Activity.{Activity}
use Rattle.process.specs.declared.activity.Activity.TheVariants.{Idle, Suspended, Runs}
use Rattle.process.specs.declared.process.Ran.{Ran}

-- A process: its pid; its name, if it is registered; the place where it rests, or where it rested when it took the message
-- that it runs; the instance of the place, where this is a loop function; what it does; how many jobs it has committed; and
-- the messages that it has not taken, first come first.
pub record ProcessState : Type 0 where
  pub pid : ℕ
  pub name : Option (List ℕ)
  pub place : Place
  pub rests_in : Option Instance
  pub activity : Activity
  pub turn : ℕ
  pub mailbox : List Term

-- a process that starts: idle, at turn 0, with nothing in its mailbox
abbrev pub started : ℕ → Option (List ℕ) → Place → Option Instance → ProcessState
started pid name at rests_in = record {
  pid = pid;
  name = name;
  place = at;
  rests_in = rests_in;
  activity = Idle;
  turn = 0;
  mailbox = [];
}

-- The messages that are taken at a place, by the process of a pid.

abbrev pub instances_of : Option Instance → List state.Instance
instances_of None = []
instances_of (Some i) = instance i ∷ []

abbrev pub takes_at : ℕ → Place → Option Instance → Term → Bool
takes_at pid at rests_in message = accepts pid (place at) (instances_of rests_in) (tree message)

-- the position of the first of them
abbrev pub first_taken : ℕ → Place → Option Instance → List Term → Option ℕ
first_taken pid at rests_in mailbox = position (takes_at pid at rests_in) mailbox

-- the position of the message that a process takes next: of none while it runs

abbrev pub awaited_by : Activity → Option ℕ → Option ℕ
awaited_by Idle first = first
awaited_by Suspended first = first
awaited_by (Runs r) first = None

abbrev pub awaited : ProcessState → Option ℕ
awaited p = awaited_by p.activity (first_taken p.pid p.place p.rests_in p.mailbox)

-- the position of the message that it would take now: of none also while it is suspended

abbrev pub next_message_by : Activity → Option ℕ → Option ℕ
next_message_by Idle first = first
next_message_by Suspended first = None
next_message_by (Runs r) first = None

abbrev pub next_message : ProcessState → Option ℕ
next_message p = next_message_by p.activity (first_taken p.pid p.place p.rests_in p.mailbox)

-- whether it is suspended

abbrev pub is_suspended_by : Activity → Bool
is_suspended_by Idle = false
is_suspended_by Suspended = true
is_suspended_by (Runs r) = false

abbrev pub is_suspended : ProcessState → Bool
is_suspended p = is_suspended_by p.activity

-- The job that it runs, if it runs.

abbrev pub job_by : ProcessState → Activity → Option Job
job_by p Idle = None
job_by p Suspended = None
job_by p (Runs r) = Some (record {
  pid = p.pid;
  turn = p.turn;
  place = p.place;
  entry_serial = r.entry_serial;
  message = r.message;
  code = r.code;
})

abbrev pub job_of : ProcessState → Option Job
job_of p = job_by p p.activity

abbrev pub IsRunningBy : Activity → Type 0
IsRunningBy Idle = ⊥
IsRunningBy Suspended = ⊥
IsRunningBy (Runs r) = Unit {0}

abbrev pub IsRunning : ProcessState → Type 0
IsRunning p = IsRunningBy p.activity

-- Steps of a process.

-- a message comes, and goes last
abbrev pub delivered : Term → ProcessState → ProcessState
delivered message p = record p { mailbox = p.mailbox ++ message ∷ [] }

-- the last message goes
abbrev pub undelivered : ProcessState → ProcessState
undelivered p = record p { mailbox = take (length p.mailbox - 1) p.mailbox }

-- the message at a position is taken, and the process runs it

abbrev pub run_by : Option Term → ℕ → ℕ → List Instance → ProcessState → ProcessState
run_by None position entry_serial code p = p
run_by (Some message) position entry_serial code p = record p {
  activity = Runs (record { entry_serial = entry_serial; message = message; code = code });
  mailbox = remove p.mailbox position;
}

abbrev pub run_at : ℕ → ℕ → List Instance → ProcessState → ProcessState
run_at position entry_serial code p = run_by (slice_get p.mailbox position) position entry_serial code p

-- it is idle again, and the message that it ran is back at its position

abbrev pub untaken_by : ℕ → Activity → ProcessState → ProcessState
untaken_by position Idle p = p
untaken_by position Suspended p = p
untaken_by position (Runs r) p = record p { activity = Idle; mailbox = insert p.mailbox position r.message }

abbrev pub untaken : ℕ → ProcessState → ProcessState
untaken position p = untaken_by position p.activity p

-- where it is idle, it is suspended, and the other way round

abbrev pub suspended_by : Activity → Activity
suspended_by Idle = Suspended
suspended_by Suspended = Suspended
suspended_by (Runs r) = Runs r

abbrev pub suspended : ProcessState → ProcessState
suspended p = record p { activity = suspended_by p.activity }

abbrev pub resumed_by : Activity → Activity
resumed_by Idle = Idle
resumed_by Suspended = Idle
resumed_by (Runs r) = Runs r

abbrev pub resumed : ProcessState → ProcessState
resumed p = record p { activity = resumed_by p.activity }

-- it rests at a place, one turn on
abbrev pub rested : Place → Option Instance → ProcessState → ProcessState
rested at rests_in p = record p { place = at; rests_in = rests_in; activity = Idle; turn = p.turn + 1 }

-- it runs again what it ran, from where it rested before
abbrev pub unrested : Ran → ProcessState → ProcessState
unrested ran p = record p {
  place = ran.place;
  rests_in = ran.rests_in;
  activity = Runs ran.running;
  turn = p.turn - 1;
}

-- A change of its code gives a callback module's process another state, and counts it on by so many turns (gen_server(3),
-- code_change/3); a loop function's has none.

abbrev pub is_server_at : Place → Bool
is_server_at (Server m s) = true
is_server_at (Loop m serial f args) = false

abbrev pub with_state : Term → Place → Place
with_state state (Server m s) = Server m state
with_state state (Loop m serial f args) = Loop m serial f args

abbrev pub restated : Term → ℕ → ProcessState → ProcessState
restated state turns p = record p { place = with_state state p.place; turn = p.turn + turns }

-- it has its former state again, and so many turns less
abbrev pub unrestated : Term → ℕ → ProcessState → ProcessState
unrestated state turns p = record p { place = with_state state p.place; turn = p.turn - turns }
