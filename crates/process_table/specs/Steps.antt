-- Steps of processes: why each is refused, in order, and the table after it (Erlang Reference Manual, Processes; gen_server
-- behaviour).
use Rattle.std.specs.Prelude.{◌≡◌, ℕ, ◌^◌, ◌<◌, ◌==◌, nat_lt, true, false, if◌then◌else◌, List, [], map, replicate}
use Rattle.std.specs.Prelude.{Option, None, Some, is_some, option_map}
use Rattle.erl_term.specs.declared.term.Term.{Term}
use Rattle.erl_semantics.specs.declared.acts.Place.{Place}
use Rattle.erl_semantics.specs.declared.acts.Place.TheVariants.{Server, Loop}
use Rattle.erl_ir.specs.Module.{Forms}
use Rattle.erl_semantics.specs.Views.{instance}
use Rattle.erl_semantics.specs.declared.instance.Instance.{Instance}
use Rattle.code_server.specs.Modules.{Table as Loaded, current_of}
use Rattle.process.specs.JobCode.{IsJobCode}
use Rattle.erl_semantics.specs.declared.jobs.Job.{Job}
use Rattle.process.specs.declared.activity.Activity.{Activity}
use Rattle.process.specs.declared.activity.Activity.TheVariants as activity
use Rattle.process.specs.Process.{next_message, job_of}
use Rattle.process_effects.specs.Commits.{job_at, rests_in}
use Rattle.process_index.specs.declared.calls.Call.{Call}
use Rattle.process_table.specs.declared.body.ClientMessage.{ClientMessage}
use Rattle.process_table.specs.declared.body.ClientMessage.TheVariants as body
use Rattle.process_table.specs.declared.body.MessageKind.{MessageKind}
use Rattle.process_table.specs.declared.body.MessageKind.TheVariants as kinds
use Rattle.process_table.specs.declared.error.ProcError.{ProcError}
use Rattle.process_table.specs.declared.error.ProcError.TheVariants.{NoProc, Suspended, Idle, Running, NotRunning, NameTaken, DuplicateCall, CounterEnd}
use Rattle.process_store.specs.declared.living.ProcessEntry.{ProcessEntry}
use Rattle.process_store.specs.Living.{arrived, run, takes_next}
pub use Rattle.process_store.specs.Living.{is_runnable}
use Rattle.process_table.specs.Messages.{message_of}
use Rattle.process_store.specs.Table.{Table, added, changed, is_open, is_taken, living, next_pid, pid_of}

-- Start: a process rests at a place, under the next pid, and under a name, if it is to have one.

abbrev pub start_refusal : Option (List ℕ) → Table → Option ProcError
start_refusal name t =
    if is_taken name t then Some NameTaken else (if next_pid t == 2 ^ 64 then Some CounterEnd else None)

abbrev pub with_process : Option (List ℕ) → Place → List Instance → Table → Table
with_process name at code t = added name at (rests_in at code) t

-- Arrive: a message of a client comes for the process of a name. A call is open from then on; no two open calls have one
-- number, whoever asked, and a number is an integer of Erlang.

abbrev pub kind_of : ClientMessage → MessageKind
kind_of (body.Call number term) = kinds.Call number
kind_of (body.Cast term) = kinds.Cast
kind_of (body.Info term) = kinds.Info

abbrev pub kind_refusal : MessageKind → Table → Option ProcError
kind_refusal (kinds.Call number) t =
    if is_open number t then Some DuplicateCall else (if nat_lt number (2 ^ 63) then None else Some CounterEnd)
kind_refusal kinds.Cast t = None
kind_refusal kinds.Info t = None

abbrev pub arrive_refusal : List ℕ → MessageKind → Table → Option ProcError
arrive_refusal name kind t = if is_some (pid_of name t) then kind_refusal kind t else Some NoProc

abbrev pub call_of : ℕ → ClientMessage → Option Call
call_of client (body.Call number term) = Some (record { client = client; number = number })
call_of client (body.Cast term) = None
call_of client (body.Info term) = None

abbrev pub arrived_at : Option ℕ → Option Term → Option Call → Table → Table
arrived_at None message call t = t
arrived_at (Some pid) None call t = t
arrived_at (Some pid) (Some message) call t = changed (arrived message call) pid t

abbrev pub after_arrival : ℕ → List ℕ → ClientMessage → Table → Table
after_arrival client name what t = arrived_at (pid_of name t) (message_of what) (call_of client what) t

-- Take: a process that rests takes the first message that it takes at its place, and runs it in this code, which it enters in
-- the instance of this serial.

abbrev pub resting_refusal : Activity → Option ℕ → Option ProcError
resting_refusal activity.Suspended first = Some Suspended
resting_refusal (activity.Runs r) first = Some Running
resting_refusal activity.Idle None = Some Idle
resting_refusal activity.Idle (Some position) = None

abbrev pub take_refusal_of : Option ProcessEntry → Option ProcError
take_refusal_of None = Some NoProc
take_refusal_of (Some l) = resting_refusal l.process.activity (next_message l.process)

abbrev pub take_refusal : ℕ → Table → Option ProcError
take_refusal pid t = take_refusal_of (living pid t)

abbrev pub taken_at : Option ℕ → ℕ → ℕ → List Instance → Table → Table
taken_at None pid entry_serial code t = t
taken_at (Some position) pid entry_serial code t = changed (run position entry_serial code) pid t

abbrev pub taken : ℕ → ℕ → List Instance → Table → Table
taken pid entry_serial code t = taken_at (takes_next (living pid t)) pid entry_serial code t

-- The instance that a process enters with the message that it takes: of a callback module its current code, if it has any,
-- and of a loop function the one in which it rests. The code of the job is what is entered, and what it can reach from there.

abbrev pub entered : Loaded Forms → Place → Option Instance → Option Instance
entered modules (Server m s) rests = option_map (λ i. record { name = m; serial = i.serial; «module» = i.code })
    (current_of m modules)
entered modules (Loop m serial f args) rests = rests

abbrev pub IsCode : Loaded Forms → Option Instance → ℕ → List Instance → Type 0
IsCode modules None entry_serial code = (entry_serial ≡ 0) × (code ≡ [])
IsCode modules (Some i) entry_serial code = (entry_serial ≡ i.serial) × IsJobCode modules (instance i) (map instance code)

abbrev pub IsCodeOf : Loaded Forms → Option ProcessEntry → Job → Type 0
IsCodeOf modules None job = ⊥
IsCodeOf modules (Some l) job = IsCode modules (entered modules l.process.place l.process.rests_in) job.entry_serial job.code

-- A process has taken a message up: what it runs, n times, in the code that it then has.
pub record TakesMessage (modules : Loaded Forms) (pid n : ℕ) (jobs : List Job) (before after : Table) : Type 0 where
  pub job : Job
  pub told : jobs ≡ replicate n job
  pub code : IsCodeOf modules (living pid before) job
  pub table : after ≡ taken pid job.entry_serial job.code before
  pub runs : job_at (living pid after) ≡ Some job

-- Retake: the job that a process runs is given once more.

abbrev pub retake_refusal_of : Option ProcessEntry → Option ProcError
retake_refusal_of None = Some NoProc
retake_refusal_of (Some l) = if is_some (job_of l.process) then None else Some NotRunning

abbrev pub retake_refusal : ℕ → Table → Option ProcError
retake_refusal pid t = retake_refusal_of (living pid t)

-- The least pid above another, of those whose processes could take a message now.

abbrev pub NoneIsRunnable : ℕ → (ℕ → Type 0) → Table → Type 0
NoneIsRunnable after Before t = (pid : ℕ) → after < pid → Before pid → is_runnable (living pid t) ≡ false

abbrev pub IsNextRunnable : ℕ → Option ℕ → Table → Type 0
IsNextRunnable after None t = NoneIsRunnable after (λ pid. Unit {0}) t
IsNextRunnable after (Some next) t =
    (after < next) × (is_runnable (living next t) ≡ true) × NoneIsRunnable after (λ pid. pid < next) t
