-- What the shell may do with its jobs, its marks and its questions.
use Rattle.std.specs.Prelude.{◌≡◌, ℕ, ◌+◌, ◌≤◌, length, List, Option, None, Some, IsSome, slice_get}
use Prim.Native.Nat.{zero, suc}
use Rattle.erl_semantics.specs.declared.jobs.Done.{Done}
use Rattle.erl_semantics.specs.declared.jobs.Job.{Job}
use Rattle.erl_term.specs.Tree.{Tree, list}
use Rattle.process_effects.specs.Commits.{job_at}
use Rattle.process_store.specs.Table.{living}
use Rattle.process_store.specs.declared.living.ProcessEntry.{ProcessEntry}
use Rattle.process_table.specs.Steps.{retake_refusal}
use Rattle.undo_journal.specs.declared.history.Command.TheVariants.{Forget, Undo}
use Rattle.undo_journal.specs.Timeline.{IsDead, IsForgotten, cut_stations, cut_to, forgotten_to, here, report_of}
use Rattle.node_types.specs.declared.event.Event.TheVariants as event
use Rattle.node_types.specs.declared.event.Refusal.{Refusal}
use Rattle.shell_answers.specs.Answers.{apps_of, fixed, floor_at, job_of, line_of, mark_at, modules_of, process_of, releases_of, replies_in, stopped_undo, undone_steps}
use Rattle.shell_answers.specs.Refusals.{naming_nothing, proc_refusal, refusal_of}
use Rattle.shell_answers.specs.declared.fixed.Fixed.TheVariants as words
use Rattle.shell_requests.specs.declared.request.Question.{Question}
use Rattle.shell_requests.specs.declared.request.Question.TheVariants as questions
use Rattle.shell_requests.specs.declared.request.Service.{Service}
use Rattle.shell_requests.specs.declared.request.Service.TheVariants as services
use Rattle.shell_steps.specs.Halts.{MayCommit, RefusesResult}
use Rattle.shell_state.specs.Performing.{Performs, done_by}
use Rattle.shell_steps.specs.State.{Effect, IsFull, NodeTimeline, ShellState, answered, node_of, with_job, with_timeline}
use Rattle.shell_steps.specs.declared.fate.Fate.{Fate}
use Rattle.shell_steps.specs.declared.fate.Fate.TheVariants.{Refused, StoppedAt}

-- `take`, `retake`, `proc PROC`, by the pid that is meant, if it is one's

pub data Retakes (s : ShellState) (pid : ℕ) : Option Fate → Effect → Type 0 where
  kept_again : (job : Job) → job_at (living pid (node_of s).processes) ≡ Some job →
      Retakes s pid None (answered (with_job job s) (job_of (length s.jobs + 1) pid))
  not_running : (why : _) → retake_refusal pid (node_of s).processes ≡ Some why →
      Retakes s pid None (answered s (fixed (proc_refusal why)))
  no_memory_to_keep : retake_refusal pid (node_of s).processes ≡ None →
      Retakes s pid (Some Refused) (answered s (fixed words.Memory))

abbrev pub shown : Option ProcessEntry → Tree
shown None = fixed words.NoProc
shown (Some l) = process_of l.process

abbrev pub ServesAs : ShellState → Service → Option ℕ → Option Fate → Effect → Type 0
ServesAs s service None fate d = (fate ≡ None) × (d ≡ answered s (fixed words.NoProc))
ServesAs s services.Take (Some pid) fate d = Performs s s (event.Take pid) naming_nothing (done_by s (event.Take pid)) fate d
ServesAs s services.Retake (Some pid) fate d = Retakes s pid fate d
ServesAs s services.Show (Some pid) fate d = (fate ≡ None) × (d ≡ answered s (shown (living pid (node_of s).processes)))

-- `commit J`: the result of the J-th job that is kept. A job has one result.

abbrev pub kept_job : ℕ → List Job → Option Job
kept_job zero jobs = None
kept_job (suc index) jobs = slice_get jobs index

pub data Commits (s : ShellState) (job : Job) : Option Fate → Effect → Type 0 where
  ran : (done : Done) (fate : Option Fate) (d : Effect) → done.job ≡ job →
      Performs s s (event.Commit done) naming_nothing (done_by s (event.Commit done)) fate d → Commits s job fate d
  -- what stands against the result stands against the job, whatever it gives
  not_run_full : IsFull s → Commits s job None (answered s (fixed words.SerialEnd))
  not_run : (IsFull s → ⊥) → (why : Refusal) → RefusesResult s job why →
      Commits s job None (answered s (refusal_of naming_nothing why))
  no_memory_to_run : (IsFull s → ⊥) → MayCommit s job → Commits s job (Some Refused) (answered s (fixed words.Memory))

abbrev pub CommitsKept : ShellState → Option Job → Option Fate → Effect → Type 0
CommitsKept s None fate d = (fate ≡ None) × (d ≡ answered s (fixed words.NoJob))
CommitsKept s (Some job) fate d = Commits s job fate d

-- `undo K`: a mark below the first station's is forgotten, any other without a station dead. Else the stations after it are
-- cut; an undo that found no memory stops at a living mark, its own or a later one, and at its own only where it cut
-- nothing.

abbrev pub undone_to : ShellState → ℕ → NodeTimeline → Tree → Effect
undone_to s mark end answer = record { text = line_of answer; after = with_timeline end s; command = Some (Undo mark) }

pub data Undoes (s : ShellState) (mark : ℕ) : Option Fate → Effect → Type 0 where
  forgotten : IsForgotten mark s.timeline → Undoes s mark None (answered s (fixed words.Forgotten))
  dead : IsDead mark s.timeline → Undoes s mark None (answered s (fixed words.DeadMark))
  cut : (end : NodeTimeline) → cut_to mark s.timeline ≡ Some end →
      Undoes s mark None (undone_to s mark end (undone_steps (report_of (cut_stations s.timeline end))))
  stopped : (reached : ℕ) (end : NodeTimeline) → IsSome (cut_to mark s.timeline) → mark ≤ reached →
      cut_to reached s.timeline ≡ Some end →
      (reached ≡ mark → end ≡ s.timeline) →
      Undoes s mark (Some (StoppedAt reached)) (undone_to s reached end
      (stopped_undo reached (report_of (cut_stations s.timeline end))))

-- `forget K`: what has no station is refused as by an undo. Else the stations before the mark's are forgotten, which is the
-- floor then. It takes no memory.

abbrev pub floored_at : ShellState → ℕ → NodeTimeline → Effect
floored_at s mark end = record { text = line_of (floor_at mark); after = with_timeline end s; command = Some (Forget mark) }

pub data Forgets (s : ShellState) (mark : ℕ) : Option Fate → Effect → Type 0 where
  below : IsForgotten mark s.timeline → Forgets s mark None (answered s (fixed words.Forgotten))
  nowhere : IsDead mark s.timeline → Forgets s mark None (answered s (fixed words.DeadMark))
  floored : (end : NodeTimeline) → forgotten_to mark s.timeline ≡ Some end → Forgets s mark None (floored_at s mark end)

-- Questions. What is told of releases is made before it is written, for which memory may be wanting.
abbrev pub told : ShellState → Question → Tree
told s questions.Modules = list (modules_of (node_of s).modules.entries)
told s questions.Apps = list (apps_of (node_of s).apps)
told s questions.Replies = list (replies_in s.sent)
told s questions.Mark = mark_at (here s.timeline).serial
told s questions.Which = releases_of (node_of s).releases

abbrev pub MayNotBeTold : Question → Type 0
MayNotBeTold questions.Modules = ⊥
MayNotBeTold questions.Apps = ⊥
MayNotBeTold questions.Replies = ⊥
MayNotBeTold questions.Mark = ⊥
MayNotBeTold questions.Which = Unit {0}

pub data Asks (s : ShellState) (question : Question) : Option Fate → Effect → Type 0 where
  is_told : Asks s question None (answered s (told s question))
  no_memory_to_tell : MayNotBeTold question → Asks s question (Some Refused) (answered s (fixed words.Memory))
