-- What the rounds of a worker come to.
use Rattle.std.specs.Prelude.{◌≡◌, ℕ, ◌+◌, Bool, true, false, List, [], ◌∷◌, ◌++◌, All, filter, length, None, Some, Ok, Err}
use Rattle.erl_semantics.specs.Jobs.{GivesJob}
use Rattle.erl_semantics.specs.Views.{job_of, outcome_of}
use Rattle.erl_semantics.specs.declared.jobs.Done.{Done}
use Rattle.erl_semantics.specs.declared.jobs.Job.{Job}
use Rattle.process_table.specs.declared.error.ProcError.TheVariants.{Stale}
use Rattle.node_types.specs.declared.event.Answer.{Answer}
use Rattle.node_types.specs.declared.event.Event.TheVariants.{Commit}
use Rattle.node_types.specs.declared.event.Refusal.TheVariants.{OfProcesses}
use Rattle.node_history.specs.declared.command.Command.TheVariants.{Perform, TakeAny}
use Rattle.node_history.specs.declared.command.Fault.TheVariants.{Refused}
use Rattle.node_history.specs.declared.command.Said.TheVariants.{Performed, Taken}
use Rattle.node_history.specs.declared.entry.Line.{Line}
use Rattle.node_lock.specs.Core.{SeatState}
use Rattle.workers.specs.Lines.{line, with_lines}
use Rattle.workers.specs.declared.serving.Served.{Served}
use Rattle.workers.specs.declared.serving.RoundEnd.{RoundEnd}
use Rattle.workers.specs.declared.serving.RoundEnd.TheVariants as round_end

-- One round of a worker: nobody could take a message; or a job was taken, and its result was committed, or came too late.
pub data Round : Type 0 where
  idle : Round
  commits : Done → Answer → Round
  late : Done → Round

-- the lines that a round adds that looks above a pid
abbrev pub lines_of_round : ℕ → Round → List Line
lines_of_round above idle = line (TakeAny above) (Ok (Taken None)) ∷ []
lines_of_round above (commits d answer) =
    line (TakeAny above) (Ok (Taken (Some d.job))) ∷ line (Perform (Commit d)) (Ok (Performed answer)) ∷ []
lines_of_round above (late d) =
    line (TakeAny above) (Ok (Taken (Some d.job))) ∷ line (Perform (Commit d)) (Err (Refused (OfProcesses Stale))) ∷ []

-- the pid above which the next round looks: that of the last job
abbrev pub next_above : ℕ → Round → ℕ
next_above above idle = above
next_above above (commits d answer) = d.job.pid
next_above above (late d) = d.job.pid

-- the lines of rounds, in order, where the first looks above a pid
abbrev pub lines_of_rounds : ℕ → List Round → List Line
lines_of_rounds above [] = []
lines_of_rounds above (t ∷ rounds) = lines_of_round above t ++ lines_of_rounds (next_above above t) rounds

-- what a round commits is what evaluating its job gives
abbrev pub IsResult : Round → Type 0
IsResult idle = Unit {0}
IsResult (commits d answer) = ∥ GivesJob (job_of d.job) (outcome_of d.outcome) ∥₁
IsResult (late d) = ∥ GivesJob (job_of d.job) (outcome_of d.outcome) ∥₁

abbrev pub is_commit : Round → Bool
is_commit idle = false
is_commit (commits d answer) = true
is_commit (late d) = false

abbrev pub is_late : Round → Bool
is_late idle = false
is_late (commits d answer) = false
is_late (late d) = true

abbrev pub is_idle : Round → Bool
is_idle idle = true
is_idle (commits d answer) = false
is_idle (late d) = false

-- A worker has served for so many rounds: the seat's list has the lines of these more, and no others, and they are counted by
-- what they came to.
pub record Serves (rounds : ℕ) (old new : SeatState) (served : Served) : Type 0 where
  pub did : List Round
  pub all : length did ≡ rounds
  pub results : All IsResult did
  pub lines : new ≡ with_lines old (lines_of_rounds 0 did)
  pub committed : served.committed ≡ length (filter is_commit did)
  pub stale : served.stale ≡ length (filter is_late did)
  pub idle : served.idle ≡ length (filter is_idle did)

-- A result is put behind the lines, accepted or as too late.
abbrev pub Commits : Done → Bool → SeatState → SeatState → Type 0
Commits d true old new = (answer : Answer) × (new ≡ with_lines old (line (Perform (Commit d)) (Ok (Performed answer)) ∷ []))
Commits d false old new = new ≡ with_lines old (line (Perform (Commit d)) (Err (Refused (OfProcesses Stale))) ∷ [])

-- The result of a job that was got is put behind the lines, accepted or as too late, and told so.
abbrev pub Works : Job → RoundEnd → SeatState → SeatState → Type 0
Works job round_end.Idle old new = ⊥
Works job (round_end.Committed pid) old new = (pid ≡ job.pid) × ((d : Done) × (d.job ≡ job) × Commits d true old new)
Works job (round_end.Late pid) old new = (pid ≡ job.pid) × ((d : Done) × (d.job ≡ job) × Commits d false old new)

-- how a round is told
abbrev pub told_as : Round → RoundEnd
told_as idle = round_end.Idle
told_as (commits d answer) = round_end.Committed d.job.pid
told_as (late d) = round_end.Late d.job.pid

-- A round that looks above a pid is done, and told.
pub record IsRound (above : ℕ) (it : RoundEnd) (old new : SeatState) : Type 0 where
  pub round : Round
  pub told : it ≡ told_as round
  pub lines : new ≡ with_lines old (lines_of_round above round)

-- one more round counted
abbrev pub counted : RoundEnd → Served → Served
counted round_end.Idle s = record s { idle = s.idle + 1 }
counted (round_end.Committed pid) s = record s { committed = s.committed + 1 }
counted (round_end.Late pid) s = record s { stale = s.stale + 1 }

abbrev pub above_round_end : ℕ → RoundEnd → ℕ
above_round_end above round_end.Idle = above
above_round_end above (round_end.Committed pid) = pid
above_round_end above (round_end.Late pid) = pid

-- how many rounds are counted
abbrev pub total : Served → ℕ
total s = s.committed + s.stale + s.idle

-- the pid above which the round behind these looks
abbrev pub above_after : ℕ → List Round → ℕ
above_after above [] = above
above_after above (t ∷ rounds) = above_after (next_above above t) rounds

-- A worker has done rounds so far, and the next one looks above a pid.
pub record HasServed (rounds above : ℕ) (old now : SeatState) (served : Served) : Type 0 where
  pub serves : Serves rounds old now served
  pub next : above ≡ above_after 0 serves.did
  pub total : total served ≡ rounds
