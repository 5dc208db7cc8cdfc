-- What the shell may do where an event is asked for: by what lack of memory makes of it, one clause a way.
use Rattle.std.specs.Prelude.{◌+◌, length, true, false, Option, None, Some, Ok, Err}
use Rattle.erl_term.specs.Tree.{Tree}
use Rattle.low_instructions.specs.Forms.{low_tree}
use Rattle.process_table.specs.declared.body.ClientMessage.{ClientMessage}
use Rattle.process_table.specs.declared.body.ClientMessage.TheVariants as body
use Rattle.undo_journal.specs.Reversible.{Accepted}
use Rattle.shell_steps.specs.Node.{NodeState}
use Rattle.shell_steps.specs.Step.{MayRunOut, Step}
use Rattle.node_types.specs.declared.event.Answer.{Answer}
use Rattle.node_types.specs.declared.event.Answer.TheVariants as tells
use Rattle.node_types.specs.declared.event.Event.{Event}
use Rattle.node_types.specs.declared.event.Event.TheVariants as event
use Rattle.node_types.specs.Note.{Note}
use Rattle.node_types.specs.declared.event.Refusal.{Refusal}
use Rattle.shell_answers.specs.Answers.{called, carried_out, committed, finished, fixed, installing, job_of, loaded, recovered, restarted, revived, set_unpacked, swept}
use Rattle.shell_answers.specs.Refusals.{Subject, refusal_of}
use Rattle.shell_answers.specs.declared.fixed.Fixed.TheVariants as words
use Rattle.shell_steps.specs.State.{Effect, IsFull, ShellState, answered, carried, node_of, stepped, with_job}
use Rattle.shell_steps.specs.declared.fate.Fate.{Fate}
use Rattle.shell_steps.specs.declared.fate.Fate.TheVariants.{Refused}

-- What an event comes to: where no serial is left, that, and else what the rule says. A refusal leaves the shell `tried`,
-- and is told of what it is about; and an event that is accepted does what `done` says.
pub data Performs (s tried : ShellState) (e : Event) (about : Subject) (done : Accepted NodeState Answer Note →
    Effect) : Option Fate → Effect → Type 0 where
  full : IsFull s → Performs s tried e about done None (answered tried (fixed words.SerialEnd))
  accepted : (IsFull s → ⊥) → (a : Accepted NodeState Answer Note) → Step (node_of s) e (Ok a) →
      Performs s tried e about done None (done a)
  refused : (IsFull s → ⊥) → (why : Refusal) → Step (node_of s) e (Err why) →
      Performs s tried e about done None (answered tried (refusal_of about why))
  no_memory : (IsFull s → ⊥) → MayRunOut (node_of s) e →
      Performs s tried e about done (Some Refused) (answered s (fixed words.Memory))

-- What an event is answered that is accepted, one clause an event; and what is done of it.

-- `true` or `false`, where it is told whether processes were killed, and else `true`
abbrev pub truth_in : Answer → Tree
truth_in (tells.Killed true) = fixed words.True
truth_in (tells.Killed false) = fixed words.False
truth_in _ = fixed words.True

-- the pid that is told
abbrev pub revived_in : Answer → Tree
revived_in (tells.Revived pid) = revived pid
revived_in _ = fixed words.Done

-- the script that has begun
abbrev pub begun_in : Answer → Tree
begun_in (tells.Installing vsn instructions) = installing vsn instructions
begun_in _ = fixed words.Done

-- the instruction that was carried out, by its term; the end of the script; or the reason for which it failed
abbrev pub advanced_in : Answer → Tree
advanced_in (tells.Ran instruction) = carried_out (low_tree instruction)
advanced_in (tells.Finished vsn description) = finished vsn description
advanced_in (tells.Recovered reason) = recovered reason
advanced_in (tells.Restarted reason) = restarted reason
advanced_in _ = fixed words.Done

-- the modules whose old code was purged
abbrev pub swept_in : Answer → Tree
swept_in (tells.Swept modules) = swept modules
swept_in _ = fixed words.Done

-- the number of a call
abbrev pub arrived_as : ClientMessage → Tree
arrived_as (body.Call number t) = called number
arrived_as (body.Cast t) = fixed words.Done
arrived_as (body.Info t) = fixed words.Done

abbrev pub answer_to : ShellState → Event → Accepted NodeState Answer Note → Tree
answer_to s (event.Arrive client name b) a = arrived_as b
answer_to s (event.Take pid) a = job_of (length s.jobs + 1) pid
answer_to s (event.Commit done) a = committed a.note.replies
answer_to s (event.Revive app id) a = revived_in a.answer
answer_to s (event.Load m) a = loaded m.name
answer_to s (event.Delete name) a = truth_in a.answer
answer_to s (event.Purge name) a = truth_in a.answer
answer_to s (event.SoftPurge name) a = truth_in a.answer
answer_to s (event.SetUnpacked r) a = set_unpacked r.rel.vsn
answer_to s (event.Remove vsn) a = fixed words.Done
answer_to s (event.Install vsn) a = begun_in a.answer
answer_to s (event.Advance give_up) a = advanced_in a.answer
answer_to s (event.MakePermanent vsn) a = fixed words.Done
answer_to s (event.RebootOld vsn) a = fixed words.Done
answer_to s event.Sweep a = swept_in a.answer

-- the job that an answer tells is kept
abbrev pub job_kept : Answer → ShellState → ShellState
job_kept (tells.Job job) s = with_job job s
job_kept _ s = s

-- which is done of a take alone
abbrev pub keeping : Event → Answer → ShellState → ShellState
keeping (event.Take pid) answer s = job_kept answer s
keeping _ answer s = s

-- it is carried out, its replies are kept, and it is answered
abbrev pub done_by : ShellState → Event → Accepted NodeState Answer Note → Effect
done_by s e a = carried (keeping e a.answer (stepped a s)) e (answer_to s e a)
