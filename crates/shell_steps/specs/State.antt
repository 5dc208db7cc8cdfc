-- What the shell holds from one line to the next, and what a line does.
use Rattle.std.specs.Prelude.{◌≡◌, ℕ, ◌+◌, ◌-◌, ◌^◌, nat_lt, if◌then◌else◌, List, [], ◌∷◌, ◌++◌, Option, None, Some, flat_map}
use Rattle.erl_semantics.specs.declared.jobs.Job.{Job}
use Rattle.erl_term.specs.Tree.{Tree}
use Rattle.process_effects.specs.declared.told.Reply.{Reply}
use Rattle.undo_journal.specs.declared.history.Command.{Command}
use Rattle.undo_journal.specs.declared.history.Command.TheVariants.{Perform}
use Rattle.undo_journal.specs.Reversible.{Accepted}
use Rattle.undo_journal.specs.Timeline.{Timeline, appended, here, opened}
use Rattle.node_core.specs.Node.{NodeState}
use Rattle.node_types.specs.declared.event.Answer.{Answer}
use Rattle.node_types.specs.declared.event.Event.{Event}
use Rattle.node_types.specs.Note.{Note}
use Rattle.release_files.specs.Files.{Contents}
use Rattle.shell_answers.specs.Answers.{line_of}

-- the journal of the node
abbrev pub NodeTimeline : Type 0
NodeTimeline = Timeline NodeState Note

-- What the shell holds. Beside the journal, and not taken back by an undo, stand the files, the jobs whose results can be
-- committed, how many calls were tried, and all replies that were ever sent, in order.
pub record ShellState : Type 0 where
  pub files : Contents
  pub timeline : NodeTimeline
  pub jobs : List Job
  pub calls : ℕ
  pub sent : List Reply

-- the replies of rows, in order
abbrev pub joined : List (List Reply) → List Reply
joined rows = flat_map (λ row. row) rows

-- it begins with a node that has booted
abbrev pub opened_shell : Contents → NodeState → ShellState
opened_shell files node = record { files = files; timeline = opened node; jobs = []; calls = 0; sent = [] }

-- where the node stands
abbrev pub node_of : ShellState → NodeState
node_of s = (here s.timeline).node

abbrev pub with_timeline : NodeTimeline → ShellState → ShellState
with_timeline t s = record s { timeline = t }

-- one job more is kept
abbrev pub with_job : Job → ShellState → ShellState
with_job job s = record s { jobs = s.jobs ++ job ∷ [] }

-- The number of the next call: that of the calls that were tried, and one more, as far as numbers go.
abbrev pub next_number : ShellState → ℕ
next_number s = if nat_lt (s.calls + 1) (2 ^ 64) then s.calls + 1 else s.calls

-- one call more is tried
abbrev pub with_call : ShellState → ShellState
with_call s = record s { calls = next_number s }

-- an event is accepted: one station more, and its replies are sent
abbrev pub stepped : Accepted NodeState Answer Note → ShellState → ShellState
stepped a s = record s { timeline = appended s.timeline a.node a.note; sent = s.sent ++ a.note.replies }

-- What a line does: its answer, the shell after it, and the command to the journal that made it so, if one was carried out.
pub record Effect : Type 0 where
  pub text : List ℕ
  pub after : ShellState
  pub command : Option (Command Event)

-- an answer, and nothing but that
abbrev pub answered : ShellState → Tree → Effect
answered s answer = record { text = line_of answer; after = s; command = None }

-- an event that is accepted
abbrev pub carried : ShellState → Event → Tree → Effect
carried after e answer = record { text = line_of answer; after = after; command = Some (Perform e) }

-- no serial is left for a step
abbrev pub IsFull : ShellState → Type 0
IsFull s = s.timeline.last ≡ 2 ^ 64 - 1
