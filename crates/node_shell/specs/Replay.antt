-- What lines leave of the journal: where the commands that they carry out lead, the fold of the rule over the steps
-- that are not undone, and what marks name.
use Rattle.std.specs.Prelude.{◌≡◌, ◌⊎◌, ℕ, ◌<◌, ◌≤◌, List, [], ◌∷◌, ◌++◌, Option, option_to_list, None, Some, IfSome}
use Rattle.std.specs.List.{flat_map}
use Rattle.undo_journal.specs.declared.history.Command.{Command}
use Rattle.undo_journal.specs.declared.history.Command.TheVariants.{Forget}
use Rattle.undo_journal.specs.Timeline.{here, opened, cut_to, cut_stations, forgotten_to, report_of, node_at, IsDead, IsForgotten}
use Rattle.undo_journal.specs.History.{Live, RunsCommands, Makes, MakesKept, FoldsTo, HasNoForget}
use Rattle.line_server.specs.Lines.{heard}
use Rattle.line_server.specs.Session.{Answered}
use Rattle.shell_exec.specs.Node.{NodeState}
use Rattle.shell_exec.specs.Step.{Step}
use Rattle.node_types.specs.declared.event.Event.{Event}
use Rattle.shell_answers.specs.Answers.{fixed, floor_at, line_of, stopped_undo, undone_steps}
use Rattle.shell_answers.specs.declared.fixed.Fixed.TheVariants as words
use Rattle.shell_requests.specs.Request.{Spoken, asks, forget, spoken, undo}
use Rattle.shell_exec.specs.Execution.{ExecutesLine}
use Rattle.shell_exec.specs.State.{Effect, NodeTimeline, ShellState, answered}
use Rattle.shell_exec.specs.Fate.{Fate}
use Rattle.shell_exec.specs.Fate.TheVariants.{StoppedAt}
use Rattle.node_shell.specs.Shell.{exchange_of}

-- A line that was executed, what it said, what became of it for lack of memory, and what it did.
pub record Executed : Type 0 where
  pub line : List ℕ
  pub said : Spoken
  pub fate : Option Fate
  pub effect : Effect

-- each of these lines was executed by the shell that those before it leave
abbrev pub AreExecuted : ShellState → List Executed → Type 0
AreExecuted s [] = Unit {0}
AreExecuted s (o ∷ others) = ExecutesLine o.fate s (o.said) o.effect × AreExecuted o.effect.after others

-- it said what its bytes say
abbrev pub SaysItsBytes : Executed → Type 0
SaysItsBytes o = o.said ≡ spoken (heard o.line)

-- as the line server sees it
abbrev pub answered_as : Executed → Answered ShellState Fate
answered_as o = record { line = o.line; fate = o.fate; exchange = exchange_of o.effect }

-- the commands that were carried out, in order: accepted events, undos to the marks that they reached, and forgets
abbrev pub commands_in : List Executed → List (Command Event)
commands_in executed = flat_map (λ o. option_to_list o.effect.command) executed

-- the shell behind lines, and its journal
abbrev pub shell_behind : ShellState → List Executed → ShellState
shell_behind s [] = s
shell_behind s (o ∷ others) = shell_behind o.effect.after others

abbrev pub timeline_behind : ShellState → List Executed → NodeTimeline
timeline_behind s executed = (shell_behind s executed).timeline

-- A journal that began at a node, and came to a timeline by commands: they lead there, its stations are those that the
-- live steps make, from the floor on, and its node is the fold of the rule over the live steps. Where no command was a
-- forget, the live steps make all stations behind the first. Commands lead to one timeline at most, with one list of
-- live steps.
pub record IsReplayed (node : NodeState) (commands : List (Command Event)) (end : NodeTimeline) : Type 0 where
  pub live : List (Live Event)
  pub runs : RunsCommands Step commands (opened node) [] end live
  pub stations : MakesKept Step node live end
  pub fold : FoldsTo Step node live (here end).node
  pub unforgotten : HasNoForget commands → Makes Step node live end.later

-- A mark that was given before the one timeline, and is alive in the other, which is behind it, names there the node
-- that it named; so a dead mark stays dead.
abbrev pub MarksName : NodeTimeline → NodeTimeline → Type 0
MarksName here_before behind =
    (mark : ℕ) → mark ≤ here_before.last → IfSome (node_at mark behind) (λ node. node_at mark here_before ≡ Some node)

-- An undo to a living mark, whose cut leaves the timeline `end`: it leads there, the node there is the mark's, and it
-- answers the report of the stations that it cut.
pub record Undoes (before : NodeTimeline) (done : Effect) (mark : ℕ) (end : NodeTimeline) : Type 0 where
  pub leads : done.after.timeline ≡ end
  pub node : node_at mark before ≡ Some (here end).node
  pub answer : done.text ≡ line_of (undone_steps (report_of (cut_stations before end)))

-- An undo that was stopped for lack of memory: it leads to the cut of a living mark from its own on, whose node it gives,
-- and answers the report of the stations that it cut.
pub record Stops (before : NodeTimeline) (done : Effect) (mark reached : ℕ) : Type 0 where
  pub behind : mark ≤ reached
  pub leads : cut_to reached before ≡ Some done.after.timeline
  pub node : node_at reached before ≡ Some (here done.after.timeline).node
  pub answer : done.text ≡ line_of (stopped_undo reached (report_of (cut_stations before done.after.timeline)))

-- A forget up to a mark with a station, from which on the timeline is `end`: it leads there, and that mark is the floor.
-- The node and the live steps stay. Marks from the floor on name the nodes that they named; those below it are forgotten.
pub record Forgets (node : NodeState) (commands : List (Command Event)) (before : NodeTimeline) (done : Effect) (mark : ℕ)
    (end : NodeTimeline) : Type 0 where
  pub leads : done.after.timeline ≡ end
  pub carried_out : done.command ≡ Some (Forget mark)
  pub floor : end.first.serial ≡ mark
  pub node_stays : (here end).node ≡ (here before).node
  pub live_stay : (live : List (Live Event)) → RunsCommands Step commands (opened node) [] before live
      → RunsCommands Step (commands ++ Forget mark ∷ []) (opened node) [] end live
  pub kept : (other : ℕ) → mark ≤ other → node_at other end ≡ node_at other before
  pub below : (other : ℕ) → other < mark → IsForgotten other end
  pub answer : done.text ≡ line_of (floor_at mark)

-- an undo to a mark, or a forget up to it
abbrev pub NamesMark : ℕ → Spoken → Type 0
NamesMark mark said = (said ≡ asks (undo mark)) ⊎ (said ≡ asks (forget mark))

-- The mark that is given at a timeline names the node there.
abbrev pub IsNamed : NodeTimeline → Type 0
IsNamed t = node_at (here t).serial t ≡ Some (here t).node

-- The headline, of lines that a shell over a node executed: behind each front of them the journal is where the commands
-- lead that the front carried out, with its node the fold of the steps that are not undone; a mark names the node at which
-- it is given, and whatever it named while it is alive; an undo at which no memory was refused gives its mark's node, and
-- reports what was cut; and one that was stopped gives the node of the mark that it tells, and reports what it cut. A
-- forget leaves the node, the live steps and the marks from its own on; the floor never falls; an undo to a mark below it,
-- and a forget up to one, is answered that it is forgotten, and one of any other mark without a station that it is dead;
-- and nothing is done.
pub record IsHeadline (node : NodeState) (start : ShellState) (executed : List Executed) : Type 0 where
  pub replayed : (front others : List Executed) → executed ≡ front ++ others
      → IsReplayed node (commands_in front) (timeline_behind start front)
  pub given : (front others : List Executed) → executed ≡ front ++ others → IsNamed (timeline_behind start front)
  pub marks : (front more others : List Executed) → executed ≡ (front ++ more) ++ others
      → MarksName (timeline_behind start front) (timeline_behind start (front ++ more))
  pub undos : (front others : List Executed) (o : Executed) (mark : ℕ) (end : NodeTimeline) → executed ≡ front ++ o ∷ others
      → o.fate ≡ None → o.said ≡ asks (undo mark) → cut_to mark (timeline_behind start front) ≡ Some end
      → Undoes (timeline_behind start front) o.effect mark end
  pub stops : (front others : List Executed) (o : Executed) (mark reached : ℕ) → executed ≡ front ++ o ∷ others
      → o.fate ≡ Some (StoppedAt reached) → o.said ≡ asks (undo mark)
      → Stops (timeline_behind start front) o.effect mark reached
  pub forgets : (front others : List Executed) (o : Executed) (mark : ℕ) (end : NodeTimeline) → executed ≡ front ++ o ∷ others
      → o.said ≡ asks (forget mark) → forgotten_to mark (timeline_behind start front) ≡ Some end
      → Forgets node (commands_in front) (timeline_behind start front) o.effect mark end
  pub floor_rises : (front more others : List Executed) → executed ≡ (front ++ more) ++ others
      → (timeline_behind start front).first.serial ≤ (timeline_behind start (front ++ more)).first.serial
  pub forgotten : (front others : List Executed) (o : Executed) (mark : ℕ) → executed ≡ front ++ o ∷ others
      → NamesMark mark (o.said) → mark < (timeline_behind start front).first.serial
      → o.effect ≡ answered (shell_behind start front) (fixed words.Forgotten)
  pub dead : (front others : List Executed) (o : Executed) (mark : ℕ) → executed ≡ front ++ o ∷ others
      → NamesMark mark (o.said) → IsDead mark (timeline_behind start front)
      → o.effect ≡ answered (shell_behind start front) (fixed words.DeadMark)
