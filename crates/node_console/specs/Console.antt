-- What a line does at the console: what the shell does of it; or it shows something, and nothing changes; or it gives a mark a name.
-- Comments may come after its answer.
use Rattle.std.specs.Prelude.{◌≡◌, ℕ, ◌-◌, Bool, true, false, List, [], ◌∷◌, ◌++◌, Option, None, Some, Ok, Err}
use Rattle.console_answers.specs.Comments.{AddsComments}
use Rattle.console_answers.specs.Help.{is_command}
use Rattle.console_answers.specs.Journal.{mark_named, named_mark, step_rows, steps_after}
use Rattle.console_answers.specs.Rows.{AreJobRows, child_rows, process_rows, release_rows, rows_text, script_row}
use Rattle.console_answers.specs.declared.journal.LoggedStep.{LoggedStep}
use Rattle.console_answers.specs.declared.journal.NamedMark.{NamedMark}
use Rattle.erl_term.specs.declared.term.Term.{Term}
use Rattle.line_server.specs.Session.{Exchange, Exchanges}
use Rattle.node_types.specs.Note.{Note}
use Rattle.node_types.specs.declared.event.Event.TheVariants.{Advance}
use Rattle.node_types.specs.declared.event.Refusal.{Refusal}
use Rattle.node_types.specs.declared.event.Refusal.TheVariants as refusals
use Rattle.process_store.specs.Table.{living}
use Rattle.process_store.specs.declared.living.ProcessEntry.{ProcessEntry}
use Rattle.release_files.specs.Files.{Contents}
use Rattle.script_state.specs.Runner.{RunnerState}
use Rattle.shell_answers.specs.Answers.{fixed, line_of, mark_at, undone_steps}
use Rattle.shell_answers.specs.declared.fixed.Fixed.{Fixed}
use Rattle.shell_answers.specs.declared.fixed.Fixed.TheVariants as words
use Rattle.shell_exec.specs.Execution.{ExecutesLine, pid_meant}
use Rattle.shell_exec.specs.Fate.{Fate}
use Rattle.shell_exec.specs.Fate.TheVariants.{Refused, StoppedAt}
use Rattle.shell_exec.specs.Node.{NodeState}
use Rattle.shell_exec.specs.State.{Effect, NodeTimeline, ShellState, node_of, opened_shell}
use Rattle.shell_exec.specs.Step.{MayRunOut, Step}
use Rattle.shell_requests.specs.Console.{ConsoleRequest, Sight, WhichMark, console_request, help, help_on, journal, listing, name_mark, named, numbered, preview, queue, show, to_named}
use Rattle.shell_requests.specs.Request.{Spoken, asks, forget, spoken, undo}
use Rattle.shell_requests.specs.declared.console.Listing.{Listing}
use Rattle.shell_requests.specs.declared.console.Listing.TheVariants.{Children, Jobs, Processes, Releases, Script}
use Rattle.shell_requests.specs.declared.request.MarkUse.{MarkUse}
use Rattle.shell_requests.specs.declared.request.MarkUse.TheVariants.{Forget, Undo}
use Rattle.undo_journal.specs.Journal.{IsReportOf}
use Rattle.undo_journal.specs.Timeline.{IsDead, IsForgotten, here}
use Rattle.undo_journal.specs.declared.report.Report.{Report}

-- What the console holds: the shell, the steps that lines made and that are not undone, and the names of marks.
pub record ConsoleState : Type 0 where
  pub shell : ShellState
  pub steps : List LoggedStep
  pub marks : List NamedMark

-- a shell over a node that has booted, no step and no name
abbrev pub opened_console : Contents → NodeState → ConsoleState
opened_console files node = record { shell = opened_shell files node; steps = []; marks = [] }

-- What is shown, by what lack of memory makes of it: a text, and nothing else.

-- an answer in its words
abbrev pub SaysFixed : Fixed → Option Fate → List ℕ → Type 0
SaysFixed it fate text = (fate ≡ None) × (text ≡ line_of (fixed it))

-- rows like these; or memory was refused
abbrev pub TellsRows : (List Term → Type 0) → Option Fate → List ℕ → Type 0
TellsRows may None text = (rows : List Term) × may rows × (text ≡ rows_text rows)
TellsRows may (Some Refused) text = text ≡ line_of (fixed words.Memory)
TellsRows may (Some (StoppedAt mark)) text = ⊥

-- the process that the next step of a script would wait for, if it would wait
abbrev pub busy_in : Refusal → Option ℕ
busy_in (refusals.OfProcesses why) = None
busy_in (refusals.OfModules why) = None
busy_in (refusals.OfApps why) = None
busy_in (refusals.OfReleases why) = None
busy_in (refusals.OfInstall why) = None
busy_in refusals.Installing = None
busy_in refusals.NotInstalling = None
busy_in (refusals.Busy pid) = Some pid
busy_in refusals.CounterEnd = None

pub data Awaits (n : NodeState) : Option ℕ → Type 0 where
  is_refused : (why : Refusal) → Step n (Advance false) (Err why) → Awaits n (busy_in why)
  goes : MayRunOut n (Advance false) → Awaits n None

abbrev pub AreScriptRows : NodeState → Option RunnerState → List Term → Type 0
AreScriptRows n None rows = rows ≡ []
AreScriptRows n (Some runner) rows = (busy : Option ℕ) × Awaits n busy × (rows ≡ script_row busy runner ∷ [])

abbrev pub AreListed : ShellState → Listing → List Term → Type 0
AreListed s Processes rows = rows ≡ process_rows (node_of s).processes (node_of s).apps
AreListed s Children rows = rows ≡ child_rows (node_of s).apps
AreListed s Jobs rows = AreJobRows (node_of s).processes 1 s.jobs rows
AreListed s Script rows = AreScriptRows (node_of s) (node_of s).runner rows
AreListed s Releases rows = rows ≡ release_rows (node_of s).releases

-- comments, and nothing else
abbrev pub Comments : Option Fate → List ℕ → Type 0
Comments fate text = (fate ≡ None) × AddsComments [] text

-- those on a command, if a word is one
abbrev pub SaysHelp : Bool → Option Fate → List ℕ → Type 0
SaysHelp false fate text = SaysFixed words.BadCommand fate text
SaysHelp true fate text = Comments fate text

-- the mailbox of a process
abbrev pub ShowsQueue : Option ProcessEntry → Option Fate → List ℕ → Type 0
ShowsQueue None fate text = SaysFixed words.NoProc fate text
ShowsQueue (Some entry) fate text = TellsRows (λ rows. rows ≡ entry.process.mailbox) fate text

abbrev pub queue_of : Option ℕ → NodeState → Option ProcessEntry
queue_of None n = None
queue_of (Some pid) n = living pid n.processes

-- What an undo to a mark would answer, and the steps that it would take back. A name that no mark has is dead.
pub data PreviewsMark (c : ConsoleState) (mark : ℕ) : Option Fate → List ℕ → Type 0 where
  forgotten : IsForgotten mark c.shell.timeline → PreviewsMark c mark None (line_of (fixed words.Forgotten))
  dead : IsDead mark c.shell.timeline → PreviewsMark c mark None (line_of (fixed words.DeadMark))
  shown : (report : Report Note) → IsReportOf mark c.shell.timeline report →
      PreviewsMark c mark None (line_of (undone_steps report) ++ rows_text (step_rows mark c.marks c.steps))
  no_memory : PreviewsMark c mark (Some Refused) (line_of (fixed words.Memory))

abbrev pub Previews : ConsoleState → Option ℕ → Option Fate → List ℕ → Type 0
Previews c None fate text = SaysFixed words.DeadMark fate text
Previews c (Some mark) fate text = PreviewsMark c mark fate text

abbrev pub mark_meant : WhichMark → List NamedMark → Option ℕ
mark_meant (numbered mark) marks = Some mark
mark_meant (named name) marks = mark_named name marks

abbrev pub Shows : ConsoleState → Sight → Option Fate → List ℕ → Type 0
Shows c help fate text = Comments fate text
Shows c (help_on word) fate text = SaysHelp (is_command word) fate text
Shows c (listing it) fate text = TellsRows (AreListed c.shell it) fate text
Shows c (queue who) fate text = ShowsQueue (queue_of (pid_meant who (node_of c.shell)) (node_of c.shell)) fate text
Shows c (journal mark) fate text = TellsRows (λ rows. rows ≡ step_rows (mark - 1) c.marks c.steps) fate text
Shows c (preview mark) fate text = Previews c (mark_meant mark c.marks) fate text

-- What a line does, by what lack of memory makes of it.

-- it is answered, and nothing changes
abbrev pub unchanged : List ℕ → ConsoleState → Exchange ConsoleState
unchanged text c = record { text = text; after = c }

-- the console after a line of the shell
abbrev pub console_after : List ℕ → Effect → ConsoleState → ConsoleState
console_after line d c = record {
  shell = d.after;
  steps = steps_after line (here c.shell.timeline).serial c.shell.timeline.first.serial (here d.after.timeline).serial
      d.after.timeline.first.serial c.steps;
  marks = c.marks;
}

-- The shell does what is said; or there is no memory to note the line, and nothing is done.
pub data Obeys (c : ConsoleState) (line : List ℕ) (said : Spoken) : Option Fate → Exchange ConsoleState → Type 0 where
  does : (fate : Option Fate) (d : Effect) → ExecutesLine fate c.shell said d →
      Obeys c line said fate (record { text = d.text; after = console_after line d c })
  no_memory_to_note : Obeys c line said (Some Refused) (unchanged (line_of (fixed words.Memory)) c)

-- the mark where the node is gets a name
pub data NamesHere (c : ConsoleState) (name : List ℕ) : Option Fate → Exchange ConsoleState → Type 0 where
  has_name : NamesHere c name None (record {
    text = line_of (mark_at (here c.shell.timeline).serial);
    after = record { shell = c.shell; steps = c.steps; marks = named_mark name (here c.shell.timeline).serial c.marks };
  })
  no_memory_to_name : NamesHere c name (Some Refused) (unchanged (line_of (fixed words.Memory)) c)

abbrev pub said_of : MarkUse → ℕ → Spoken
said_of Undo mark = asks (undo mark)
said_of Forget mark = asks (forget mark)

-- an undo or a forget to a mark that has a name; a name that no mark has is dead
abbrev pub ObeysNamed : ConsoleState → List ℕ → MarkUse → Option ℕ → Option Fate → Exchange ConsoleState → Type 0
ObeysNamed c line kind None fate t = (fate ≡ None) × (t ≡ unchanged (line_of (fixed words.DeadMark)) c)
ObeysNamed c line kind (Some mark) fate t = Obeys c line (said_of kind mark) fate t

abbrev pub AnswersRequest : ConsoleState → List ℕ → Option ConsoleRequest → Option Fate → Exchange ConsoleState → Type 0
AnswersRequest c line None fate t = Obeys c line (spoken (Some line)) fate t
AnswersRequest c line (Some (show sight)) fate t =
    (text : List ℕ) × Shows c sight fate text × (t ≡ unchanged text c)
AnswersRequest c line (Some (name_mark name)) fate t = NamesHere c name fate t
AnswersRequest c line (Some (to_named kind name)) fate t = ObeysNamed c line kind (mark_named name c.marks) fate t

-- what a line does; one of too many bytes is no request of the console's
abbrev pub does_line : Exchanges ConsoleState Fate
does_line fate c None t = Obeys c [] (spoken None) fate t
does_line fate c (Some line) t = AnswersRequest c line (console_request line) fate t

-- and comments may come after its answer
abbrev pub console_exchange : Exchanges ConsoleState Fate
console_exchange fate c line t =
    (u : Exchange ConsoleState) × does_line fate c line u × (t.after ≡ u.after) × AddsComments u.text t.text
