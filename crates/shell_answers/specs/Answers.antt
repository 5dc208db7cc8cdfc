-- What the shell answers: terms, each printed on a line of its own.
use Rattle.std.specs.Prelude.{ℕ, ◌≡◌, pos, Bool, true, false, List, [], ◌∷◌, ◌++◌, codes, map, Option, None, Some}
use Rattle.std.specs.Prelude.{Vec, String, string_bytes}
use Rattle.std.specs.Global.{Global}
use Rattle.std.specs.Str.{chars}
use Rattle.erl_term.specs.Tree.{Tree, Trees, int, atom, pid, tuple, list, none, more}
use Rattle.erl_term.specs.Term.{tree, trees}
use Rattle.erl_term.specs.Conversions.{rows}
use Rattle.erl_term.specs.Rows.{append_trees}
use Rattle.erl_term.specs.Text.{utf8, text, elements_text, others_text}
use Rattle.erl_term.specs.declared.term.Term.{Term}
use Rattle.erl_ir.specs.Module.{Forms}
use Rattle.erl_semantics.specs.declared.acts.Place.{Place}
use Rattle.erl_semantics.specs.declared.acts.Place.TheVariants.{Server, Loop}
use Rattle.release_words.specs.Words.{names_tree, string_tree}
use Rattle.code_server.specs.declared.modules.Instance.{Instance}
use Rattle.code_server.specs.Modules.{Entry}
use Rattle.process.specs.Process.{ProcessState}
use Rattle.process.specs.declared.activity.Activity.{Activity}
use Rattle.process.specs.declared.activity.Activity.TheVariants.{Idle, Suspended as Suspends, Runs}
use Rattle.process_effects.specs.declared.told.Reply.{Reply}
use Rattle.process_effects.specs.declared.told.ReplyBody.{ReplyBody}
use Rattle.process_effects.specs.declared.told.ReplyBody.TheVariants.{Reply as Replied, Down}
use Rattle.app_table.specs.Applications.{Application}
use Rattle.otp_files.specs.declared.applications.RelApp.{RelApp}
use Rattle.release_statuses.specs.Statuses.{which_releases}
use Rattle.release_statuses.specs.declared.listed.Listed.{Listed}
use Rattle.release_statuses.specs.declared.status.Status.{Status}
use Rattle.release_statuses.specs.declared.status.Status.TheVariants.{Unpacked, Current, Permanent, Old}
use Rattle.undo_journal.specs.declared.report.Report.{Report}
use Rattle.node_types.specs.Note.{Note}
use Rattle.shell_answers.specs.declared.fixed.Fixed.{Fixed}
use Rattle.shell_answers.specs.declared.fixed.Fixed.TheVariants.{Done, True, False, BadCommand, LineTooLong, SerialEnd, CounterAtEnd}
use Rattle.shell_answers.specs.declared.fixed.Fixed.TheVariants.{Forgotten, DeadMark, Memory, NoJob, NoProc, Suspended, Running, Idle as IsIdle, NotRunning}
use Rattle.shell_answers.specs.declared.fixed.Fixed.TheVariants.{Stale, DuplicateCall, NameTaken, NoChild, NotDue, Installing, NotInstalling, ErtsChanged, SteppedOnly, NoReply}

-- the line of a term
abbrev pub line_of : Tree → List ℕ
line_of answer = utf8 (text answer) ++ 10 ∷ []

-- tuples
abbrev pub pair : Tree → Tree → Tree
pair t u = tuple (more t (more u none))

abbrev pub triple : Tree → Tree → Tree → Tree
triple t u v = tuple (more t (more u (more v none)))

-- `{error,Name}`
abbrev pub error : List ℕ → Tree
error name = pair (atom (codes "error")) (atom name)

-- The answers that have nothing in them but their words.
abbrev pub fixed : Fixed → Tree
fixed Done = atom (codes "ok")
fixed True = atom (codes "true")
fixed False = atom (codes "false")
fixed BadCommand = error (codes "bad_command")
fixed LineTooLong = error (codes "line_too_long")
fixed SerialEnd = error (codes "serial_end")
fixed CounterAtEnd = error (codes "counter_end")
fixed Forgotten = error (codes "forgotten")
fixed DeadMark = error (codes "dead_mark")
fixed Memory = error (codes "memory")
fixed NoJob = error (codes "no_job")
fixed NoProc = error (codes "no_proc")
fixed Suspended = error (codes "suspended")
fixed Running = error (codes "running")
fixed IsIdle = error (codes "idle")
fixed NotRunning = error (codes "not_running")
fixed Stale = error (codes "stale")
fixed DuplicateCall = error (codes "duplicate_call")
fixed NameTaken = error (codes "name_taken")
fixed NoChild = error (codes "no_child")
fixed NotDue = error (codes "not_due")
fixed Installing = error (codes "installing")
fixed NotInstalling = error (codes "not_installing")
fixed ErtsChanged = error (codes "erts_changed")
fixed SteppedOnly = error (codes "stepped_only")
fixed NoReply = error (codes "no_reply")

-- `{module,Mod}`, `{mark,K}`, `{floor,K}`, `{call,N}`, `{job,J,Pid}`, `{revived,Pid}`

abbrev pub loaded : List ℕ → Tree
loaded name = pair (atom (codes "module")) (atom name)

abbrev pub mark_at : ℕ → Tree
mark_at mark = pair (atom (codes "mark")) (int (pos mark))

abbrev pub floor_at : ℕ → Tree
floor_at mark = pair (atom (codes "floor")) (int (pos mark))

abbrev pub called : ℕ → Tree
called number = pair (atom (codes "call")) (int (pos number))

abbrev pub job_of : ℕ → ℕ → Tree
job_of place n = triple (atom (codes "job")) (int (pos place)) (pid n)

abbrev pub revived : ℕ → Tree
revived n = pair (atom (codes "revived")) (pid n)

-- Replies: `{reply,Client,N,T}`, and `{down,Client,N,R}` where the process has ended.

abbrev pub told_as : List ℕ → ℕ → ℕ → Term → Tree
told_as word client number t = tuple (more (atom word) (more (int (pos client)) (more (int (pos number)) (more (tree t) none))))

abbrev pub replied_by : ReplyBody → ℕ → ℕ → Tree
replied_by (Replied t) client number = told_as (codes "reply") client number t
replied_by (Down reason) client number = told_as (codes "down") client number reason

abbrev pub replied : Reply → Tree
replied r = replied_by r.body r.client r.number

abbrev pub replies_in : List Reply → Trees
replies_in [] = none
replies_in (r ∷ rs) = more (replied r) (replies_in rs)

-- those of several rows of them, in order
abbrev pub rows_of : List (List Reply) → Trees
rows_of [] = none
rows_of (row ∷ rows) = append_trees (replies_in row) (rows_of rows)

-- `{committed,Replies}`
abbrev pub committed : List Reply → Tree
committed replies = pair (atom (codes "committed")) (list (replies_in replies))

-- What notes tell: the replies that went out with their steps, and the messages that came in, `{Name,Message}`.

abbrev pub replies_of : List Note → Trees
replies_of [] = none
replies_of (n ∷ notes) = append_trees (replies_in n.replies) (replies_of notes)

abbrev pub arrival_of : Option (List ℕ × Term) → Trees
arrival_of None = none
arrival_of (Some (name, message)) = more (pair (atom name) (tree message)) none

abbrev pub arrivals_of : List Note → Trees
arrivals_of [] = none
arrivals_of (n ∷ notes) = append_trees (arrival_of n.arrival) (arrivals_of notes)

-- what an undo reports: `Cut,Replies,Arrivals`
abbrev pub reported : Report Note → Trees
reported report =
    more (int (pos report.cut)) (more (list (replies_of report.notes)) (more (list (arrivals_of report.notes)) none))

-- `{undone,Cut,Replies,Arrivals}`
abbrev pub undone_steps : Report Note → Tree
undone_steps report = tuple (more (atom (codes "undone")) (reported report))

-- `{error,{memory,K,Cut,Replies,Arrivals}}`
abbrev pub stopped_undo : ℕ → Report Note → Tree
stopped_undo mark report =
    pair (atom (codes "error")) (tuple (more (atom (codes "memory")) (more (int (pos mark)) (reported report))))

-- `[{Mod,Current,Old}]`: load serials, or `none`

abbrev pub serial_of : Option (Instance Forms) → Tree
serial_of None = atom (codes "none")
serial_of (Some instance) = int (pos instance.serial)

abbrev pub module_of : Entry Forms → Tree
module_of entry = triple (atom entry.0) (serial_of entry.1.current) (serial_of entry.1.former)

abbrev pub modules_of : List (Entry Forms) → Trees
modules_of [] = none
modules_of (entry ∷ entries) = more (module_of entry) (modules_of entries)

-- `[{App,Vsn}]`

abbrev pub app_of : Application → Tree
app_of app = pair (atom app.spec.name) (string_tree app.spec.vsn)

abbrev pub apps_of : List Application → Trees
apps_of [] = none
apps_of (app ∷ apps) = more (app_of app) (apps_of apps)

-- Releases: `{ok,"Vsn"}`; and `[{Name,Vsn,["App-Vsn"],Status}]`, the latest that was set unpacked first.

abbrev pub set_unpacked : List ℕ → Tree
set_unpacked vsn = pair (atom (codes "ok")) (string_tree vsn)

abbrev pub status_of : Status → Tree
status_of Unpacked = atom (codes "unpacked")
status_of Current = atom (codes "current")
status_of Permanent = atom (codes "permanent")
status_of Old = atom (codes "old")

-- the characters of `App-Vsn`
abbrev pub named_version : RelApp → List ℕ
named_version app = app.name ++ 45 ∷ app.vsn

-- those of a release's applications
abbrev pub named_versions : Listed → List (List ℕ)
named_versions it = map named_version it.release.rel.apps

abbrev pub release_of : Listed → Tree
release_of it = tuple (more (string_tree it.release.rel.name) (more (string_tree it.release.rel.vsn)
    (more (list (rows string_tree (named_versions it))) (more (status_of it.status) none))))

abbrev pub releases_in : List Listed → Trees
releases_in [] = none
releases_in (it ∷ others) = more (release_of it) (releases_in others)

abbrev pub releases_of : List Listed → Tree
releases_of releases = list (releases_in (which_releases releases))

-- the characters of texts
abbrev pub characters : String Global → List ℕ
characters text = chars (string_bytes text)

abbrev pub characters_of : Vec (String Global) Global → List (List ℕ)
characters_of texts = map characters texts.items

-- these are the texts `App-Vsn` of the applications, a row a release
abbrev pub AreNames : List (Vec (String Global) Global) → List Listed → Type 0
AreNames names releases = map characters_of names ≡ map named_versions releases

-- Scripts: `{installing,"Vsn",N}`; `{done,I}`, where the instruction is given as its term, `{ok,"Vsn",Descr}`,
-- `{recovered,Reason}`, `{restarted,Reason}`; and `{swept,[Mod]}`

abbrev pub installing : List ℕ → ℕ → Tree
installing vsn instructions = triple (atom (codes "installing")) (string_tree vsn) (int (pos instructions))

abbrev pub carried_out : Tree → Tree
carried_out instruction = pair (atom (codes "done")) instruction

abbrev pub finished : List ℕ → Term → Tree
finished vsn description = triple (atom (codes "ok")) (string_tree vsn) (tree description)

abbrev pub recovered : Term → Tree
recovered reason = pair (atom (codes "recovered")) (tree reason)

abbrev pub restarted : Term → Tree
restarted reason = pair (atom (codes "restarted")) (tree reason)

abbrev pub swept : List (List ℕ) → Tree
swept modules = pair (atom (codes "swept")) (names_tree modules)

-- Processes: `{proc,Pid,Place,State,Turn,Mailbox}`. Of one that runs the place is the one where it rested when it took its
-- message.

abbrev pub place_of : Place → Tree
place_of (Server m s) = triple (atom (codes "server")) (atom m) (tree s)
place_of (Loop m serial name args) =
    tuple (more (atom (codes "loop")) (more (atom m) (more (atom name) (more (list args) (more (int (pos serial)) none)))))

abbrev pub activity_of : Activity → Tree
activity_of Idle = atom (codes "idle")
activity_of Suspends = atom (codes "suspended")
activity_of (Runs running) = atom (codes "running")

abbrev pub process_of : ProcessState → Tree
process_of p =
    tuple (more (atom (codes "proc")) (more (pid p.pid) (more (place_of p.place) (more (activity_of p.activity)
    (more (int (pos p.turn)) (more (list (trees p.mailbox)) none))))))

-- Rows that are written element by element: before each but the first stands a comma.

abbrev pub separator : Bool → List ℕ
separator true = []
separator false = 44 ∷ []

-- whether a row has no element
abbrev pub is_none : Trees → Bool
is_none none = true
is_none (more t row) = false

-- the text of the elements that are left of a row, of which none, or some, are written
abbrev pub listed : Bool → Trees → List ℕ
listed true row = elements_text row
listed false row = others_text row
