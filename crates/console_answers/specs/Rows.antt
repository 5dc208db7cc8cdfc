-- What the console lists of a node, a row for each: terms, as the shell's answers are.
use Rattle.std.specs.Prelude.{ℕ, ◌+◌, ◌-◌, ◌^◌, min, pos, codes, List, [], ◌∷◌, ◌++◌, flat_map, length, map, slice_get, Option, None, Some}
use Rattle.std.specs.Str.{chars}
use Rattle.app_table.specs.Applications.{Application, child_at, spot_by_pid}
use Rattle.app_table.specs.declared.child.Child.{Child}
use Rattle.app_table.specs.declared.child.ChildState.{ChildState}
use Rattle.app_table.specs.declared.child.ChildState.TheVariants.{Due, Running, Stopped}
use Rattle.app_table.specs.declared.spot.Spot.{Spot}
use Rattle.child_specs.specs.declared.child.Restart.{Restart}
use Rattle.child_specs.specs.declared.child.Restart.TheVariants.{Permanent, Temporary, Transient}
use Rattle.erl_semantics.specs.declared.acts.Place.{Place}
use Rattle.erl_semantics.specs.declared.acts.Place.TheVariants.{Loop, Server}
use Rattle.erl_semantics.specs.declared.jobs.Job.{Job}
use Rattle.erl_term.specs.Rows.{integers}
use Rattle.erl_term.specs.Term.{term_of, tree, trees}
use Rattle.erl_term.specs.Text.{text, utf8}
use Rattle.erl_term.specs.declared.term.Term.{Term}
use Rattle.erl_term.specs.declared.term.Term.TheVariants.{Atom, Int, List as ListOf, Pid, Tuple}
use Rattle.low_instructions.specs.Forms.{low_tree}
use Rattle.low_instructions.specs.declared.low.Low.{Low}
use Rattle.process.specs.declared.activity.Activity.{Activity}
use Rattle.process.specs.declared.activity.Activity.TheVariants.{Idle, Runs, Suspended}
use Rattle.process_index.specs.Standing.{alive}
use Rattle.process_store.specs.Table.{Table}
use Rattle.process_store.specs.declared.living.ProcessEntry.{ProcessEntry}
use Rattle.process_table.specs.Commit.{CanCommit, RefusesCommit}
use Rattle.process_table.specs.declared.error.ProcError.{ProcError}
use Rattle.release_statuses.specs.Statuses.{which_releases}
use Rattle.release_statuses.specs.declared.listed.Listed.{Listed}
use Rattle.release_statuses.specs.declared.status.Status.{Status}
use Rattle.release_statuses.specs.declared.status.Status.TheVariants as status
use Rattle.script_state.specs.Runner.{RunnerState}

-- The pieces of rows.

abbrev pub tuple_of : List Term → Term
tuple_of ts = Tuple (trees ts)

abbrev pub word : List ℕ → Term
word name = Atom name

-- a text, by its characters
abbrev pub string : List ℕ → Term
string cs = ListOf (integers cs)

-- a number; the greatest integer of a term for any above it
abbrev pub number : ℕ → Term
number n = Int (pos (min n (2 ^ 63 - 1)))

-- Processes: `{Pid,Name,Code,Activity,Queued,Child}`. Name is `undefined` if it is not registered, Queued how many messages wait,
-- and Child the child that it is, `{App,Id}` or `none`.

abbrev pub name_term : Option (List ℕ) → Term
name_term None = word (codes "undefined")
name_term (Some name) = Atom name

-- `{server,Mod}` or `{loop,Mod,Function}`: where it rests, or rested when it took the message that it runs
abbrev pub code_term : Place → Term
code_term (Server m s) = tuple_of (word (codes "server") ∷ Atom m ∷ [])
code_term (Loop m serial name args) = tuple_of (word (codes "loop") ∷ Atom m ∷ Atom name ∷ [])

abbrev pub activity_term : Activity → Term
activity_term Idle = word (codes "idle")
activity_term Suspended = word (codes "suspended")
activity_term (Runs running) = word (codes "running")

abbrev pub child_in : Option Application → Option Child → Term
child_in None c = word (codes "none")
child_in (Some a) None = word (codes "none")
child_in (Some a) (Some c) = tuple_of (Atom a.spec.name ∷ c.spec.id ∷ [])

abbrev pub child_at_spot : Option Spot → List Application → Term
child_at_spot None apps = word (codes "none")
child_at_spot (Some spot) apps = child_in (slice_get apps spot.app) (child_at spot apps)

abbrev pub child_term : ℕ → List Application → Term
child_term pid apps = child_at_spot (spot_by_pid pid apps) apps

abbrev pub process_row : List Application → ℕ × ProcessEntry → Term
process_row apps it = tuple_of (Pid it.0 ∷ name_term it.1.process.name ∷ code_term it.1.process.place
    ∷ activity_term it.1.process.activity ∷ number (length it.1.process.mailbox) ∷ child_term it.0 apps ∷ [])

-- of those that live, in order of pid
abbrev pub process_rows : Table → List Application → List Term
process_rows t apps = map (process_row apps) (alive t.slots)

-- Children: `{App,Id,Pid,Restart,State}`, application after application. Pid is `none` if it doesn't run; State is `running`,
-- `due` if it is to be started again, or `stopped`.

abbrev pub pid_term : ChildState → Term
pid_term (Running pid) = Pid pid
pid_term Due = word (codes "none")
pid_term Stopped = word (codes "none")

abbrev pub state_term : ChildState → Term
state_term (Running pid) = word (codes "running")
state_term Due = word (codes "due")
state_term Stopped = word (codes "stopped")

abbrev pub restart_term : Restart → Term
restart_term Permanent = word (codes "permanent")
restart_term Transient = word (codes "transient")
restart_term Temporary = word (codes "temporary")

abbrev pub child_row : List ℕ → Child → Term
child_row app c = tuple_of (Atom app ∷ c.spec.id ∷ pid_term c.state ∷ restart_term c.spec.restart ∷ state_term c.state ∷ [])

abbrev pub children_of : Application → List Term
children_of a = map (child_row a.spec.name) a.children

abbrev pub child_rows : List Application → List Term
child_rows apps = flat_map children_of apps

-- Jobs that are kept: `{J,Pid,State}`, J counted from 1. State is `ready` if a commit of it is not refused, and else `stale`.

abbrev pub job_row : ℕ → Job → List ℕ → Term
job_row n job state = tuple_of (number n ∷ Pid job.pid ∷ word state ∷ [])

pub data IsJobRow (t : Table) (n : ℕ) (job : Job) : Term → Type 0 where
  ready : CanCommit job t → IsJobRow t n job (job_row n job (codes "ready"))
  stale : (why : ProcError) → RefusesCommit why job t → IsJobRow t n job (job_row n job (codes "stale"))

-- the rows of jobs, of which the first has this number
abbrev pub AreJobRows : Table → ℕ → List Job → List Term → Type 0
AreJobRows t n [] [] = Unit {0}
AreJobRows t n [] (row ∷ rows) = ⊥
AreJobRows t n (job ∷ jobs) [] = ⊥
AreJobRows t n (job ∷ jobs) (row ∷ rows) = IsJobRow t n job row × AreJobRows t (n + 1) jobs rows

-- The script that runs: `{installing,"Vsn",Next,Count,Instruction,Waits}`, a row, or none. Vsn is the release that is being
-- installed, Next the number of the next instruction, counted from 1, of Count; Instruction is its term, or `end`; and Waits is
-- `{busy,Pid}` if the next step would wait for a process that runs, and else `ready`.

abbrev pub next_term : Option Low → Term
next_term None = word (codes "end")
next_term (Some instruction) = term_of (low_tree instruction)

abbrev pub waits_term : Option ℕ → Term
waits_term None = word (codes "ready")
waits_term (Some pid) = tuple_of (word (codes "busy") ∷ Pid pid ∷ [])

abbrev pub script_row : Option ℕ → RunnerState → Term
script_row busy r = tuple_of (word (codes "installing") ∷ string r.target ∷ number (r.progress.next + 1) ∷ number (length r.script)
    ∷ next_term (slice_get r.script r.progress.next) ∷ waits_term busy ∷ [])

-- Releases: `{Name,Vsn,Status,Meaning}`, as `which` has them.

abbrev pub status_word : Status → List ℕ
status_word status.Unpacked = codes "unpacked"
status_word status.Current = codes "current"
status_word status.Permanent = codes "permanent"
status_word status.Old = codes "old"

abbrev pub meaning_of : Status → List ℕ
meaning_of status.Unpacked = codes "it is known, and was not installed"
meaning_of status.Current = codes "it runs, until the node restarts"
meaning_of status.Permanent = codes "it runs after a restart"
meaning_of status.Old = codes "it was installed, and another has taken its place"

abbrev pub release_row : Listed → Term
release_row it = tuple_of (string it.release.rel.name ∷ string it.release.rel.vsn ∷ word (status_word it.status)
    ∷ string (chars (meaning_of it.status)) ∷ [])

abbrev pub release_rows : List Listed → List Term
release_rows releases = map release_row (which_releases releases)

-- Rows as they are written: one term, a list, with each element on a line of its own.

abbrev pub others_text : List Term → List ℕ
others_text rows = flat_map (λ row. codes ",\n " ++ utf8 (text (tree row))) rows

abbrev pub rows_text : List Term → List ℕ
rows_text [] = codes "[]\n"
rows_text (row ∷ rows) = codes "[" ++ (utf8 (text (tree row)) ++ (others_text rows ++ codes "]\n"))
