-- What the shell may do where a line asks for something: by what lack of memory makes of it, one clause a way. What
-- releases and scripts are asked for is `shell_upgrades`', and relups are `shell_relups`'.
use Rattle.std.specs.Prelude.{◌≡◌, ◌≢◌, ℕ, [], List, Option, None, Some}
use Rattle.erl_parse.specs.Sources.{IsNoSource, IsSource}
use Rattle.erl_parse.specs.Telling.{Says}
use Rattle.erl_parse.specs.declared.error.LangError.{LangError}
use Rattle.erl_ir.specs.Module.{Forms}
use Rattle.erl_scan.specs.declared.error.Fault.{Fault}
use Rattle.erl_term.specs.Term.{tree}
use Rattle.erl_term.specs.Tree.{Tree}
use Rattle.erl_term.specs.declared.term.Term.{Term}
use Rattle.erl_term.specs.declared.term.Term.TheVariants.{Atom}
use Rattle.process_store.specs.Table.{pid_of}
use Rattle.process_table.specs.declared.body.ClientMessage.{ClientMessage}
use Rattle.process_table.specs.declared.body.ClientMessage.TheVariants as body
use Rattle.shell_upgrades.specs.Node.{NodeState}
use Rattle.node_types.specs.declared.event.Event.{Event}
use Rattle.node_types.specs.declared.event.Event.TheVariants as event
use Rattle.release_files.specs.Files.{file_of}
use Rattle.release_files.specs.declared.fault.FileFault.TheVariants as file
use Rattle.shell_answers.specs.Answers.{called, fixed}
use Rattle.shell_answers.specs.Faults.{file_fault, term_fault}
use Rattle.shell_answers.specs.Refusals.{naming_nothing}
use Rattle.shell_answers.specs.declared.fixed.Fixed.TheVariants as words
use Rattle.shell_requests.specs.Request.{Request, Spoken, Who, ask, change, load, undo, forget, commit, arrive, serve, revive, unpack, release, relup, advance, sweep, numbered, named, too_long, silent, unknown, asks}
use Rattle.shell_requests.specs.declared.request.ArrivalKind.{ArrivalKind}
use Rattle.shell_requests.specs.declared.request.ArrivalKind.TheVariants as arrivals
use Rattle.shell_requests.specs.declared.request.CodeOperation.{CodeOperation}
use Rattle.shell_requests.specs.declared.request.CodeOperation.TheVariants as changes
use Rattle.shell_upgrades.specs.Performing.{Performs, done_by}
use Rattle.shell_upgrades.specs.Serving.{Asks, CommitsKept, Forgets, ServesAs, Undoes, kept_job}
use Rattle.shell_upgrades.specs.State.{Effect, ShellState, answered, next_number, node_of, with_call}
use Rattle.shell_upgrades.specs.Fate.{Fate}
use Rattle.shell_upgrades.specs.Fate.TheVariants.{Refused}
use Rattle.shell_relups.specs.Relups.{TellsRelup}
use Rattle.shell_upgrades.specs.Upgrades.{AdvancesScript, AltersReleases, Sweeps, Unpacks}
use Rattle.shell_requests.specs.Terms.{IsRead, one, not_one, faulty}

-- `delete`, `purge`, `soft_purge MOD`

abbrev pub change_event : CodeOperation → List ℕ → Event
change_event changes.Delete name = event.Delete name
change_event changes.Purge name = event.Purge name
change_event changes.SoftPurge name = event.SoftPurge name

abbrev pub Changes : ShellState → CodeOperation → List ℕ → Option Fate → Effect → Type 0
Changes s kind name fate d =
    Performs s s (change_event kind name) naming_nothing (done_by s (change_event kind name)) fate d

-- `load MOD PATH`: a fault of the file is answered before a refusal. If an allocation fails while the source is read, nothing is
-- known of either.
pub data Loads (s : ShellState) (name path : List ℕ) : Option Fate → Effect → Type 0 where
  missing : file_of path s.files ≡ None → Loads s name path None (answered s (file_fault path file.Missing))
  no_source : (bytes : List ℕ) (why : LangError) → file_of path s.files ≡ Some bytes → Says bytes why → IsNoSource bytes →
      Loads s name path None (answered s (file_fault path (file.Lang why)))
  another : (bytes : List ℕ) (m : Forms) → file_of path s.files ≡ Some bytes → IsSource bytes m → m.name ≢ name →
      Loads s name path None (answered s (file_fault path file.WrongModule))
  read : (bytes : List ℕ) (m : Forms) (fate : Option Fate) (d : Effect) → file_of path s.files ≡ Some bytes →
      IsSource bytes m → m.name ≡ name →
      Performs s s (event.Load m) naming_nothing (done_by s (event.Load m)) fate d → Loads s name path fate d
  unread : (bytes : List ℕ) → file_of path s.files ≡ Some bytes →
      Loads s name path (Some Refused) (answered s (fixed words.Memory))

-- `call`, `cast`, `send NAME TERM`: a fault of the term is answered before a refusal. If an allocation fails while the line is
-- read, nothing is known of either. A call is counted if its arrival is tried: its term was read, and no allocation failed.

abbrev pub body_of : ArrivalKind → ℕ → Term → ClientMessage
body_of arrivals.Call number t = body.Call number t
body_of arrivals.Cast number t = body.Cast t
body_of arrivals.Info number t = body.Info t

abbrev pub event_of_arrival : ArrivalKind → ℕ → List ℕ → Term → Event
event_of_arrival kind number name t = event.Arrive 0 name (body_of kind number t)

abbrev pub arrival_event : ShellState → ArrivalKind → List ℕ → Term → Event
arrival_event s kind name t = event_of_arrival kind (next_number s) name t

abbrev pub tried : ArrivalKind → ShellState → ShellState
tried arrivals.Call s = with_call s
tried arrivals.Cast s = s
tried arrivals.Info s = s

abbrev pub arrival_answer : ArrivalKind → ℕ → Tree
arrival_answer arrivals.Call number = called number
arrival_answer arrivals.Cast number = fixed words.Done
arrival_answer arrivals.Info number = fixed words.Done

pub data Arrives (s : ShellState) (kind : ArrivalKind) (name text : List ℕ) : Option Fate → Effect → Type 0 where
  no_text : (fault : Fault) (at : ℕ) → IsRead text (faulty fault at) →
      Arrives s kind name text None (answered s (term_fault fault at))
  several : IsRead text not_one → Arrives s kind name text None (answered s (fixed words.BadCommand))
  read : (t : Term) (fate : Option Fate) (d : Effect) → IsRead text (one (tree t)) →
      Performs s (tried kind s) (arrival_event s kind name t) naming_nothing
      (done_by (tried kind s) (arrival_event s kind name t)) fate d →
      Arrives s kind name text fate d
  unread : Arrives s kind name text (Some Refused) (answered s (fixed words.Memory))

-- `take`, `retake`, `proc PROC`

-- the pid that is meant, if it is one's
abbrev pub pid_meant : Who → NodeState → Option ℕ
pid_meant (numbered pid) n = Some pid
pid_meant (named name) n = pid_of name n.processes

-- `revive APP ID`

abbrev pub RevivesChild : ShellState → List ℕ → List ℕ → Option Fate → Effect → Type 0
RevivesChild s app id fate d =
    Performs s s (event.Revive app (Atom id)) naming_nothing (done_by s (event.Revive app (Atom id))) fate d

-- What the shell may do of a request, by what became of it for lack of memory.
abbrev pub Executes : Option Fate → ShellState → Request → Effect → Type 0
Executes fate s (ask question) d = Asks s question fate d
Executes fate s (change kind name) d = Changes s kind name fate d
Executes fate s (load name path) d = Loads s name path fate d
Executes fate s (undo mark) d = Undoes s mark fate d
Executes fate s (forget mark) d = Forgets s mark fate d
Executes fate s (commit job) d = CommitsKept s (kept_job job s.jobs) fate d
Executes fate s (arrive kind name text) d = Arrives s kind name text fate d
Executes fate s (serve service who) d = ServesAs s service (pid_meant who (node_of s)) fate d
Executes fate s (revive app id) d = RevivesChild s app id fate d
Executes fate s (unpack vsn) d = Unpacks s vsn fate d
Executes fate s (release kind vsn) d = AltersReleases s kind vsn fate d
Executes fate s (relup from to) d = TellsRelup s from to fate d
Executes fate s (advance give_up) d = AdvancesScript s give_up fate d
Executes fate s sweep d = Sweeps s fate d

-- and where this is said in a line
abbrev pub ExecutesLine : Option Fate → ShellState → Spoken → Effect → Type 0
ExecutesLine fate s too_long d = (fate ≡ None) × (d ≡ answered s (fixed words.LineTooLong))
ExecutesLine fate s silent d = (fate ≡ None) × (d ≡ record { text = []; after = s; command = None })
ExecutesLine fate s unknown d = (fate ≡ None) × (d ≡ answered s (fixed words.BadCommand))
ExecutesLine fate s (asks request) d = Executes fate s request d
